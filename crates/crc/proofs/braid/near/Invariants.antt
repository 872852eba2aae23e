-- `crc::braid::near`: the steps that are left lead to the result. Assumes nothing.
use mathlib.Core.Path.{◌≡◌}
use Prim.Native.Nat.{◌-◌, ◌*◌}
use Rattle.crc.specs.Register.{steps}
use Rattle.crc.proofs.braid.near.Given as goal

abbrev pub invariant-loop : goal.invariant-loop
invariant-loop l = steps (4 * (8 - l.counter)) l.y ≡ steps 32 l.x

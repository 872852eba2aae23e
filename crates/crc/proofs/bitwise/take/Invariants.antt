-- `crc::bitwise::take`: the steps that are left lead to the result. Assumes nothing.
use mathlib.Core.Path.{◌≡◌}
use Prim.Native.Nat.{◌-◌}
use Rattle.crc.specs.Register.{steps, taken}
use Rattle.crc.proofs.bitwise.take.Given as goal

abbrev pub invariant-loop : goal.invariant-loop
invariant-loop l = steps (8 - l.counter) l.x ≡ taken l.c l.b

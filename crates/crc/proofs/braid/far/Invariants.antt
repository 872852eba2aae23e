-- `crc::braid::far`: r, and what is left of y, make the result. Assumes nothing.
use mathlib.Core.Path.{◌≡◌}
use Prim.Native.Nat.{◌+◌, ◌-◌, ◌*◌, ◌/◌, ◌^◌}
use lib.Bits.{bit_xor}
use Rattle.crc.specs.Register.{steps}
use Rattle.crc.proofs.braid.far.Given as goal

abbrev pub invariant-loop-j : goal.invariant-loop-j
invariant-loop-j l = (l.y ≡ l.x / 2 ^ (4 * l.j)) × (bit_xor l.r (steps (96 + 4 * (8 - l.j)) l.y) ≡ steps 128 l.x)

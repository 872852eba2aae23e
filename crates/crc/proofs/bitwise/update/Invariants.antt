-- `crc::bitwise::update`: the bytes that are left lead to the result. Assumes nothing.
use mathlib.Core.Path.{◌≡◌}
use lib.ListN.{drop}
use Rattle.crc.specs.Register.{updated}
use Rattle.crc.proofs.bitwise.update.Given as goal

abbrev pub invariant-loop-b : goal.invariant-loop-b
invariant-loop-b l = updated l.x (drop l.b-index l.bytes) ≡ updated l.c l.bytes

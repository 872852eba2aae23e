-- `crc::nibble::update`: the bytes that are left lead to the result. Assumes nothing.
use mathlib.Core.Path.{◌≡◌}
use lib.ListN.{drop}
use Rattle.crc.specs.Register.{updated}
use Rattle.crc.proofs.nibble.update.Given as goal

abbrev pub invariant-loop-i : goal.invariant-loop-i
invariant-loop-i l = updated l.x (drop l.i l.bytes) ≡ updated l.c l.bytes

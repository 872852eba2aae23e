-- `crc::braid::update`: the lanes, woven into the bytes that are left, lead to the result. Assumes nothing.
use mathlib.Core.Path.{◌≡◌}
use Prim.Native.Nat.{◌≤◌}
use lib.ListN.{length}
use Rattle.types.specs.Bytes.{Bytes}
use Rattle.crc.specs.Register.{updated}
use Rattle.crc.specs.Tables.{woven}
use Rattle.crc.proofs.braid.update.Given as goal

abbrev pub invariant-loop-rest : goal.invariant-loop-rest
invariant-loop-rest l = (16 ≤ length l.rest) × Bytes l.rest × (woven l.l.a l.l.b l.l.c l.l.d l.rest ≡ updated l.c l.bytes)

abbrev pub decreases-loop-rest : goal.decreases-loop-rest
decreases-loop-rest l = length l.rest

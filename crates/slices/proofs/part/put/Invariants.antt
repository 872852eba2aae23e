-- `slices::part::put`: after i turns the first i bytes are put. Assumes nothing.
use Prim.Native.Nat.{◌-◌, ◌≤◌, min}
use mathlib.Core.Path.{◌≡◌}
use lib.ListN.{length, take}
use Rattle.slices.specs.Patch.{over}
use Rattle.slices.proofs.part.put.Given as goal

abbrev pub invariant-loop-i : goal.invariant-loop-i
invariant-loop-i l = (l.i ≤ l.n) × ((l.n ≡ min (length l.bytes) (length l.initial.part)) × ((length l.part ≡ length l.initial.part) × (l.part ≡ over (take l.i l.bytes) l.initial.part)))

abbrev pub decreases-loop-i : goal.decreases-loop-i
decreases-loop-i l = l.n - l.i

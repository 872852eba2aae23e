-- `alloc::marks::free_between`: what is left to look at has the same first free page as the whole. Assumes nothing.
use mathlib.Core.Path.{◌≡◌}
use Prim.Native.Nat.{◌-◌}
use Rattle.alloc.specs.Marks.{marks_of}
use Rattle.alloc.specs.Search.{up_from, first_free}
use Rattle.alloc.proofs.marks.free_between.Given as goal

abbrev pub invariant-loop-i : goal.invariant-loop-i
invariant-loop-i l = first_free (marks_of l.pages) (up_from l.i (l.to - l.i)) ≡ first_free (marks_of l.pages) (up_from l.from (l.to - l.from))

abbrev pub decreases-loop-i : goal.decreases-loop-i
decreases-loop-i l = l.to - l.i

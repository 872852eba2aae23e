-- `page::walk::walk_end`: the walk from `at` ends where the whole one does. Assumes nothing.
use Prim.Native.Nat.{◌-◌}
use mathlib.Core.Path.{◌≡◌}
use Rattle.types.specs.Build.{page_size}
use Rattle.page.specs.Walks.{walk_end}
use Rattle.page.proofs.walk.walk_end.Given as goal

abbrev pub invariant-loop-chunk : goal.invariant-loop-chunk
invariant-loop-chunk l = walk_end l.page l.at ≡ walk_end l.page l.from

abbrev pub decreases-loop-chunk : goal.decreases-loop-chunk
decreases-loop-chunk l = page_size - l.at

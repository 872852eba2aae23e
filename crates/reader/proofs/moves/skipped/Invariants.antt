-- `reader::moves::skipped`: what is still wanted, from where the reader is, comes to what was wanted at first.
-- Assumes nothing.
use Prim.Native.Nat.{◌-◌}
use mathlib.Core.Path.{◌≡◌}
use Rattle.types.specs.Build.{page_size}
use Rattle.reader.specs.Moves.{Whole, skipped}
use Rattle.reader.proofs.moves.skipped.Given as goal

abbrev pub invariant-loop-r : goal.invariant-loop-r
invariant-loop-r l = Whole l.r × (skipped l.page l.want l.r ≡ skipped l.page l.count l.initial.r)

abbrev pub decreases-loop-r : goal.decreases-loop-r
decreases-loop-r l = page_size - l.r.offset

-- `page::walk::all_erased`: what is left from i on decides. Assumes nothing.
use Prim.Native.Nat.{◌≤◌}
use mathlib.Core.Path.{◌≡◌}
use lib.ListN.{length, drop}
use Rattle.page.specs.Walks.{all_erased}
use Rattle.page.proofs.walk.all_erased.Given as goal

abbrev pub invariant-loop-i : goal.invariant-loop-i
invariant-loop-i l = (l.i ≤ length l.bytes) × (all_erased l.value (drop l.i l.bytes) ≡ all_erased l.value l.bytes)

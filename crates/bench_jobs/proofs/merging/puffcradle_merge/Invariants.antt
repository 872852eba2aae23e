-- `bench_jobs::merging::puffcradle_merge`: the calls that are left come to the whole. Assumes nothing.
use mathlib.Core.Path.{◌≡◌}
use Prim.Native.Nat.{◌-◌}
use lib.ListN.{length}
use Rattle.bench_jobs.specs.Merges.{merge_state, merge_on, merge_all}
use Rattle.bench_jobs.proofs.merging.puffcradle_merge.Given as goal

abbrev pub invariant-loop-i : goal.invariant-loop-i
invariant-loop-i l = (length l.key ≡ length l.initial.key) × (length l.value ≡ length l.initial.value)
    × (merge_on (l.most - l.i) l.runs l.ends (merge_state l.m l.key l.value) ≡ merge_all l.most l.runs l.ends l.initial.key l.initial.value)

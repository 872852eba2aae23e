use mathlib.Core.Path.{◌≡◌}
use Rattle.bench_jobs.specs.Allocations.{allocate_first}
use Rattle.bench_jobs.proofs.allocating.allocate_first.Given as goal

abbrev pub invariant-loop-i : goal.invariant-loop-i
invariant-loop-i l = l.t ≡ allocate_first l.i l.initial.t

use mathlib.Core.Path.{◌≡◌}
use Rattle.bench_jobs.specs.Allocations.{free_first}
use Rattle.bench_jobs.proofs.allocating.free_first.Given as goal

abbrev pub invariant-loop-i : goal.invariant-loop-i
invariant-loop-i l = l.t ≡ free_first l.i l.initial.t

use mathlib.Core.Path.{refl}
use native.Mathlib.Omega.{arith}
use Rattle.bench_jobs.specs.Allocations.{allocate_first}
use Rattle.bench_jobs.proofs.AllocationLaws.{allocate-again, allocate-end}
use Rattle.bench_jobs.proofs.allocating.allocate_first.Goals as goal

pub loop-i-init : goal.loop-i-init
unfolding allocate_first
loop-i-init c = refl

pub loop-i-preserved : goal.loop-i-preserved
loop-i-preserved c = allocate-again _ _ _ _ c.loop-i.invariant c.allocate_one-t.ensures.answers

pub returns : goal.returns
returns c = record { answers = allocate-end _ _ _ (omega arith) (omega arith) c.loop-i.invariant }

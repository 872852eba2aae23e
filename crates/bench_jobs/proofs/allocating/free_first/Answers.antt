use mathlib.Core.Path.{refl}
use native.Mathlib.Omega.{arith}
use Rattle.bench_jobs.specs.Allocations.{free_first}
use Rattle.bench_jobs.proofs.AllocationLaws.{free-again, free-end}
use Rattle.bench_jobs.proofs.allocating.free_first.Goals as goal

pub loop-i-init : goal.loop-i-init
unfolding free_first
loop-i-init c = refl

pub loop-i-preserved : goal.loop-i-preserved
loop-i-preserved c = free-again _ _ _ _ c.loop-i.invariant c.free_one-t.ensures.answers

pub returns : goal.returns
returns c = record { answers = free-end _ _ _ (omega arith) (omega arith) c.loop-i.invariant }

-- `bench_jobs::merging::puffcradle_merge`: the calls that are left come to the whole. Assumes nothing.
use mathlib.Core.Path.{refl, ◌∙◌}
use native.Mathlib.Omega.{arith}
use borrow.Author.Tests.{not-true, not-false}
use Rattle.bench_jobs.proofs.MergingLaws.{calls-start, calls-stop, calls-none, calls-more}
use Rattle.bench_jobs.proofs.merging.puffcradle_merge.Goals as goal

pub loop-i-init : goal.loop-i-init
loop-i-init c = (refl, refl, calls-start _ _ _ _ _ _ _ (omega arith) c.merge_begun-m.ensures.answers)

pub returns-then-not-m : goal.returns-then-not-m
returns-then-not-m c =
    let all = calls-stop _ _ _ _ _ _ _ c.loop-i.invariant.2 (not-true _ c.if-not-m.true) in
    record {
      answers = all.0;
      bytes = all.1;
    }

pub loop-i-preserved : goal.loop-i-preserved
loop-i-preserved c = (
  c.merge_one-m.auto.key ∙ c.loop-i.invariant.0,
  c.merge_one-m.auto.value ∙ c.loop-i.invariant.1,
  calls-more _ _ _ _ _ _ _ c.loop-i.invariant.2 _ _ _ _ (omega arith) (not-false _ c.if-not-m.false) c.merge_one-m.ensures.answers
      c.merge_one-m.ensures.bytes,
)

pub returns : goal.returns
returns c =
    let all = calls-none _ _ _ _ _ _ _ c.loop-i.invariant.2 (omega arith) in
    record {
      answers = all.0;
      bytes = all.1;
    }

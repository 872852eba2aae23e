-- `bench_jobs::writing::write_all`: the writes that are left come to the whole. Assumes nothing.
use mathlib.Core.Path.{◌∙◌}
use native.Mathlib.Omega.{arith}
use Rattle.bench_jobs.proofs.WritingLaws.{writes-stop, writes-none, writes_more}
use Rattle.bench_jobs.proofs.writing.write_all.Goals as goal

pub returns-then-not-unwrap_or : goal.returns-then-not-unwrap_or
returns-then-not-unwrap_or c =
    let all = writes-stop _ _ _ _ _ _ c.loop-i.invariant.1 _ c.unwrap_or.ensures c.if-not-unwrap_or.true in
    record {
      answers = all.0;
      bytes = all.1;
    }

pub loop-i-preserved : goal.loop-i-preserved
loop-i-preserved c = (
  c.write_one-w.auto.flash ∙ c.loop-i.invariant.0,
  writes_more _ _ _ _ _ _ c.loop-i.invariant.1 _ _ _ _ (omega arith) c.unwrap_or.ensures c.if-not-unwrap_or.false
      c.write_one-w.ensures.answers c.write_one-w.ensures.bytes,
)

pub returns : goal.returns
returns c =
    let all = writes-none _ _ _ _ _ _ c.loop-i.invariant.1 (omega arith) in
    record {
      answers = all.0;
      bytes = all.1;
    }

-- `bench_jobs::reading::read_pieces`: the reads that are left come to the whole. Assumes nothing.
use mathlib.Core.Path.{◌∙◌}
use native.Mathlib.Omega.{arith}
use Rattle.bench_jobs.proofs.ReadingLaws.{reads-stop, reads_none, reads_more}
use Rattle.bench_jobs.proofs.reading.read_pieces.Goals as goal

pub returns-then-not-unwrap_or : goal.returns-then-not-unwrap_or
returns-then-not-unwrap_or c =
    let all = reads-stop _ _ _ _ _ c.loop-i.invariant.1 _ c.unwrap_or.ensures c.if-not-unwrap_or.true in
    record {
      answers = all.0;
      bytes = all.1;
    }

pub loop-i-preserved : goal.loop-i-preserved
loop-i-preserved c = (
  c.read_one-r.auto.out ∙ c.loop-i.invariant.0,
  reads_more _ _ _ _ _ c.loop-i.invariant.1 _ _ _ _ (omega arith) c.unwrap_or.ensures c.if-not-unwrap_or.false
      c.read_one-r.ensures.answers c.read_one-r.ensures.bytes,
)

pub returns : goal.returns
returns c =
    let all = reads_none _ _ _ _ _ c.loop-i.invariant.1 (omega arith) in
    record {
      answers = all.0;
      bytes = all.1;
    }

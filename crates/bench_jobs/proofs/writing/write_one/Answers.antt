use native.Mathlib.Omega.{arith}
use Rattle.bench_jobs.proofs.WritingLaws.{write-fits}
use Rattle.bench_jobs.proofs.writing.write_one.Goals as goal

pub after_write-requires : goal.after_write-requires
after_write-requires c =
    let a = c.args in
    write-fits a.payload.now a.piece a.flash.now a.w.writer a.w.left c.min-from.result c.part_of.result.now c.write-wrote.result (omega arith) c.part_of.ensures.answers
    c.write-wrote.ensures.answers (omega arith)

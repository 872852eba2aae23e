use native.Mathlib.Omega.{arith}
use Rattle.bench_jobs.proofs.ReadingLaws.{put-within}
use Rattle.bench_jobs.proofs.reading.read_one.Goals as goal

pub overflow_add-result : goal.overflow_add-result
overflow_add-result c =
    let a = c.args in
    let within = put-within a.flash.now a.out.now a.r.reader c.min-from.result c.read-passage.result c.in-Ok.n c.read-passage.ensures.answers c.in-Ok.is (omega arith) in
    omega arith

-- One outcome for every function of `bench_jobs` that is open to callers: each line cites the function's own promise. Assumes nothing.
use Rattle.bench_jobs.proofs.allocating.puffcradle_alloc_cycle.Reads.{Learnt as puffcradle-alloc-cycle}
use Rattle.bench_jobs.proofs.several.puffcradle_alloc_each.Reads.{Learnt as puffcradle-alloc-each}
use Rattle.bench_jobs.proofs.merging.puffcradle_merge.Reads.{Learnt as puffcradle-merge}
use Rattle.bench_jobs.proofs.reading.puffcradle_read_page.Reads.{Learnt as puffcradle-read-page}
use Rattle.bench_jobs.proofs.sums.puffcradle_crc32.Reads.{Learnt as puffcradle-crc32}
use Rattle.bench_jobs.proofs.sums.puffcradle_crc32_nibble.Reads.{Learnt as puffcradle-crc32-nibble}
use Rattle.bench_jobs.proofs.writing.puffcradle_write_page.Reads.{Learnt as puffcradle-write-page}
use Rattle.claims.specs.Outcomes.{OneOutcome, beside}
use Rattle.claims.proofs.OutcomeLaws.{one, two, three}

pub one-puffcradle-alloc-cycle : OneOutcome puffcradle-alloc-cycle (λ r e. r)
one-puffcradle-alloc-cycle k a r r' e e' p q = one p q

pub one-puffcradle-alloc-each : OneOutcome puffcradle-alloc-each (λ r e. beside r e.1.1.0.now)
one-puffcradle-alloc-each k a r r' e e' p q = two p q

pub one-puffcradle-merge : OneOutcome puffcradle-merge (λ r e. beside r (beside e.1.1.1.0.now e.1.1.1.1.0.now))
one-puffcradle-merge k a r r' e e' p q = three p q

pub one-puffcradle-read-page : OneOutcome puffcradle-read-page (λ r e. beside r (beside e.1.1.1.0.now e.1.1.1.1.0.now))
one-puffcradle-read-page k a r r' e e' p q = three p q

pub one-puffcradle-crc32 : OneOutcome puffcradle-crc32 (λ r e. r)
one-puffcradle-crc32 k a r r' e e' p q = one p q

pub one-puffcradle-crc32-nibble : OneOutcome puffcradle-crc32-nibble (λ r e. r)
one-puffcradle-crc32-nibble k a r r' e e' p q = one p q

pub one-puffcradle-write-page : OneOutcome puffcradle-write-page (λ r e. beside r e.0.now)
one-puffcradle-write-page k a r r' e e' p q = two p q

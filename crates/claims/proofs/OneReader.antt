-- One outcome for every function of `reader` that is open to callers: each line cites the function's own promise. Assumes nothing.
use Rattle.reader.proofs.header.read_header.Reads.{Learnt as read-header}
use Rattle.reader.proofs.page_reader.PageReader.new.Reads.{Learnt as PageReader-new}
use Rattle.reader.proofs.page_reader.PageReader.open.Reads.{Learnt as PageReader-open}
use Rattle.reader.proofs.page_reader.PageReader.read.Reads.{Learnt as PageReader-read}
use Rattle.reader.proofs.page_reader.PageReader.skip.Reads.{Learnt as PageReader-skip}
use Rattle.reader.proofs.page_reader.PageReader.is_at_eof.Reads.{Learnt as PageReader-is-at-eof}
use Rattle.reader.proofs.page_reader.PageReader.dehydrate.Reads.{Learnt as PageReader-dehydrate}
use Rattle.reader.proofs.page_reader.PageReader.rehydrate_from.Reads.{Learnt as PageReader-rehydrate-from}
use Rattle.reader.proofs.page_reader.PageReader.page_id.Reads.{Learnt as PageReader-page-id}
use Rattle.reader.proofs.dehydrated.DehydratedPageReaderFromPageReader.from.Reads.{Learnt as DehydratedPageReaderFromPageReader-from}
use Rattle.reader.proofs.answers.EndTest.at_end.Reads.{Learnt as EndTest-at-end}
use Rattle.claims.specs.Outcomes.{OneOutcome, beside}
use Rattle.claims.proofs.OutcomeLaws.{one, two}

pub one-read-header : OneOutcome read-header (λ r e. beside r e.1.1.1.0.now)
one-read-header k a r r' e e' p q = two p q

pub one-PageReader-new : OneOutcome PageReader-new (λ r e. r)
one-PageReader-new k a r r' e e' p q = one p q

pub one-PageReader-open : OneOutcome PageReader-open (λ r e. beside r e.1.1.1.1.0.now)
one-PageReader-open k a r r' e e' p q = two p q

pub one-PageReader-read : OneOutcome PageReader-read (λ r e. beside r e.1.1.0.now)
one-PageReader-read k a r r' e e' p q = two p q

pub one-PageReader-skip : OneOutcome PageReader-skip (λ r e. r)
one-PageReader-skip k a r r' e e' p q = one p q

pub one-PageReader-is-at-eof : OneOutcome PageReader-is-at-eof (λ r e. r)
one-PageReader-is-at-eof k a r r' e e' p q = one p q

pub one-PageReader-dehydrate : OneOutcome PageReader-dehydrate (λ r e. r)
one-PageReader-dehydrate k a r r' e e' p q = one p q

pub one-PageReader-rehydrate-from : OneOutcome PageReader-rehydrate-from (λ r e. r)
one-PageReader-rehydrate-from k a r r' e e' p q = one p q

pub one-PageReader-page-id : OneOutcome PageReader-page-id (λ r e. r)
one-PageReader-page-id k a r r' e e' p q = one p q

pub one-DehydratedPageReaderFromPageReader-from : OneOutcome DehydratedPageReaderFromPageReader-from (λ r e. r)
one-DehydratedPageReaderFromPageReader-from k a r r' e e' p q = one p q

pub one-EndTest-at-end : OneOutcome EndTest-at-end (λ r e. r)
one-EndTest-at-end k a r r' e e' p q = one p q

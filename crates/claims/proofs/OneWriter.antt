-- One outcome for every function of `writer` that is open to callers: each line cites the function's own promise. Assumes nothing.
use Rattle.writer.proofs.page_writer.PageWriter.commit.Reads.{Learnt as PageWriter-commit}
use Rattle.writer.proofs.page_writer.PageWriter.write_header.Reads.{Learnt as PageWriter-write-header}
use Rattle.writer.proofs.page_writer.PageWriter.open.Reads.{Learnt as PageWriter-open}
use Rattle.writer.proofs.page_writer.PageWriter.open_append.Reads.{Learnt as PageWriter-open-append}
use Rattle.writer.proofs.page_writer.PageWriter.new.Reads.{Learnt as PageWriter-new}
use Rattle.writer.proofs.page_writer.PageWriter.len.Reads.{Learnt as PageWriter-len}
use Rattle.writer.proofs.page_writer.PageWriter.page_id.Reads.{Learnt as PageWriter-page-id}
use Rattle.writer.proofs.page_writer.PageWriter.write.Reads.{Learnt as PageWriter-write}
use Rattle.claims.specs.Outcomes.{OneOutcome, beside}
use Rattle.claims.proofs.OutcomeLaws.{one, two}

pub one-PageWriter-commit : OneOutcome PageWriter-commit (λ r e. beside r e.1.0.now)
one-PageWriter-commit k a r r' e e' p q = two p q

pub one-PageWriter-write-header : OneOutcome PageWriter-write-header (λ r e. beside r e.1.0.now)
one-PageWriter-write-header k a r r' e e' p q = two p q

pub one-PageWriter-open : OneOutcome PageWriter-open (λ r e. r)
one-PageWriter-open k a r r' e e' p q = one p q

pub one-PageWriter-open-append : OneOutcome PageWriter-open-append (λ r e. r)
one-PageWriter-open-append k a r r' e e' p q = one p q

pub one-PageWriter-new : OneOutcome PageWriter-new (λ r e. r)
one-PageWriter-new k a r r' e e' p q = one p q

pub one-PageWriter-len : OneOutcome PageWriter-len (λ r e. r)
one-PageWriter-len k a r r' e e' p q = one p q

pub one-PageWriter-page-id : OneOutcome PageWriter-page-id (λ r e. r)
one-PageWriter-page-id k a r r' e e' p q = one p q

pub one-PageWriter-write : OneOutcome PageWriter-write (λ r e. beside r e.1.0.now)
one-PageWriter-write k a r r' e e' p q = two p q

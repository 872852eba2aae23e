-- One outcome for every function of `page` that is open to callers: each line cites the function's own promise. Assumes nothing.
use Rattle.page.proofs.checks.check_page.Reads.{Learnt as check-page}
use Rattle.page.proofs.checks.check_open.Reads.{Learnt as check-open}
use Rattle.page.proofs.chunk.align_up.Reads.{Learnt as align-up}
use Rattle.page.proofs.chunk.chunk_header.Reads.{Learnt as chunk-header}
use Rattle.page.proofs.chunk.chunk_at.Reads.{Learnt as chunk-at}
use Rattle.page.proofs.chunk.payload_at.Reads.{Learnt as payload-at}
use Rattle.page.proofs.chunk.checked_at.Reads.{Learnt as checked-at}
use Rattle.page.proofs.header.check_header.Reads.{Learnt as check-header}
use Rattle.page.proofs.header.header_of.Reads.{Learnt as header-of}
use Rattle.page.proofs.header.page_header_fine.Reads.{Learnt as page-header-fine}
use Rattle.page.proofs.walk.walk_end.Reads.{Learnt as walk-end}
use Rattle.page.proofs.walk.all_erased.Reads.{Learnt as all-erased}
use Rattle.claims.specs.Outcomes.{OneOutcome}
use Rattle.claims.proofs.OutcomeLaws.{one}

pub one-check-page : OneOutcome check-page (λ r e. r)
one-check-page k a r r' e e' p q = one p q

pub one-check-open : OneOutcome check-open (λ r e. r)
one-check-open k a r r' e e' p q = one p q

pub one-align-up : OneOutcome align-up (λ r e. r)
one-align-up k a r r' e e' p q = one p q

pub one-chunk-header : OneOutcome chunk-header (λ r e. r)
one-chunk-header k a r r' e e' p q = one p q

pub one-chunk-at : OneOutcome chunk-at (λ r e. r)
one-chunk-at k a r r' e e' p q = one p q

pub one-payload-at : OneOutcome payload-at (λ r e. r.now)
one-payload-at k a r r' e e' p q = one p q

pub one-checked-at : OneOutcome checked-at (λ r e. r)
one-checked-at k a r r' e e' p q = one p q

pub one-check-header : OneOutcome check-header (λ r e. r)
one-check-header k a r r' e e' p q = one p q

pub one-header-of : OneOutcome header-of (λ r e. r.now)
one-header-of k a r r' e e' p q = one p q

pub one-page-header-fine : OneOutcome page-header-fine (λ r e. r)
one-page-header-fine k a r r' e e' p q = one p q

pub one-walk-end : OneOutcome walk-end (λ r e. r)
one-walk-end k a r r' e e' p q = one p q

pub one-all-erased : OneOutcome all-erased (λ r e. r)
one-all-erased k a r r' e e' p q = one p q

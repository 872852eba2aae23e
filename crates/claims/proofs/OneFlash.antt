-- One outcome for every function of `flash` that is open to callers: each line cites the function's own promise. Assumes nothing.
use Rattle.flash.proofs.geometry.check_flash.Reads.{Learnt as check-flash}
use Rattle.flash.proofs.geometry.whole_pages.Reads.{Learnt as whole-pages}
use Rattle.flash.proofs.geometry.has_page.Reads.{Learnt as has-page}
use Rattle.flash.proofs.geometry.page_start.Reads.{Learnt as page-start}
use Rattle.flash.proofs.geometry.page_of.Reads.{Learnt as page-of}
use Rattle.flash.proofs.ops.store_if.Reads.{Learnt as store-if}
use Rattle.flash.proofs.ops.erase_if.Reads.{Learnt as erase-if}
use Rattle.claims.specs.Outcomes.{OneOutcome, beside}
use Rattle.claims.proofs.OutcomeLaws.{one, two}

pub one-check-flash : OneOutcome check-flash (λ r e. r)
one-check-flash k a r r' e e' p q = one p q

pub one-whole-pages : OneOutcome whole-pages (λ r e. r)
one-whole-pages k a r r' e e' p q = one p q

pub one-has-page : OneOutcome has-page (λ r e. r)
one-has-page k a r r' e e' p q = one p q

pub one-page-start : OneOutcome page-start (λ r e. r)
one-page-start k a r r' e e' p q = one p q

pub one-page-of : OneOutcome page-of (λ r e. r.now)
one-page-of k a r r' e e' p q = one p q

pub one-store-if : OneOutcome store-if (λ r e. beside r e.1.0.now)
one-store-if k a r r' e e' p q = two p q

pub one-erase-if : OneOutcome erase-if (λ r e. beside r e.1.0.now)
one-erase-if k a r r' e e' p q = two p q

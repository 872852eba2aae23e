-- One outcome for every function of `alloc` that is open to callers: each line cites the function's own promise. Assumes nothing.
use Rattle.alloc.proofs.allocator.Allocator.new.Reads.{Learnt as Allocator-new}
use Rattle.alloc.proofs.allocator.Allocator.reset.Reads.{Learnt as Allocator-reset}
use Rattle.alloc.proofs.allocator.Allocator.try_allocate.Reads.{Learnt as Allocator-try-allocate}
use Rattle.alloc.proofs.allocator.Allocator.mark_used.Reads.{Learnt as Allocator-mark-used}
use Rattle.alloc.proofs.allocator.Allocator.free.Reads.{Learnt as Allocator-free}
use Rattle.alloc.proofs.allocator.Allocator.is_used.Reads.{Learnt as Allocator-is-used}
use Rattle.alloc.proofs.allocator.Allocator.used_pages.Reads.{Learnt as Allocator-used-pages}
use Rattle.alloc.proofs.allocator.Allocator.free_pages.Reads.{Learnt as Allocator-free-pages}
use Rattle.alloc.proofs.allocator.Allocator.page_count.Reads.{Learnt as Allocator-page-count}
use Rattle.alloc.proofs.allocator.Allocator.margin.Reads.{Learnt as Allocator-margin}
use Rattle.alloc.proofs.several.try_allocate_each.Reads.{Learnt as try-allocate-each}
use Rattle.alloc.proofs.several.free_each.Reads.{Learnt as free-each}
use Rattle.claims.specs.Outcomes.{OneOutcome, beside}
use Rattle.claims.proofs.OutcomeLaws.{one, two}

pub one-Allocator-new : OneOutcome Allocator-new (λ r e. r)
one-Allocator-new k a r r' e e' p q = one p q

pub one-Allocator-reset : OneOutcome Allocator-reset (λ r e. r)
one-Allocator-reset k a r r' e e' p q = one p q

pub one-Allocator-try-allocate : OneOutcome Allocator-try-allocate (λ r e. r)
one-Allocator-try-allocate k a r r' e e' p q = one p q

pub one-Allocator-mark-used : OneOutcome Allocator-mark-used (λ r e. r)
one-Allocator-mark-used k a r r' e e' p q = one p q

pub one-Allocator-free : OneOutcome Allocator-free (λ r e. r)
one-Allocator-free k a r r' e e' p q = one p q

pub one-Allocator-is-used : OneOutcome Allocator-is-used (λ r e. r)
one-Allocator-is-used k a r r' e e' p q = one p q

pub one-Allocator-used-pages : OneOutcome Allocator-used-pages (λ r e. r)
one-Allocator-used-pages k a r r' e e' p q = one p q

pub one-Allocator-free-pages : OneOutcome Allocator-free-pages (λ r e. r)
one-Allocator-free-pages k a r r' e e' p q = one p q

pub one-Allocator-page-count : OneOutcome Allocator-page-count (λ r e. r)
one-Allocator-page-count k a r r' e e' p q = one p q

pub one-Allocator-margin : OneOutcome Allocator-margin (λ r e. r)
one-Allocator-margin k a r r' e e' p q = one p q

pub one-try-allocate-each : OneOutcome try-allocate-each (λ r e. beside r e.1.0.now)
one-try-allocate-each k a r r' e e' p q = two p q

pub one-free-each : OneOutcome free-each (λ r e. r)
one-free-each k a r r' e e' p q = one p q

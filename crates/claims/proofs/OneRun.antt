-- One outcome for every function of `run` that is open to callers: each line cites the function's own promise. Assumes nothing.
use Rattle.run.proofs.bound.is_past.Reads.{Learnt as is-past}
use Rattle.run.proofs.record.Record.key_in.Reads.{Learnt as Record-key-in}
use Rattle.run.proofs.record.Record.value_in.Reads.{Learnt as Record-value-in}
use Rattle.run.proofs.record.head_at.Reads.{Learnt as head-at}
use Rattle.run.proofs.search.search.Reads.{Learnt as search}
use Rattle.claims.specs.Outcomes.{OneOutcome}
use Rattle.claims.proofs.OutcomeLaws.{one}

pub one-is-past : OneOutcome is-past (λ r e. r)
one-is-past k a r r' e e' p q = one p q

pub one-Record-key-in : OneOutcome Record-key-in (λ r e. r.now)
one-Record-key-in k a r r' e e' p q = one p q

pub one-Record-value-in : OneOutcome Record-value-in (λ r e. r.now)
one-Record-value-in k a r r' e e' p q = one p q

pub one-head-at : OneOutcome head-at (λ r e. r)
one-head-at k a r r' e e' p q = one p q

pub one-search : OneOutcome search (λ r e. r)
one-search k a r r' e e' p q = one p q

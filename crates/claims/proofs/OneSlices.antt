-- One outcome for every function of `slices` that is open to callers: each line cites the function's own promise. Assumes nothing.
use Rattle.slices.proofs.field.join32.Reads.{Learnt as join32}
use Rattle.slices.proofs.field.get16.Reads.{Learnt as get16}
use Rattle.slices.proofs.field.get32.Reads.{Learnt as get32}
use Rattle.slices.proofs.field.put16.Reads.{Learnt as put16}
use Rattle.slices.proofs.field.put32.Reads.{Learnt as put32}
use Rattle.slices.proofs.part.part_of.Reads.{Learnt as part-of}
use Rattle.slices.proofs.part.part_to.Reads.{Learnt as part-to}
use Rattle.slices.proofs.part.put.Reads.{Learnt as put}
use Rattle.slices.proofs.part.put_at.Reads.{Learnt as put-at}
use Rattle.slices.proofs.part.wipe.Reads.{Learnt as wipe}
use Rattle.claims.specs.Outcomes.{OneOutcome}
use Rattle.claims.proofs.OutcomeLaws.{one}

pub one-join32 : OneOutcome join32 (λ r e. r)
one-join32 k a r r' e e' p q = one p q

pub one-get16 : OneOutcome get16 (λ r e. r)
one-get16 k a r r' e e' p q = one p q

pub one-get32 : OneOutcome get32 (λ r e. r)
one-get32 k a r r' e e' p q = one p q

pub one-put16 : OneOutcome put16 (λ r e. r)
one-put16 k a r r' e e' p q = one p q

pub one-put32 : OneOutcome put32 (λ r e. r)
one-put32 k a r r' e e' p q = one p q

pub one-part-of : OneOutcome part-of (λ r e. r.now)
one-part-of k a r r' e e' p q = one p q

pub one-part-to : OneOutcome part-to (λ r e. r.now)
one-part-to k a r r' e e' p q = one p q

pub one-put : OneOutcome put (λ r e. e.0.now)
one-put k a r r' e e' p q = one p q

pub one-put-at : OneOutcome put-at (λ r e. e.0.now)
one-put-at k a r r' e e' p q = one p q

pub one-wipe : OneOutcome wipe (λ r e. e.0.now)
one-wipe k a r r' e e' p q = one p q

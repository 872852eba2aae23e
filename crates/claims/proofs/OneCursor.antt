-- One outcome for every function of `cursor` that is open to callers: each line cites the function's own promise. Assumes nothing.
use Rattle.cursor.proofs.runs.run_of.Reads.{Learnt as run-of}
use Rattle.cursor.proofs.place.Cursor.new.Reads.{Learnt as Cursor-new}
use Rattle.cursor.proofs.place.Cursor.next.Reads.{Learnt as Cursor-next}
use Rattle.claims.specs.Outcomes.{OneOutcome, beside}
use Rattle.claims.proofs.OutcomeLaws.{one, three}

pub one-run-of : OneOutcome run-of (λ r e. r.now)
one-run-of k a r r' e e' p q = one p q

pub one-Cursor-new : OneOutcome Cursor-new (λ r e. r)
one-Cursor-new k a r r' e e' p q = one p q

pub one-Cursor-next : OneOutcome Cursor-next (λ r e. beside r (beside e.1.1.1.1.0.now e.1.1.1.1.1.0.now))
one-Cursor-next k a r r' e e' p q = three p q

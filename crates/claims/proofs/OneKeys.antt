-- One outcome for every function of `keys` that is open to callers: each line cites the function's own promise. Assumes nothing.
use Rattle.keys.proofs.order.compare.Reads.{Learnt as compare}
use Rattle.claims.specs.Outcomes.{OneOutcome}
use Rattle.claims.proofs.OutcomeLaws.{one}

pub one-compare : OneOutcome compare (λ r e. r)
one-compare k a r r' e e' p q = one p q

-- One outcome for every function of `utf8` that is open to callers: each line cites the function's own promise. Assumes nothing.
use Rattle.utf8.proofs.character.character_length.Reads.{Learnt as character-length}
use Rattle.claims.specs.Outcomes.{OneOutcome}
use Rattle.claims.proofs.OutcomeLaws.{one}

pub one-character-length : OneOutcome character-length (λ r e. r)
one-character-length k a r r' e e' p q = one p q

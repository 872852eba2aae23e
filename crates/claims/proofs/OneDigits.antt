-- One outcome for every function of `digits` that is open to callers: each line cites the function's own promise. Assumes nothing.
use Rattle.std.specs.Prelude.{ℕ}
use Rattle.digits.specs.declared.hex.DecodeError.{DecodeError}
use Rattle.std.specs.declared.result.Result.{Result}
use Rattle.digits.proofs.hex.decode.Reads.{Learnt as decode}
use Rattle.digits.proofs.hex.hex32.Reads.{Learnt as hex32}
use Rattle.digits.proofs.hex.encode.Reads.{Learnt as encode}
use Rattle.digits.proofs.number.decimal_in.Reads.{Learnt as decimal-in}
use Rattle.digits.proofs.number.word32_in.Reads.{Learnt as word32-in}
use Rattle.digits.proofs.number.sign_apart.Reads.{Learnt as sign-apart}
use Rattle.digits.specs.Hex.{buffer_after}
use Rattle.claims.specs.Outcomes.{OneOutcome, beside}
use Rattle.claims.proofs.OutcomeLaws.{one, two, follows}

pub one-decode : OneOutcome decode (λ r e. beside r e.1.0.now)
one-decode k a r r' e e' p q = follows (λ (x : Result ℕ DecodeError). buffer_after x a.0.now a.1.0.now) p q

pub one-hex32 : OneOutcome hex32 (λ r e. r)
one-hex32 k a r r' e e' p q = one p q

pub one-encode : OneOutcome encode (λ r e. beside r e.1.0.now)
one-encode k a r r' e e' p q = two p q

pub one-decimal-in : OneOutcome decimal-in (λ r e. r)
one-decimal-in k a r r' e e' p q = one p q

pub one-word32-in : OneOutcome word32-in (λ r e. r)
one-word32-in k a r r' e e' p q = one p q

pub one-sign-apart : OneOutcome sign-apart (λ r e. r)
one-sign-apart k a r r' e e' p q = one p q

-- One outcome for every function of `crc` that is open to callers: each line cites the function's own promise. Assumes nothing.
use mathlib.Core.Path.{ap}
use Prim.Native.Nat.{ℕ}
use Rattle.crc.proofs.crc32.Reads.{Learnt as crc32}
use Rattle.crc.proofs.nibble.update.Reads.{Learnt as update}
use Rattle.crc.proofs.register.Crc32.new.Reads.{Learnt as Crc32-new}
use Rattle.crc.proofs.register.Crc32.reset.Reads.{Learnt as Crc32-reset}
use Rattle.crc.proofs.register.Crc32.update.Reads.{Learnt as Crc32-update}
use Rattle.crc.proofs.register.Crc32.finish.Reads.{Learnt as Crc32-finish}
use Rattle.claims.specs.Outcomes.{OneOutcome}
use Rattle.claims.proofs.OutcomeLaws.{one}

pub one-crc32 : OneOutcome crc32 (λ r e. r)
one-crc32 k a r r' e e' p q = one p q

pub one-update : OneOutcome update (λ r e. r)
one-update k a r r' e e' p q = one p q

pub one-Crc32-new : OneOutcome Crc32-new (λ r e. r)
one-Crc32-new k a r r' e e' p q = ap (λ (n : ℕ). record { 0 = n }) (one p q)

pub one-Crc32-reset : OneOutcome Crc32-reset (λ r e. r)
one-Crc32-reset k a r r' e e' p q = ap (λ (n : ℕ). record { 0 = n }) (one p q)

pub one-Crc32-update : OneOutcome Crc32-update (λ r e. r)
one-Crc32-update k a r r' e e' p q = ap (λ (n : ℕ). record { 0 = n }) (one p q)

pub one-Crc32-finish : OneOutcome Crc32-finish (λ r e. r)
one-Crc32-finish k a r r' e e' p q = one p q

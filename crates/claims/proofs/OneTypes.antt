-- One outcome for every function of `types` that is open to callers: each line cites the function's own promise. Assumes nothing.
use mathlib.Core.Path.{ap}
use Prim.Native.Nat.{ℕ}
use denote.RattleType.{RattleType}
use denote.Param.Laws.{Laws}
use mir.Syntax.{Dict}
use Rattle.types.proofs.config.the_build.Reads.{Learnt as the-build}
use Rattle.types.proofs.page_id.PageID.zero.Reads.{Learnt as PageID-zero}
use Rattle.types.proofs.page_id.PageID.from_raw.Reads.{Learnt as PageID-from-raw}
use Rattle.types.proofs.page_id.PageID.index.Reads.{Learnt as PageID-index}
use Rattle.types.proofs.page_id.OptionPageID.none.Reads.{Learnt as OptionPageID-none}
use Rattle.types.proofs.page_id.OptionPageID.some.Reads.{Learnt as OptionPageID-some}
use Rattle.types.proofs.page_id.OptionPageID.from_raw.Reads.{Learnt as OptionPageID-from-raw}
use Rattle.types.proofs.page_id.OptionPageID.into_raw.Reads.{Learnt as OptionPageID-into-raw}
use Rattle.types.proofs.page_id.OptionPageIDFromImplaa49c50e.from.Reads.{Learnt as OptionPageIDFromImplaa49c50e-from}
use Rattle.types.proofs.page_id.OptionPageIDFromImpl75ae9c52.from.Reads.{Learnt as OptionPageIDFromImpl75ae9c52-from}
use Rattle.types.proofs.page_id.OptionPageID.is_some.Reads.{Learnt as OptionPageID-is-some}
use Rattle.types.proofs.page_id.OptionPageID.is_none.Reads.{Learnt as OptionPageID-is-none}
use Rattle.types.proofs.refusal.Refusal.number.Reads.{Learnt as Refusal-number}
use Rattle.types.proofs.refusal.RefusalFromCorrupted.from.Reads.{Learnt as RefusalFromCorrupted-from}
use Rattle.types.proofs.answers.ResultRefusalAnswer.number.Reads.{Learnt as ResultRefusalAnswer-number}
use Rattle.types.proofs.answers.ResultCorruptedAnswer.number.Reads.{Learnt as ResultCorruptedAnswer-number}
use Rattle.types.proofs.answers.OptionPageIDAnswer.number.Reads.{Learnt as OptionPageIDAnswer-number}
use Rattle.claims.specs.Outcomes.{OneOutcome}
use Rattle.claims.proofs.OutcomeLaws.{one}

pub one-the-build : OneOutcome the-build (λ r e. r)
one-the-build k a r r' e e' p q = one p q

pub one-PageID-zero : OneOutcome PageID-zero (λ r e. r)
one-PageID-zero k a r r' e e' p q = ap (λ (n : ℕ). record { 0 = n }) (one p q)

pub one-PageID-from-raw : OneOutcome PageID-from-raw (λ r e. r)
one-PageID-from-raw k a r r' e e' p q = one p q

pub one-PageID-index : OneOutcome PageID-index (λ r e. r)
one-PageID-index k a r r' e e' p q = one p q

pub one-OptionPageID-none : OneOutcome OptionPageID-none (λ r e. r)
one-OptionPageID-none k a r r' e e' p q = ap (λ (n : ℕ). record { 0 = n }) (one p q)

pub one-OptionPageID-some : OneOutcome OptionPageID-some (λ r e. r)
one-OptionPageID-some k a r r' e e' p q = ap (λ (n : ℕ). record { 0 = n }) (one p q)

pub one-OptionPageID-from-raw : OneOutcome OptionPageID-from-raw (λ r e. r)
one-OptionPageID-from-raw k a r r' e e' p q = ap (λ (n : ℕ). record { 0 = n }) (one p q)

pub one-OptionPageID-into-raw : OneOutcome OptionPageID-into-raw (λ r e. r)
one-OptionPageID-into-raw k a r r' e e' p q = one p q

-- a page or none, as it is written
pub one-OptionPageIDFromImplaa49c50e-from : OneOutcome OptionPageIDFromImplaa49c50e-from (λ r e. r)
one-OptionPageIDFromImplaa49c50e-from k a r r' e e' p q = ap (λ (n : ℕ). record { 0 = n }) (one p q)

-- and as it is read
pub one-OptionPageIDFromImpl75ae9c52-from : OneOutcome OptionPageIDFromImpl75ae9c52-from (λ r e. r)
one-OptionPageIDFromImpl75ae9c52-from k a r r' e e' p q = one p q

pub one-OptionPageID-is-some : OneOutcome OptionPageID-is-some (λ r e. r)
one-OptionPageID-is-some k a r r' e e' p q = one p q

pub one-OptionPageID-is-none : OneOutcome OptionPageID-is-none (λ r e. r)
one-OptionPageID-is-none k a r r' e e' p q = one p q

pub one-Refusal-number : OneOutcome Refusal-number (λ r e. r)
one-Refusal-number k a r r' e e' p q = one p q

pub one-RefusalFromCorrupted-from : OneOutcome RefusalFromCorrupted-from (λ r e. r)
one-RefusalFromCorrupted-from k a r r' e e' p q = one p q

pub one-ResultRefusalAnswer-number : (T : RattleType) (L : Laws T) (d : Dict) → OneOutcome (ResultRefusalAnswer-number T L d) (λ r e. r)
one-ResultRefusalAnswer-number T L d k a r r' e e' p q = one p q

pub one-ResultCorruptedAnswer-number : (T : RattleType) (L : Laws T) (d : Dict) → OneOutcome (ResultCorruptedAnswer-number T L d) (λ r e. r)
one-ResultCorruptedAnswer-number T L d k a r r' e e' p q = one p q

pub one-OptionPageIDAnswer-number : OneOutcome OptionPageIDAnswer-number (λ r e. r)
one-OptionPageIDAnswer-number k a r r' e e' p q = one p q

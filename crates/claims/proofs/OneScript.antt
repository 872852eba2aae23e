-- One outcome for every function of `script` that is open to callers: each line cites the function's own promise. Assumes nothing.
use mir.Syntax.{w64}
use mir.Val.{Fits}
use Prim.Native.Nat.{ℕ}
use Rattle.script.proofs.space.space.Reads.{Learnt as space}
use Rattle.script.proofs.space.script_space.Reads.{Learnt as script-space}
use Rattle.script.proofs.space.line_space.Reads.{Learnt as line-space}
use Rattle.script.proofs.space.page_space.Reads.{Learnt as page-space}
use Rattle.script.proofs.space.flash_space.Reads.{Learnt as flash-space}
use Rattle.script.proofs.space.runs_space.Reads.{Learnt as runs-space}
use Rattle.script.proofs.space.all_runs_space.Reads.{Learnt as all-runs-space}
use Rattle.script.proofs.space.entry_space.Reads.{Learnt as entry-space}
use Rattle.script.proofs.args.number_at.Reads.{Learnt as number-at}
use Rattle.script.proofs.args.number_to.Reads.{Learnt as number-to}
use Rattle.script.proofs.args.page_at.Reads.{Learnt as page-at}
use Rattle.script.proofs.args.seed_at.Reads.{Learnt as seed-at}
use Rattle.script.proofs.args.word32_at.Reads.{Learnt as word32-at}
use Rattle.script.proofs.args.magic_at.Reads.{Learnt as magic-at}
use Rattle.script.proofs.args.flag_at.Reads.{Learnt as flag-at}
use Rattle.script.proofs.args.bytes_at.Reads.{Learnt as bytes-at}
use Rattle.script.proofs.words.end_from.Reads.{Learnt as end-from}
use Rattle.script.proofs.words.nth_word.Reads.{Learnt as nth-word}
use Rattle.script.proofs.words.word_count.Reads.{Learnt as word-count}
use Rattle.claims.specs.Outcomes.{OneOutcome, beside}
use Rattle.claims.proofs.OutcomeLaws.{one, two}

pub one-space : (N : ℕ) (F : Fits w64 N) → OneOutcome (space N F) (λ r e. r)
one-space N F k a r r' e e' p q = one p.0 q.0

pub one-script-space : OneOutcome script-space (λ r e. r)
one-script-space k a r r' e e' p q = one p.0 q.0

pub one-line-space : OneOutcome line-space (λ r e. r)
one-line-space k a r r' e e' p q = one p.0 q.0

pub one-page-space : OneOutcome page-space (λ r e. r)
one-page-space k a r r' e e' p q = one p.0 q.0

pub one-flash-space : OneOutcome flash-space (λ r e. r)
one-flash-space k a r r' e e' p q = one p.0 q.0

pub one-runs-space : OneOutcome runs-space (λ r e. r)
one-runs-space k a r r' e e' p q = one p.0 q.0

pub one-all-runs-space : OneOutcome all-runs-space (λ r e. r)
one-all-runs-space k a r r' e e' p q = one p.0 q.0

pub one-entry-space : OneOutcome entry-space (λ r e. r)
one-entry-space k a r r' e e' p q = one p.0 q.0

pub one-end-from : OneOutcome end-from (λ r e. r)
one-end-from k a r r' e e' p q = one p q

pub one-nth-word : OneOutcome nth-word (λ r e. r.now)
one-nth-word k a r r' e e' p q = one p q

pub one-word-count : OneOutcome word-count (λ r e. r)
one-word-count k a r r' e e' p q = one p q

pub one-number-at : OneOutcome number-at (λ r e. r)
one-number-at k a r r' e e' p q = one p q

pub one-number-to : OneOutcome number-to (λ r e. r)
one-number-to k a r r' e e' p q = one p q

pub one-page-at : OneOutcome page-at (λ r e. r)
one-page-at k a r r' e e' p q = one p q

pub one-seed-at : OneOutcome seed-at (λ r e. r)
one-seed-at k a r r' e e' p q = one p q

pub one-word32-at : OneOutcome word32-at (λ r e. r)
one-word32-at k a r r' e e' p q = one p q

pub one-magic-at : OneOutcome magic-at (λ r e. r)
one-magic-at k a r r' e e' p q = one p q

pub one-flag-at : OneOutcome flag-at (λ r e. r)
one-flag-at k a r r' e e' p q = one p q

pub one-bytes-at : OneOutcome bytes-at (λ r e. beside r e.1.1.0.now)
one-bytes-at k a r r' e e' p q = two p q

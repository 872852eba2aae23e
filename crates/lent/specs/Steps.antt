-- A step of a run reader (docs/RULES.md, Runs): what stands at its position, and where it stands
-- afterwards. Assumes nothing.
use Rattle.std.specs.Prelude.{List, ℕ, leb, length, Ok, Err, Some, None}
use Rattle.types.specs.Checks.{asking, refused_or, Verdict}
use Rattle.types.specs.declared.refusal.Refusal.TheVariants.{BadState}
use Rattle.run.specs.Records.{head_at, Head}
use Rattle.lent.specs.declared.step.Step.{Step}

-- 11 where the position is past the run
abbrev pub position_check : List ℕ → ℕ → Verdict
position_check run at = asking (leb at (length run)) BadState (Ok tt)

unfoldable pub head_within : List ℕ → ℕ → Head
head_within run at = refused_or (position_check run at) Err (head_at run at)

-- advances past a record; stays put at the end or on a refusal
abbrev pub place_after : Head → ℕ → ℕ
place_after (Ok None) at = at
place_after (Ok (Some r)) at = r.next
place_after (Err why) at = at

unfoldable pub step_at : List ℕ → ℕ → Step
step_at run at = record { head = head_within run at; at = place_after (head_within run at) at }

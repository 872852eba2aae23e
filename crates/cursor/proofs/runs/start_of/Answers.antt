-- `cursor::runs::start_of` is 0 for the first run, and the end before it for any other. Assumes nothing.
use mathlib.Core.Path.{◌∙◌}
use Rattle.cursor.proofs.RunLaws.{start_first, start-later}
use Rattle.cursor.proofs.runs.start_of.Goals as goal

pub returns-then-i-eq0 : goal.returns-then-i-eq0
returns-then-i-eq0 c = record { answers = start_first _ _ c.if-i-eq0.true }

pub returns-else-i-eq0 : goal.returns-else-i-eq0
returns-else-i-eq0 c = record { answers = c.end_of.ensures.answers ∙ start-later _ _ c.if-i-eq0.false }

use mathlib.Core.Path.{◌∙◌}
use Rattle.reader.specs.Moves.{moved}
use Rattle.reader.proofs.moves.moved.Goals as goal

pub returns : goal.returns
unfolding moved
returns c = record { answers = c.arriving.ensures.answers ∙ rw c.align_up.ensures.answers }

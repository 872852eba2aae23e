use mathlib.Core.Path.{refl}
use Rattle.slices.specs.Patch.{blank}
use Rattle.script.proofs.space.space.Goals as goal

pub returns-clause-answers : goal.returns-clause-answers
unfolding blank
returns-clause-answers g c = refl

use mathlib.Core.Path.{◌∙◌, ap}
use Rattle.crc.specs.Register.{steps}
use Rattle.crc.proofs.NibbleLaws.{taken-halves}
use Rattle.crc.proofs.nibble.take.Goals as goal

pub returns : goal.returns
returns c = record {
  answers =
      let a = c.args in
      c.four_steps.ensures.answers ∙ ap (steps 4) c.four_steps-half.ensures.answers ∙ taken-halves a.c a.b;
}

-- `slices::field::get32` joins the field's four bytes, each read by itself. Assumes nothing.
use mathlib.Core.Path.{◌∙◌}
use lib.ListN.{drop}
use Rattle.slices.proofs.FieldLaws.{elements, word-elements}
use Rattle.slices.proofs.field.get32.Goals as goal

pub returns : goal.returns
unfolding elements
returns c = record {
  answers =
      let s = c.args in
      c.join32.ensures.answers
      ∙ rw (c.byte-4.ensures.answers, c.byte-3.ensures.answers, c.byte-2.ensures.answers, c.byte.ensures.answers)
      (word-elements 4 0 (drop s.at s.bytes.now));
}

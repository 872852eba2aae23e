-- `slices::field::get16` joins the field's two bytes, each read by itself. Assumes nothing.
use native.Mathlib.Omega.{arith}
use lib.ListN.{drop}
use Rattle.types.specs.Bytes.{word}
use Rattle.slices.proofs.FieldLaws.{elements, word-elements}
use Rattle.slices.proofs.field.get16.Goals as goal

pub returns : goal.returns
unfolding word elements
returns c = record {
  answers =
      let s = c.args in
      omega (arith, c.from_le_bytes.ensures, c.byte.ensures.answers, c.byte-2.ensures.answers, word-elements 2 0 (drop s.at s.bytes.now));
}

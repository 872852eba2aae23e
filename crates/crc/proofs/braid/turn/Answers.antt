use mathlib.Core.Path.{◌∙◌, ap}
use Prim.Native.Nat.{ℕ}
use lib.Bits.{bit_xor}
use Rattle.crc.specs.Register.{steps}
use Rattle.crc.specs.Tables.{word_at}
use Rattle.crc.proofs.braid.turn.Goals as goal

pub returns : goal.returns
unfolding word_at
returns c = record {
  answers =
      let l = c.args.l in (
        c.far.ensures.answers ∙ ap (λ (w : ℕ). steps 128 (bit_xor l.a w)) c.get32.ensures.answers,
        c.far-2.ensures.answers ∙ ap (λ (w : ℕ). steps 128 (bit_xor l.b w)) c.get32-2.ensures.answers,
        c.far-3.ensures.answers ∙ ap (λ (w : ℕ). steps 128 (bit_xor l.c w)) c.get32-3.ensures.answers,
        c.far-4.ensures.answers ∙ ap (λ (w : ℕ). steps 128 (bit_xor l.d w)) c.get32-4.ensures.answers,
      );
}

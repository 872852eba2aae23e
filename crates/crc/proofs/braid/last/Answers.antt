use mathlib.Core.Path.{◌∙◌, ap, ap₂}
use Prim.Native.Nat.{ℕ}
use lib.Bits.{bit_xor}
use Rattle.crc.specs.Register.{steps}
use Rattle.crc.specs.Tables.{word_at}
use Rattle.crc.proofs.BraidLaws.{woven-end}
use Rattle.crc.proofs.braid.last.Goals as goal

pub returns : goal.returns
unfolding word_at
returns c = record {
  answers =
      let d = c.args.bytes.now in
      let l = c.args.l in
      let x = c.near-x.ensures.answers ∙ ap (λ (w : ℕ). steps 32 (bit_xor l.a w)) c.get32.ensures.answers in
      let y = c.near-y.ensures.answers ∙ ap₂ (λ (v w : ℕ). steps 32 (bit_xor v (bit_xor l.b w))) x c.get32-2.ensures.answers in
      let z = c.near-z.ensures.answers ∙ ap₂ (λ (v w : ℕ). steps 32 (bit_xor v (bit_xor l.c w))) y c.get32-3.ensures.answers in
      c.near.ensures.answers ∙ ap₂ (λ (v w : ℕ). steps 32 (bit_xor v (bit_xor l.d w))) z c.get32-4.ensures.answers
      ∙ woven-end (bit_xor l.a (word_at d 0)) (bit_xor l.b (word_at d 4)) (bit_xor l.c (word_at d 8)) (bit_xor l.d (word_at d 12));
}

-- `crc::braid::update`: the lanes, woven into the bytes that are left, lead to the result. Assumes nothing.
use mathlib.Core.Path.{◌≡◌, ◌∙◌, ap, ap₂}
use mathlib.Core.List.{List}
use Prim.Native.Nat.{ℕ, ◌-◌, ◌≤◌}
use native.Mathlib.Omega.{arith}
use lib.Bits.{bit_xor}
use lib.ListN.{length, drop, length-drop}
use Rattle.crc.specs.Register.{steps, updated}
use Rattle.types.specs.Bytes.{Bytes}
use Rattle.crc.specs.Tables.{word_at, woven}
use Rattle.crc.proofs.WordLaws.{bytes_drop}
use Rattle.crc.proofs.BraidLaws.{woven-start, woven-turn, behind-sixteen}
use Rattle.crc.proofs.braid.update.Goals as goal

pub loop-rest-init : goal.loop-rest-init
unfolding Bytes
loop-rest-init c =
    let a = c.args in
    let bytes : Bytes a.bytes.now = λ i. omega (arith, c.shared_slice_known-1.given i) in
    (omega arith, bytes, woven-start a.c a.bytes.now bytes (omega arith))

pub loop-rest-preserved : goal.loop-rest-preserved
loop-rest-preserved c =
    let o = c.loop-rest in
    let l = o.l in
    let r = c.turn-l.result in
    let d = o.rest.now in
    let e = c.turn-l.ensures.answers in
    let n : length (drop 16 d) ≡ length d - 16 = length-drop 16 d in
    behind-sixteen (λ (rest : List ℕ). (16 ≤ length rest) × Bytes rest × (woven r.a r.b r.c r.d rest ≡ updated c.args.c c.args.bytes.now)) d (
      omega arith,
      bytes_drop 16 d o.invariant.1,
      ap₂ (λ (p q : ℕ). woven p q r.c r.d (drop 16 d)) e.0 e.1
          ∙ ap₂ (λ (p q : ℕ). woven (steps 128 (bit_xor l.a (word_at d 0))) (steps 128 (bit_xor l.b (word_at d 4))) p q (drop 16 d)) e.2 e.3
          ∙ woven-turn l.a l.b l.c l.d d o.invariant.1 (omega arith)
          ∙ o.invariant.2,
    )

pub returns : goal.returns
unfolding woven
returns c = record {
  answers =
      let o = c.loop-rest in
      c.update-2.ensures.answers
      ∙ behind-sixteen (λ (rest : List ℕ). updated c.last-x.result rest ≡ updated c.args.c c.args.bytes.now) o.rest.now
      (ap (λ (x : ℕ). updated x (drop 16 o.rest.now)) c.last-x.ensures.answers ∙ o.invariant.2);
}

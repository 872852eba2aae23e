-- `crc::braid::far`: r, and what is left of y, make the result. Assumes nothing.
use mathlib.Core.Path.{◌≡◌, ◌∙◌, ap}
use Prim.Native.Nat.{ℕ, ◌+◌, ◌-◌, ◌*◌, ◌/◌, ◌^◌}
use native.Mathlib.Omega.{arith}
use lib.Pow.{shr-shr}
use Rattle.crc.specs.Register.{steps}
use Rattle.crc.proofs.BraidLaws.{far-again}
use Rattle.crc.proofs.WordLaws.{fold_end}
use Rattle.crc.proofs.braid.far.Goals as goal

pub loop-j-preserved : goal.loop-j-preserved
loop-j-preserved c =
    let l = c.loop-j in
    let a = c.args in
    let e : 4 * l.j + 4 ≡ 4 * (l.j + 1) = omega arith in (
      ap (λ (n : ℕ). n / 16) l.invariant.0 ∙ shr-shr a.x (4 * l.j) 4 ∙ ap (λ (n : ℕ). a.x / 2 ^ n) e,
      far-again l.j l.r l.y c.look-r.result a.x (omega arith) c.look-r.ensures.answers l.invariant.1,
    )

pub returns : goal.returns
returns c = record {
  answers =
      let l = c.loop-j in
      let a = c.args in
      let e : l.j ≡ 8 = omega arith in
      let z : a.x / 2 ^ 32 ≡ 0 = omega arith in
      fold_end (96 + 4 * (8 - l.j)) l.r l.y (steps 128 a.x) (l.invariant.0 ∙ ap (λ (n : ℕ). a.x / 2 ^ (4 * n)) e ∙ z) l.invariant.1;
}

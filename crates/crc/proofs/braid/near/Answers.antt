-- `crc::braid::near`: the steps that are left lead to the result. Assumes nothing.
use mathlib.Core.Path.{◌≡◌, ◌∙◌, sym, ap}
use Prim.Native.Nat.{ℕ, suc, ◌+◌, ◌-◌, ◌*◌}
use native.Mathlib.Omega.{arith}
use Rattle.crc.specs.Register.{steps}
use Rattle.crc.proofs.StepLaws.{steps-turn}
use Rattle.crc.proofs.braid.near.Goals as goal

pub loop-preserved : goal.loop-preserved
loop-preserved c =
    let a = c.loop in
    let left = 8 - (a.counter + 1) in
    let e : suc left ≡ 8 - a.counter = omega arith in
    ap (steps (4 * left)) c.four_steps-y.ensures.answers ∙ steps-turn 4 left a.y ∙ ap (λ (n : ℕ). steps (4 * n) a.y) e ∙ a.invariant

pub returns : goal.returns
unfolding steps
returns c = record {
  answers =
      let a = c.loop in
      let e : a.counter ≡ 8 = omega arith in
      sym (ap (λ (n : ℕ). steps (4 * (8 - n)) a.y) e) ∙ a.invariant;
}

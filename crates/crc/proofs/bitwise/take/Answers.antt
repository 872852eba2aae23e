-- `crc::bitwise::take`: the steps that are left lead to the result. Assumes nothing.
use mathlib.Core.Path.{◌≡◌, refl, ◌∙◌, sym, ap}
use Prim.Native.Nat.{ℕ, ◌+◌, ◌-◌}
use native.Mathlib.Omega.{arith}
use Rattle.crc.specs.Register.{steps, taken}
use Rattle.crc.proofs.RegisterLaws.{steps-turn}
use Rattle.crc.proofs.bitwise.take.Goals as goal

pub loop-init : goal.loop-init
unfolding taken
loop-init c = refl

pub loop-preserved : goal.loop-preserved
loop-preserved c =
    let a = c.loop in
    ap (steps (8 - (a.counter + 1))) c.step-x.ensures.answers ∙ steps-turn 8 a.counter a.x (omega arith) ∙ a.invariant

pub returns : goal.returns
unfolding steps
returns c = record {
  answers =
      let a = c.loop in
      let e : a.counter ≡ 8 = omega arith in
      sym (ap (λ (n : ℕ). steps (8 - n) a.x) e) ∙ a.invariant;
}

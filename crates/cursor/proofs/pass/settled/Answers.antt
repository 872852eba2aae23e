-- `cursor::pass::settled`: the passes from the places reached come to the whole. Assumes nothing.
use mathlib.Core.Path.{refl, sym, ◌∙◌}
use native.Mathlib.Nat.{le_refl}
use Rattle.cursor.specs.Settle.{settled}
use Rattle.cursor.proofs.SettleLaws as laws
use Rattle.cursor.proofs.pass.settled.Goals as goal

pub loop-pass-init : goal.loop-pass-init
unfolding settled
loop-pass-init c = (_, le_refl _, refl)

pub returns-then-not-is_hidden : goal.returns-then-not-is_hidden
returns-then-not-is_hidden c = record { answers = laws.settle-ends _ _ _ _ _ _ _ c.pass_over-pass.ensures.answers c.loop-pass.invariant (sym c.is_hidden.ensures.answers ∙ c.if-not-is_hidden.true) }

pub loop-pass-smaller : goal.loop-pass-smaller
loop-pass-smaller c =
    laws.settle-less _ _ _ _ _ _ c.pass_over-pass.result c.pass_over-pass.ensures.answers c.loop-pass.invariant c.requires
    (sym c.is_hidden.ensures.answers ∙ c.if-not-is_hidden.false)

pub loop-pass-preserved : goal.loop-pass-preserved
loop-pass-preserved c =
    laws.settle-again _ _ _ _ _ _ c.pass_over-pass.result c.pass_over-pass.ensures.answers c.loop-pass.invariant c.requires
    (sym c.is_hidden.ensures.answers ∙ c.if-not-is_hidden.false)

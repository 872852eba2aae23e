-- `script::words::end_from`: the end sought from i on is the one sought. Assumes nothing.
use mathlib.Core.Path.{◌≡◌, refl, ◌∙◌}
use mathlib.Core.Logic.{⊎_elim}
use Prim.Native.Nat.{◌≤◌, max}
use native.Mathlib.Omega.{arith}
use lib.ListN.{length}
use Rattle.types.proofs.TestLaws.{le-or-lt}
use Rattle.script.proofs.WordLaws.{end-found, end-turn, end-past}
use Rattle.script.proofs.words.end_from.Goals as goal

pub loop-i-init : goal.loop-i-init
loop-i-init c = refl

pub returns-then-text-i : goal.returns-then-text-i
returns-then-text-i c =
    record {
      answers =
          let a = c.args in
          end-found a.text.now c.loop-i.i a.byte (omega arith) c.if-text-i.true ∙ c.loop-i.invariant;
    }

pub loop-i-preserved : goal.loop-i-preserved
loop-i-preserved c =
    let a = c.args in
    end-turn a.text.now c.loop-i.i a.byte (omega arith) c.if-text-i.false ∙ c.loop-i.invariant

-- none stands from the index on: the end is the text's, or the index if that is past it
pub returns : goal.returns
returns c =
    record {
      answers =
          let a = c.args in
          c.max.ensures
          ∙ ⊎_elim
          (λ h.
          let e : c.loop-i.i ≤ length a.text.now = c.loop-i.auto.i-end h in
          let m : max a.from (length a.text.now) ≡ c.loop-i.i = omega arith in
          m ∙ end-past a.text.now c.loop-i.i a.byte c.loop-i-test.false ∙ c.loop-i.invariant)
          (λ h. let m : max a.from (length a.text.now) ≡ a.from = omega arith in m ∙ end-past a.text.now a.from a.byte (omega arith))
          (le-or-lt a.from (length a.text.now));
    }

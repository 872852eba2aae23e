-- `cursor::merge::placed`: what is left of the searches comes to the whole. Assumes nothing.
use mathlib.Core.Path.{sym, ◌∙◌}
use Rattle.std.proofs.lemmas.Result.{err_from_is_err_and}
use Rattle.cursor.proofs.CallLaws as laws
use Rattle.cursor.proofs.merge.placed.Goals.{in-Some, in_default}
use Rattle.cursor.proofs.merge.placed.Goals as goal

pub returns-in_err-check_new : goal.returns-in_err-check_new
returns-in_err-check_new c =
    let e = err_from_is_err_and c.from_residual.result c.from_residual.ensures.1 in
    record { answers = rw (e.1, e.2) (laws.new-refused _ _ _ _ _ c.check_new.ensures.answers _ c.in_err-check_new.was) }

pub loop-i-init : goal.loop-i-init
loop-i-init c = (
  laws.new-few _ _ (sym c.check_new.ensures.answers ∙ c.in_ok-check_new.was),
  laws.new-fine _ _ _ _ _ c.check_new.ensures.answers c.in_ok-check_new.was,
)

pub loop-i-preserved : goal.loop-i-preserved
loop-i-preserved c = (
  c.loop-i.invariant.0,
  elim c.match-branch-3.branch [
    | in-Some w ↦
        rw w.places-is
        (laws.placed_at _ _ _ _ _ _ _ c.loop-i.invariant.1 c.loop-i-test.true _ c.run_of.ensures.answers _ c.search.ensures.answers _
        (rw w.in-Some.is at c.in_ok-at.was))
    | in_default w ↦
        rw w.places-is
        (laws.placed-gone _ _ _ _ _ _ _ c.loop-i.invariant.1 c.loop-i-test.true _ c.run_of.ensures.answers _ c.search.ensures.answers
        (rw w.in_default.is at c.in_ok-at.was))
  ],
)

pub returns-in_err-at : goal.returns-in_err-at
returns-in_err-at c =
    let e = err_from_is_err_and c.from_residual-in_err-at.result c.from_residual-in_err-at.ensures.1 in
    record {
      answers =
          rw (e.1, e.2)
          (laws.placed-refused _ _ _ _ _ _ _ c.loop-i.invariant.1 c.loop-i-test.true _ c.run_of.ensures.answers _ c.search.ensures.answers _ c.in_err-at.was);
    }

pub returns : goal.returns
returns c = record { answers = laws.all_placed _ _ _ _ _ _ _ c.loop-i.invariant.1 c.loop-i-test.false }

use Rattle.std.specs.Prelude.{Ok, Err}
use mathlib.Core.Path.{◌≡◌, sym, ◌∙◌}
use borrow.Author.Rules.{rules}
use Rattle.alloc.specs.Checks.{state_check}
use Rattle.alloc.specs.Several.{free_each}
use Rattle.alloc.proofs.SeveralLaws.{free-begun, freed-on, free-refused, all-freed}
use Rattle.alloc.proofs.StateLaws.{fine-state, is_in_range}
use Rattle.alloc.proofs.work.free_each.Goals as goal

pub returns-in_err-check_state : goal.returns-in_err-check_state
unfolding free_each
returns-in_err-check_state c = search rules

pub loop-page-init : goal.loop-page-init
loop-page-init c =
    let fine : state_check c.args.a.now ≡ (Ok tt) = sym c.check_state.ensures.answers ∙ c.in_ok-check_state.was in
    free-begun _ _ (search rules, fine-state _ fine)

pub free_page-requires : goal.free_page-requires
free_page-requires c = is_in_range _ c.loop-page.invariant.sound.1

pub returns-in_err-free_page : goal.returns-in_err-free_page
returns-in_err-free_page c =
    record {
      answers =
          let fine : state_check c.args.a.now ≡ (Ok tt) = sym c.check_state.ensures.answers ∙ c.in_ok-check_state.was in
          let why : c.from_residual-in_err-free_page.result ≡ Err c.in_err-free_page.field-0.0 = search rules in
          rw why (free-refused _ _ _ _ c.loop-page.invariant fine _ c.loop-page-test.true (sym c.in_err-free_page.was ∙ c.free_page.ensures.answers));
    }

pub loop-page-preserved : goal.loop-page-preserved
loop-page-preserved c =
    freed-on _ _ _ _ c.loop-page.invariant _ c.loop-page-test.true (sym c.in_ok-free_page.was ∙ c.free_page.ensures.answers) c.free_page.ensures.changes

pub returns : goal.returns
returns c =
    record {
      answers =
          let fine : state_check c.args.a.now ≡ (Ok tt) = sym c.check_state.ensures.answers ∙ c.in_ok-check_state.was in
          all-freed _ _ _ _ c.loop-page.invariant fine c.loop-page-test.false;
    }

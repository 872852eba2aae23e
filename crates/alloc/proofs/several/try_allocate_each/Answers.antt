use Rattle.std.specs.Prelude.{Ok, Some}
use mathlib.Core.Path.{◌≡◌, sym, ◌∙◌}
use mathlib.Core.Bool.{false}
use Prim.Native.Nat.{◌<◌}
use native.Mathlib.Omega.{arith}
use Rattle.alloc.specs.Calls.{next_free}
use Rattle.alloc.specs.Checks.{state_check}
use Rattle.alloc.specs.Marks.{is_marked}
use Rattle.alloc.proofs.HandedLaws.{found-free}
use Rattle.alloc.proofs.SeveralLaws.{state_of, hand-begun, hand_on, no-page, no_place, refused-each}
use Rattle.alloc.proofs.StateLaws.{InRange, fine-state, used_le, next_le}
use borrow.Author.Rules.{rules}
use Rattle.alloc.proofs.several.try_allocate_each.Goals as goal

pub returns-in-Err : goal.returns-in-Err
returns-in-Err c =
    let refused = refused-each c.args.a c.args.places.now c.in-Err.why (sym c.check_state.ensures.answers ∙ c.in-Err.is) in
    record { answers = c.refused.ensures.answers ∙ refused.0; bytes = refused.1 }

pub loop-i-init : goal.loop-i-init
loop-i-init c =
    let fine : state_check c.args.a ≡ (Ok tt) = sym c.check_state.ensures.answers ∙ c.in_default.is in
    hand-begun _ _ (search rules, fine-state _ fine)

pub first_free-requires : goal.first_free-requires
first_free-requires c =
    let this = state_of c.args.a.page_count c.loop-i.pages c.loop-i.used c.loop-i.next in
    let known : InRange this = c.loop-i.invariant.sound.1 in
    record {
      next_le_max_page_count = omega (arith, next_le this known, known.few);
      count_le_max_page_count = known.few;
    }

pub returns-in_default-first_free : goal.returns-in_default-first_free
returns-in_default-first_free c =
    let fine : state_check c.args.a ≡ (Ok tt) = sym c.check_state.ensures.answers ∙ c.in_default.is in
    let end = no-page _ _ _ _ _ c.loop-i.invariant fine (sym c.first_free.ensures.answers ∙ c.in_default-first_free.is) in
    record {
      answers = c.answered.ensures.answers ∙ end.0;
      bytes = end.1;
    }

pub mark-requires : goal.mark-requires
mark-requires c =
    let this = state_of c.args.a.page_count c.loop-i.pages c.loop-i.used c.loop-i.next in
    let known : InRange this = c.loop-i.invariant.sound.1 in
    let page-found : next_free this ≡ Some c.in-Some.page = sym c.first_free.ensures.answers ∙ c.in-Some.is in
    let free-here : (c.index-p.result < this.page_count) × (is_marked this.pages c.index-p.result ≡ false) =
    found-free this c.in-Some.page c.index-p.result known page-found c.index-p.ensures.answers in
    record {
      page_lt_max_page_count = omega (arith, free-here.0, known.few);
      page_value = free-here.1;
    }

pub overflow_add-used : goal.overflow_add-used
overflow_add-used c =
    let this = state_of c.args.a.page_count c.loop-i.pages c.loop-i.used c.loop-i.next in
    let known : InRange this = c.loop-i.invariant.sound.1 in
    omega (arith, used_le this known, known.few)

pub page_past-next-requires : goal.page_past-next-requires
page_past-next-requires c =
    let this = state_of c.args.a.page_count c.loop-i.pages c.loop-i.used c.loop-i.next in
    let known : InRange this = c.loop-i.invariant.sound.1 in
    let page-found : next_free this ≡ Some c.in-Some.page = sym c.first_free.ensures.answers ∙ c.in-Some.is in
    let free-here : (c.index-p.result < this.page_count) × (is_marked this.pages c.index-p.result ≡ false) =
    found-free this c.in-Some.page c.index-p.result known page-found c.index-p.ensures.answers in
    free-here.0

pub loop-i-preserved : goal.loop-i-preserved
loop-i-preserved c =
    let this = state_of c.args.a.page_count c.loop-i.pages c.loop-i.used c.loop-i.next in
    let page-found : next_free this ≡ Some c.in-Some.page = sym c.first_free.ensures.answers ∙ c.in-Some.is in
    hand_on _ _ _ _ _ c.loop-i.invariant _ _ _ _ (omega arith) page-found
    c.index-p.ensures.answers c.mark.ensures.bytes c.page_past-next.ensures.answers

pub returns : goal.returns
returns c =
    let fine : state_check c.args.a ≡ (Ok tt) = sym c.check_state.ensures.answers ∙ c.in_default.is in
    let end = no_place _ _ _ _ _ c.loop-i.invariant fine (omega arith) in
    record {
      answers = c.answered-2.ensures.answers ∙ end.0;
      bytes = end.1;
    }

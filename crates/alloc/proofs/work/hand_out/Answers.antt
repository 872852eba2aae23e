use Rattle.std.specs.Prelude.{Some}
use mathlib.Core.Path.{◌≡◌, sym, ◌∙◌}
use mathlib.Core.Bool.{false}
use Prim.Native.Nat.{◌<◌}
use native.Mathlib.Omega.{arith}
use Rattle.alloc.specs.Calls.{next_free}
use Rattle.alloc.specs.Marks.{is_marked}
use Rattle.alloc.proofs.HandedLaws.{found-free}
use Rattle.alloc.proofs.StateLaws.{InRange, in-range, used_le, next_le}
use Rattle.alloc.proofs.work.hand_out.Goals as goal

pub first_free-requires : goal.first_free-requires
first_free-requires c =
    let known : InRange c.args.a.now = in-range c.args.a.now c.requires in
    record {
      next_le_max_page_count = omega (arith, next_le c.args.a.now known, known.few);
      count_le_max_page_count = known.few;
    }

pub mark-requires : goal.mark-requires
mark-requires c =
    let known : InRange c.args.a.now = in-range c.args.a.now c.requires in
    let page-found : next_free c.args.a.now ≡ Some c.in_ok-page.page = sym c.first_free.ensures.answers ∙ c.in_ok-page.was in
    let free-here : (c.index-p.result < c.args.a.now.page_count) × (is_marked c.args.a.now.pages c.index-p.result ≡ false) =
    found-free c.args.a.now c.in_ok-page.page c.index-p.result known page-found c.index-p.ensures.answers in
    record {
      p_lt_max_page_count = omega (arith, free-here.0, known.few);
      p_value = free-here.1;
      used_le_max_page_count = omega (arith, used_le c.args.a.now known, known.few);
    }

pub page_past-a-requires : goal.page_past-a-requires
page_past-a-requires c =
    let known : InRange c.args.a.now = in-range c.args.a.now c.requires in
    let page-found : next_free c.args.a.now ≡ Some c.in_ok-page.page = sym c.first_free.ensures.answers ∙ c.in_ok-page.was in
    rw c.mark.ensures.changes (found-free c.args.a.now c.in_ok-page.page c.index-p.result known page-found c.index-p.ensures.answers).0

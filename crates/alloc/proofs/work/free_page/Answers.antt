use Rattle.std.specs.Prelude.{Ok}
use mathlib.Core.Path.{◌≡◌, sym, ◌∙◌}
use borrow.Author.Rules.{rules}
use Rattle.alloc.specs.Calls.{free}
use Rattle.alloc.specs.Checks.{own_page_check}
use Rattle.alloc.proofs.StateLaws.{own-page, page-below}
use Rattle.alloc.proofs.work.free_page.Goals as goal

pub returns-in_err-check_page : goal.returns-in_err-check_page
unfolding free own_page_check
returns-in_err-check_page c = search rules

pub is_marked-requires : goal.is_marked-requires
is_marked-requires c =
    let fine : own_page_check c.args.a.now c.args.page ≡ (Ok tt) = own-page _ _ c.requires (sym c.check_page.ensures.answers ∙ c.in_ok-check_page.was) in
    record { page_lt_max_page_count = page-below c.args.a.now c.args.page c.index-p.result fine c.index-p.ensures.answers }

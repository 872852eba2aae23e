use Rattle.std.specs.Prelude.{Ok}
use mathlib.Core.Path.{◌≡◌, sym, ◌∙◌}
use Rattle.alloc.specs.Checks.{state_check}
use Rattle.alloc.proofs.StateLaws.{fine-state, used_le}
use Rattle.alloc.proofs.allocator.Allocator.free_pages.Goals as goal

pub overflow_sub-result : goal.overflow_sub-result
overflow_sub-result c =
    let fine : state_check c.args.self ≡ (Ok tt) = sym c.check_state.ensures.answers ∙ c.in_ok-check_state.was in
    used_le c.args.self (fine-state c.args.self fine)

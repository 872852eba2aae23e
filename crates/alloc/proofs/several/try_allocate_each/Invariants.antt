use Rattle.alloc.proofs.SeveralLaws.{state_of, Handing}
use Rattle.alloc.proofs.several.try_allocate_each.Given as goal

abbrev pub invariant-loop-i : goal.invariant-loop-i
invariant-loop-i l =
    Handing (state_of l.a.page_count l.initial.pages l.initial.used l.initial.next) l.initial.places l.places l.i (state_of l.a.page_count l.pages l.used l.next)

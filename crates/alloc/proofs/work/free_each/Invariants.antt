use Rattle.alloc.proofs.SeveralLaws.{Freeing}
use Rattle.alloc.proofs.work.free_each.Given as goal

abbrev pub invariant-loop-page : goal.invariant-loop-page
invariant-loop-page l = Freeing l.initial.a l.pages l.page-index l.a

use mathlib.Core.Path.{sym, ◌∙◌}
use native.Mathlib.Omega.{arith}
use lib.ListN.{length}
use Rattle.reader.proofs.ReadLaws.{known-whole, read_stays}
use Rattle.reader.proofs.page_reader.PageReader.read_into.Goals as goal

pub ready-requires : goal.ready-requires
ready-requires c =
    let a = c.args in known-whole a.self a.flash.now (sym c.check_reader.ensures.answers ∙ c.in_ok-check_reader.was)

pub past-requires : goal.past-requires
past-requires c =
    let a = c.args in
    read_stays a.self a.flash.now (sym c.check_reader.ensures.answers ∙ c.in_ok-check_reader.was) c.in_ok-reader.reader c.min-n.result (length a.buffer.now)
    (rw c.page_of-page.ensures.answers at (sym c.ready.ensures.answers ∙ c.in_ok-reader.was))
    (rw (c.rest_of-rest.ensures.answers, c.page_of-page.ensures.answers) at c.min-n.ensures) (omega (arith, c.well_formed.0))

use mathlib.Core.Path.{sym, ◌∙◌}
use Rattle.reader.proofs.ReadLaws.{known-whole}
use Rattle.reader.proofs.page_reader.PageReader.tested.Goals as goal

pub ready-requires : goal.ready-requires
ready-requires c =
    let a = c.args in known-whole a.self a.flash.now (sym c.check_reader.ensures.answers ∙ c.in_ok-check_reader.was)

use mathlib.Core.Path.{sym, ◌∙◌}
use Rattle.reader.proofs.ReadLaws.{known-whole}
use Rattle.reader.proofs.SkipLaws.{skip-left}
use Rattle.reader.proofs.page_reader.PageReader.gone_over.Goals as goal

pub skipped-requires : goal.skipped-requires
skipped-requires c =
    let a = c.args in known-whole a.self a.flash.now (sym c.check_reader.ensures.answers ∙ c.in_ok-check_reader.was)

pub overflow_sub-result : goal.overflow_sub-result
overflow_sub-result c =
    let passed = c.in_ok-passed.passed in
    skip-left c.page_of.result.now c.args.count c.args.self passed.reader passed.left (sym c.skipped.ensures.answers ∙ c.in_ok-passed.was)

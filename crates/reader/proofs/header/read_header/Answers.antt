use mathlib.Core.Path.{sym, ◌∙◌}
use Rattle.reader.proofs.OpenLaws.{header-passed, header-right}
use Rattle.reader.proofs.header.read_header.Goals as goal

pub returns-clause-bytes : goal.returns-clause-bytes
returns-clause-bytes c =
    let a = c.args in
    let passed = header-passed a.flash.now a.magic a.page a.header.now (sym c.check_page_header.ensures.answers ∙ c.in_ok-check_page_header.was) in
    c.put.ensures.bytes ∙ rw (c.header_of.ensures.answers, c.page_of.ensures.answers) (header-right a.flash.now a.magic a.page a.header.now passed.0 passed.1).1

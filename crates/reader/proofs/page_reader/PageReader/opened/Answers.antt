use mathlib.Core.Path.{sym, ◌∙◌}
use Rattle.reader.proofs.OpenLaws.{header-passed, open_at}
use Rattle.reader.proofs.page_reader.PageReader.opened.Goals as goal

pub returns-clause-bytes : goal.returns-clause-bytes
returns-clause-bytes c =
    let a = c.args in
    let passed = header-passed a.flash.now a.magic a.page a.header.now (sym c.check_page_header.ensures.answers ∙ c.in_ok-check_page_header.was) in
    let arrived = rw (c.unread.ensures.answers, c.page_of-bytes.ensures.answers) at (sym c.arriving.ensures.answers ∙ c.in_ok-reader.was) in
    c.put.ensures.bytes
    ∙ rw (c.header_of.ensures.answers, c.page_of-bytes.ensures.answers)
    (open_at a.flash.now a.magic a.page a.header.now passed.0 passed.1 a.self c.in_ok-reader.reader arrived).1

-- A refusal of the checks is handed back; else the erase and the store are run. That they lie on the flash follows from the checks
-- (`header-lies`). Assumes nothing.
use Rattle.std.specs.Prelude.{Ok}
use mathlib.Core.Path.{◌≡◌, sym, ◌∙◌}
use lib.ListN.{length}
use Rattle.types.specs.Build.{erase_value}
use Rattle.writer.specs.Duties.{heading_duty}
use Rattle.writer.specs.Checks.{heading_check}
use Rattle.writer.proofs.CheckLaws.{heading-checked}
use Rattle.writer.proofs.LiesOnLaws.{header-lies}
use Rattle.writer.proofs.OutcomeLaws.{ends-ran}
use Rattle.writer.proofs.page_writer.PageWriter.write_header.Goals as goal

pub head_page-stores-requires : goal.head_page-stores-requires
head_page-stores-requires c =
    let fine : heading_check (length c.args.flash.now) c.args.self (length c.args.header.now) ≡ (Ok tt) = sym c.check_heading.ensures.answers ∙ c.in_default.is in
    let a = c.args in
    let k = heading-checked _ _ _ fine in
    record {
      header_len_bound = k.small;
      header_value = header-lies erase_value (length a.flash.now) a.self a.magic a.header.now k.writer k.small;
    }

pub returns : goal.returns
returns c =
    let fine : heading_check (length c.args.flash.now) c.args.self (length c.args.header.now) ≡ (Ok tt) = sym c.check_heading.ensures.answers ∙ c.in_default.is in
    let a = c.args in
    let duty = heading_duty erase_value a.flash.now a.self a.magic a.header.now in
    let q = ends-ran duty a.self a.left a.flash.now c.head_page-stores.result c.head_page-stores.new.flash fine
    (c.head_page-stores.ensures.answers, c.head_page-stores.ensures.bytes) in
    record {
      answers = c.ended_by.ensures.answers ∙ q.0;
      bytes = q.1;
    }

-- A refusal of the checks is handed back; where no byte is taken there is nothing to do; else the operations that take them are run.
-- That they lie on the flash follows from the checks (`write-lies`). Assumes nothing.
use Rattle.std.specs.Prelude.{Ok}
use mathlib.Core.Path.{◌≡◌, sym, ◌∙◌}
use lib.ListN.{length}
use Rattle.types.specs.Build.{erase_value}
use Rattle.writer.specs.Checks.{writer_check}
use Rattle.writer.proofs.CheckLaws.{writer-checked, checked_small, total-small}
use Rattle.writer.proofs.LiesOnLaws.{write-lies}
use Rattle.writer.proofs.WriteLaws.{taken-fits, taken_small, write-some}
use borrow.Author.Rules.{rules}
use Rattle.writer.proofs.page_writer.PageWriter.write.Goals as goal

pub grown-next-requires : goal.grown-next-requires
grown-next-requires c =
    let a = c.args in
    let fine : writer_check (length a.flash.now) a.self ≡ Ok tt = sym c.check_writer.ensures.answers ∙ c.in_default.is in
    record {
      total_le_page_size = total-small _ (writer-checked _ _ fine).range;
      bytes_bound = taken-fits a.self a.bytes.now c.takes-n.result c.takes-n.ensures.answers (checked_small _ _ fine).short;
    }

pub take_bytes-stores-requires : goal.take_bytes-stores-requires
take_bytes-stores-requires c =
    let a = c.args in
    let fine : writer_check (length a.flash.now) a.self ≡ Ok tt = sym c.check_writer.ensures.answers ∙ c.in_default.is in
    let four : length a.self.buf ≡ 4 = search rules in
    record {
      small = taken_small _ _ _ _ _ fine c.takes-n.ensures.answers c.grown-next.ensures.answers;
      next_value = c.grown-next.ensures.answers;
      bytes_value = write-lies erase_value (length a.flash.now) c.takes-n.result a.self a.bytes.now (writer-checked _ _ fine)
          four c.takes-n.ensures.answers c.if-n-eq0.false;
    }

pub closed-requires : goal.closed-requires
closed-requires c =
    let fine : writer_check (length c.args.flash.now) c.args.self ≡ Ok tt = sym c.check_writer.ensures.answers ∙ c.in_default.is in
    record { small = taken_small _ _ _ _ _ fine c.takes-n.ensures.answers c.grown-next.ensures.answers }

pub returns : goal.returns
returns c =
    let fine : writer_check (length c.args.flash.now) c.args.self ≡ (Ok tt) = sym c.check_writer.ensures.answers ∙ c.in_default.is in
    let a = c.args in
    let all = write-some erase_value a.self a.bytes.now a.left a.flash.now
    c.takes-n.result c.take_bytes-stores.result c.take_bytes-stores.new.flash c.grown-next.result c.closed.result
    c.ended_by.result fine c.takes-n.ensures.answers c.if-n-eq0.false
    c.grown-next.ensures.answers (c.take_bytes-stores.ensures.answers, c.take_bytes-stores.ensures.bytes) c.closed.ensures.answers c.ended_by.ensures.answers in
    record {
      answers = all.0;
      bytes = all.1;
    }

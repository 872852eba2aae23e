-- A refusal of the checks is handed back; with nothing pending there is nothing to do; else the chunk's operations are run. That they
-- lie on the flash follows from the checks (`commit-lies`). Assumes nothing.
use Rattle.std.specs.Prelude.{Ok}
use mathlib.Core.Path.{◌≡◌, sym, ◌∙◌}
use lib.ListN.{length}
use Rattle.types.specs.Build.{erase_value}
use Rattle.writer.specs.Checks.{writer_check}
use Rattle.writer.proofs.CheckLaws.{writer-checked, checked_small}
use Rattle.writer.proofs.CommitLaws.{commit-some}
use Rattle.writer.proofs.LiesOnLaws.{commit-lies}
use borrow.Author.Rules.{rules}
use Rattle.writer.proofs.page_writer.PageWriter.commit.Goals as goal

pub finish_chunk-stores-requires : goal.finish_chunk-stores-requires
finish_chunk-stores-requires c =
    let a = c.args in
    let fine : writer_check (length a.flash.now) a.self ≡ Ok tt = sym c.check_writer.ensures.answers ∙ c.in_default.is in
    let four : length a.self.buf ≡ 4 = search rules in
    record {
      small = checked_small _ _ fine;
      w_value = commit-lies erase_value (length a.flash.now) a.self (writer-checked _ _ fine) four c.if-self-eq0.false;
    }

pub returns : goal.returns
returns c =
    let fine : writer_check (length c.args.flash.now) c.args.self ≡ (Ok tt) = sym c.check_writer.ensures.answers ∙ c.in_default.is in
    let a = c.args in
    let all = commit-some erase_value a.self a.left a.flash.now fine
    c.finish_chunk-stores.result c.finish_chunk-stores.new.flash c.next_chunk.result c.ended_by.result
    c.if-self-eq0.false (c.finish_chunk-stores.ensures.answers, c.finish_chunk-stores.ensures.bytes) c.next_chunk.ensures.answers c.ended_by.ensures.answers in
    record {
      answers = all.0;
      bytes = all.1;
    }

-- Each operation is made if it is due, and together they are the chunk's (`chunk-ran`); the requirement says that they lie on the flash.
-- Assumes nothing.
use mathlib.Core.Path.{◌∙◌}
use Rattle.types.specs.Build.{erase_value}
use Rattle.writer.proofs.CommitLaws.{chunk-ran}
use Rattle.writer.proofs.commit.finish_chunk.Goals as goal

pub returns : goal.returns
returns c =
    let a = c.args in
    let all = chunk-ran erase_value a.left a.due a.w c.chunk_header-head.result
    a.flash.now c.erase_if-a.new.flash c.store_if-b.new.flash c.store_if-c.new.flash
    c.erase_if-a.result c.store_if-b.result c.store_if-c.result
    c.requires.w_value (c.chunk_header-head.ensures.answers ∙ rw c.finish.ensures.answers)
    (c.erase_if-a.ensures.answers, c.erase_if-a.ensures.bytes) (c.store_if-b.ensures.answers, c.store_if-b.ensures.bytes) (c.store_if-c.ensures.answers, c.store_if-c.ensures.bytes) in
    record {
      answers = all.0;
      bytes = all.1;
    }

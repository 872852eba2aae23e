-- The erase, the group, the whole groups and the chunk's end are run one after the other (`taking-ran`); the requirement says that
-- they lie on the flash. Assumes nothing.
use mathlib.Core.Path.{◌∙◌}
use lib.ListN.{length}
use Rattle.types.specs.Build.{erase_value}
use Rattle.writer.proofs.LiesOnLaws.{closing-lies}
use Rattle.writer.proofs.WriteLaws.{taking-ran}
use Rattle.writer.proofs.write.take_bytes.Goals as goal

pub finish_chunk-d-requires : goal.finish_chunk-d-requires
finish_chunk-d-requires c =
    let a = c.args in
    let long = c.store_if-c.auto.flash ∙ c.store_if-b.auto.flash ∙ c.erase_if-a.auto.flash in
    record {
      small = c.requires.small;
      w_value = closing-lies erase_value (length c.store_if-c.new.flash) (length a.flash.now) a.w a.next a.bytes.now
          c.requires.bytes_value c.requires.next_value long;
    }

pub shape_of-flash : goal.shape_of-flash
shape_of-flash c =
    c.finish_chunk-d.auto.flash ∙ c.store_if-c.auto.flash ∙ c.store_if-b.auto.flash ∙ c.erase_if-a.auto.flash

pub returns : goal.returns
returns c =
    let a = c.args in
    let all = taking-ran erase_value a.left c.lacking-lack.result c.to_group-first.result c.to_whole-many.result
    a.w a.next a.bytes.now c.group_of-group.result c.part_of.result.now
    a.flash.now c.erase_if-a.new.flash c.store_if-b.new.flash c.store_if-c.new.flash c.finish_chunk-d.new.flash
    c.erase_if-a.result c.store_if-b.result c.store_if-c.result c.finish_chunk-d.result
    c.requires.bytes_value c.lacking-lack.ensures.answers c.to_group-first.ensures.answers c.to_whole-many.ensures.answers
    c.group_of-group.ensures.answers c.part_of.ensures.answers c.requires.next_value
    (c.erase_if-a.ensures.answers, c.erase_if-a.ensures.bytes) (c.store_if-b.ensures.answers, c.store_if-b.ensures.bytes) (c.store_if-c.ensures.answers, c.store_if-c.ensures.bytes)
    (c.finish_chunk-d.ensures.answers, c.finish_chunk-d.ensures.bytes) in
    record {
      answers = all.0;
      bytes = all.1;
    }

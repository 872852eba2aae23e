-- The header's bytes stand at the start of their room, and the erase and the store of them are run (`header-ran`). Assumes nothing.
use mathlib.Core.Path.{refl}
use Rattle.types.specs.Build.{erase_value}
use Rattle.writer.proofs.HeadingLaws.{header-ran}
use Rattle.writer.proofs.heading.head_page.Goals as goal

pub returns : goal.returns
returns c =
    let a = c.args in
    let all = header-ran erase_value a.left _ a.magic a.w a.header.now c.header_room-room.result
    a.flash.now c.erase_if-a.new.flash c.store_if-b.new.flash c.erase_if-a.result c.store_if-b.result
    c.requires.header_value refl c.requires.header_len_bound c.header_room-room.ensures.answers
    (c.erase_if-a.ensures.answers, c.erase_if-a.ensures.bytes) (c.store_if-b.ensures.answers, c.store_if-b.ensures.bytes) in
    record {
      answers = all.0;
      bytes = all.1;
    }

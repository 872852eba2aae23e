-- Four parts are laid into the room, one behind the other (`room-laid`). Assumes nothing.
use mathlib.Core.Path.{◌∙◌}
use Rattle.slices.specs.Patch.{blank}
use Rattle.writer.proofs.HeadingLaws.{room-laid}
use Rattle.writer.proofs.heading.header_room.Goals as goal

pub returns : goal.returns
unfolding blank
returns c =
    record {
      answers =
          let a = c.args in
          c.put_at-4.ensures.bytes
          ∙ rw (c.put_at-3.ensures.bytes, c.put_at-2.ensures.bytes, c.put_at.ensures.bytes)
          (rw (c.put32-s.ensures.answers, c.crc32.ensures.answers, c.put32-p.ensures.answers, c.put32-m.ensures.answers)
          (room-laid a.magic a.page.0 a.header.now));
    }

-- Writing the page header (docs/RULES.md, Adding): one store at 0, after the erase if one is armed. Assumes nothing.
use Rattle.std.specs.Prelude.{false, List, [], ◌∷◌, ◌++◌, ℕ, ◌+◌}
use Rattle.types.specs.Build.{page_header_size, max_header_size}
use Rattle.flash.specs.Operations.{Op, store}
use Rattle.slices.specs.Patch.{over, blank}
use Rattle.page.specs.Headers.{page_header}
use Rattle.writer.specs.Commits.{erase_ops}
use Rattle.writer.specs.declared.page_writer.PageWriter.{PageWriter}

-- the longest page header's room, with the header at its start and zeros behind it
abbrev pub header_room : ℕ → ℕ → List ℕ → List ℕ
header_room magic p header = over (page_header magic p header) (blank 0 (page_header_size + max_header_size))

-- write_header
unfoldable pub header_ops : ℕ → PageWriter → ℕ → List ℕ → List Op
header_ops e w magic header = erase_ops e w ++ (store 0 (page_header magic w.page.0 header) ∷ [])

-- the erase is made; nothing else in the writer moves
abbrev pub headed : PageWriter → PageWriter
headed w =
    record {
      page = w.page;
      h = w.h;
      armed = false;
      crc = w.crc;
      buf = w.buf;
      total = w.total;
      offset = w.offset;
      pending = w.pending;
    }

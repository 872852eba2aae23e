-- The range of a reader, and the checks before a call's work, in their order, 5, 11, 4 (docs/RULES.md, Ranges, Order of
-- checks). Assumes nothing.
use Rattle.std.specs.Prelude.{Bool, ◌&&◌, ◌||◌, ℕ, ◌+◌, ◌%◌, eqb, leb, ltb, Ok}
use Rattle.types.specs.Build.{page_size, align, max_page_count, page_header_size, chunk_header_size}
use Rattle.types.specs.Checks.{asking, Verdict}
use Rattle.types.specs.declared.refusal.Refusal.TheVariants.{BadFlash, BadState}
use Rattle.flash.specs.Geometry.{flash_fine}
use Rattle.page.specs.Checks.{page_check}
use Rattle.reader.specs.declared.page_reader.PageReader.{PageReader}

-- a chunk's offset is a multiple of 4 from 12, its payload ends within the page, and the position is at most its length
abbrev pub chunk_in_range : ℕ → ℕ → ℕ → Bool
chunk_in_range offset len position =
    eqb (offset % align) 0 && leb page_header_size offset && leb (offset + chunk_header_size + len) page_size && leb position len

-- a reader's page is below 256 and, if it has not ended, its chunk is in range
abbrev pub in_range : PageReader → Bool
in_range r = ltb r.page.0 max_page_count && (r.ended || chunk_in_range r.offset r.len r.position)

-- 11, of dehydrate and page_id
abbrev pub state_check : PageReader → Verdict
state_check r = asking (in_range r) BadState (Ok tt)

-- 5, 11, 4, of every call on a reader that takes the flash, of n bytes
unfoldable pub reader_check : ℕ → PageReader → Verdict
reader_check n r = asking (flash_fine n) BadFlash (asking (in_range r) BadState (page_check n r.page))

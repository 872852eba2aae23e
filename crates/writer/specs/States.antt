-- The state of a writer and its ranges (docs/RULES.md, Ranges). Assumes nothing.
use Rattle.std.specs.Prelude.{Bool, true, ◌&&◌, ℕ, ◌+◌, ◌-◌, ◌%◌, ◌≤◌, min, eqb, leb, ltb, replicate}
use Rattle.types.specs.Build.{page_size, align, max_page_count, page_header_size, chunk_header_size, max_chunk_size}
use Rattle.types.specs.declared.page_id.PageID.{PageID}
use Rattle.crc.specs.Register.{preset}
use Rattle.page.specs.Headers.{header_fine}
use Rattle.writer.specs.declared.page_writer.PageWriter.{PageWriter}

-- where the chunks of a page start, after a header with h bytes
abbrev pub first_chunk : ℕ → ℕ
first_chunk h = page_header_size + h

-- the most bytes of a chunk at offset o, which is 0 where its header has no room either
abbrev pub most_pending : ℕ → ℕ
most_pending o = min max_chunk_size (page_size - chunk_header_size - o)

-- a writer whose numbers are small enough to be added
pub record Small (w : PageWriter) : Type 0 where
  pub within : w.offset ≤ page_size
  pub short : w.pending ≤ max_chunk_size

-- whether h, page, offset, pending and len are each in their range
unfoldable pub in_range : PageWriter → Bool
in_range w =
    header_fine w.h
    && ltb w.page.0 max_page_count
    && eqb (w.offset % align) 0
    && leb (first_chunk w.h) w.offset
    && leb w.offset page_size
    && leb w.pending (most_pending w.offset)
    && leb w.total (w.offset - first_chunk w.h + w.pending)

-- a writer that starts at an offset and has taken nothing: the sum is at its start, the group buffer is zero
abbrev pub fresh : Bool → PageID → ℕ → ℕ → PageWriter
fresh armed page h offset =
    record { page = page; h = h; armed = armed; crc = preset; buf = replicate align 0; total = 0; offset = offset; pending = 0 }

-- a new one: the first page, without a higher header, to be erased first
abbrev pub new_writer : PageWriter
new_writer = fresh true (record { 0 = 0 }) 0 (first_chunk 0)

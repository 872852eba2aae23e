-- Small flashes: with a header alone, with one chunk behind it, whose payload is the byte 5, with a higher header, and with a second
-- page. And calls of a writer. Assumes nothing.
use Rattle.std.specs.Prelude.{List, [], ◌∷◌, ◌++◌, ℕ, ◌-◌}
use Rattle.types.specs.Build.{erase_value, page_size, page_header_size}
use Rattle.types.specs.declared.page_id.PageID.{PageID}
use Rattle.crc.specs.Published.{published}
use Rattle.slices.specs.Patch.{blank}
use Rattle.page.specs.Chunks.{chunk_header}
use Rattle.page.specs.Headers.{page_header}
use Rattle.writer.specs.Calls.{AddCall, writes, commits, heads}

abbrev pub worked_magic : ℕ
worked_magic = 7

abbrev pub worked_page : PageID
worked_page = record { 0 = 0 }

-- a chunk of one byte, with its padding
unfoldable pub chunk_of_one : ℕ → List ℕ
chunk_of_one byte = chunk_header 1 (published (byte ∷ [])) ++ (byte ∷ 0 ∷ 0 ∷ 0 ∷ [])

unfoldable pub worked_flash : List ℕ
worked_flash = page_header worked_magic 0 [] ++ (chunk_of_one 5 ++ blank erase_value (page_size - 24))

unfoldable pub headed_flash : List ℕ
headed_flash = page_header worked_magic 0 [] ++ blank erase_value (page_size - page_header_size)

-- a page with a higher header of four bytes and no chunk
unfoldable pub higher_flash : List ℕ
higher_flash = page_header worked_magic 0 (1 ∷ 2 ∷ 3 ∷ 4 ∷ []) ++ blank erase_value (page_size - 16)

-- two pages, the second of which is filled with the byte 9
unfoldable pub two_pages : List ℕ
two_pages = headed_flash ++ blank 9 page_size

-- two chunks of one byte each, and the page header once more between them
abbrev pub two_chunks : List AddCall
two_chunks = writes (0 ∷ []) ∷ commits ∷ heads worked_magic [] ∷ writes (1 ∷ []) ∷ commits ∷ []

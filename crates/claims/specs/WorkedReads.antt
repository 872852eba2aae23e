-- Flashes of one page to read: with two good chunks, with an empty one in between, and with a second chunk whose payload is damaged.
-- Assumes nothing.
use Rattle.std.specs.Prelude.{List, [], ◌∷◌, ◌++◌, ℕ, ◌-◌}
use Rattle.types.specs.Build.{erase_value, page_size}
use Rattle.crc.specs.Published.{published}
use Rattle.slices.specs.Patch.{blank}
use Rattle.page.specs.Chunks.{chunk_header}
use Rattle.page.specs.Headers.{page_header}
use Rattle.claims.specs.Again.{opens, reads, dehydrates, rehydrates}
use Rattle.claims.specs.ReaderHistories.{Asked}
use Rattle.claims.specs.Worked.{worked_magic, worked_page, chunk_of_one}

-- the bytes 5, and 6 and 7
unfoldable pub two_chunk_flash : List ℕ
two_chunk_flash =
    page_header worked_magic 0 [] ++ (chunk_of_one 5 ++ (chunk_header 2 (published (6 ∷ 7 ∷ [])) ++ (6 ∷ 7 ∷ 0 ∷ 0 ∷ []) ++ blank erase_value (page_size - 36)))

-- the byte 5, no byte, and 6
unfoldable pub empty_between_flash : List ℕ
empty_between_flash = page_header worked_magic 0 [] ++ (chunk_of_one 5 ++ (chunk_header 0 (published []) ++ (chunk_of_one 6 ++ blank erase_value (page_size - 44))))

-- the byte 5, and 7 under the sum of 6
unfoldable pub damaged_flash : List ℕ
damaged_flash = page_header worked_magic 0 [] ++ (chunk_of_one 5 ++ (chunk_header 1 (published (6 ∷ [])) ++ (7 ∷ 0 ∷ 0 ∷ 0 ∷ []) ++ blank erase_value (page_size - 36)))

-- to open the page, and to read into a buffer of two bytes
abbrev pub open_it : Asked
open_it = record { call = opens worked_magic worked_page; lent = [] }

abbrev pub read_two : Asked
read_two = record { call = reads; lent = 8 ∷ 9 ∷ [] }

-- to keep the reader in slot 3, and to bring it back from there
abbrev pub keep_it : Asked
keep_it = record { call = dehydrates 3; lent = [] }

abbrev pub bring_it_back : Asked
bring_it_back = record { call = rehydrates 3; lent = [] }

-- The page header: magic u32, page number u32, the sum of the h bytes, then those bytes (docs/FORMAT.md, Pages).
-- Assumes nothing.
use Rattle.std.specs.Prelude.{Bool, ◌&&◌, List, ◌++◌, ℕ, ◌%◌, eqb, leb, length, take, drop, Ok}
use Rattle.types.specs.Build.{align, page_header_size, max_header_size}
use Rattle.types.specs.Bytes.{bytes_of}
use Rattle.types.specs.Checks.{asking, Verdict}
use Rattle.types.specs.declared.refusal.Refusal.TheVariants.{BadHeader}
use Rattle.crc.specs.Published.{published}
use Rattle.slices.specs.Fields.{field}

-- whether h is a multiple of 4 from 0 to 64
abbrev pub header_fine : ℕ → Bool
header_fine h = eqb (h % align) 0 && leb h max_header_size

-- h is fine, or it is 6
abbrev pub header_check : ℕ → Verdict
header_check h = asking (header_fine h) BadHeader (Ok tt)

-- the header of page p with the higher header's bytes
unfoldable pub page_header : ℕ → ℕ → List ℕ → List ℕ
page_header magic p header = bytes_of 4 magic ++ (bytes_of 4 p ++ (bytes_of 4 (published header) ++ header))

-- the higher header's h bytes on a page
abbrev pub header_of : List ℕ → ℕ → List ℕ
header_of page h = take h (drop page_header_size page)

-- whether all bytes of a header with h bytes are there
abbrev pub header_there : List ℕ → ℕ → Bool
header_there page h = leb page_header_size (length page) && eqb (length (header_of page h)) h

-- whether a page has its header, with this magic, this number, and the right sum over its h bytes
unfoldable pub page_header_fine : List ℕ → ℕ → ℕ → ℕ → Bool
page_header_fine page magic p h =
    header_there page h && eqb (field 4 page 0) magic && eqb (field 4 page 4) p && eqb (field 4 page 8) (published (header_of page h))

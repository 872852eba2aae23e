-- A good page, and what is on it (docs/RULES.md, Reading): a good header, and only whole chunks that are not empty and whose
-- sums are right. What stands behind them may be anything. Assumes nothing.
use Rattle.std.specs.Prelude.{◌≡◌, true, List, [], ◌∷◌, map, ℕ, ◌+◌, ◌≤◌, length, Ok}
use Rattle.types.specs.Build.{page_size, page_header_size}
use Rattle.types.specs.Bytes.{Bytes}
use Rattle.types.specs.declared.page_id.PageID.{PageID}
use Rattle.page.specs.Headers.{header_fine, page_header_fine}
use Rattle.page.specs.Walks.{Chunk, walk_from}
use Rattle.reader.specs.Calls.{open_page, open_bytes}
use Rattle.reader.specs.Finds.{Found, Joined, payload_of, NotEmpty, sum_right}
use Rattle.reader.specs.declared.page_reader.PageReader.{PageReader}

-- a chunk that is not empty and whose sum is right
pub record Right (page : List ℕ) (c : Chunk) : Type 0 where
  pub some : NotEmpty c
  pub sum : sum_right page c ≡ true

-- each of these chunks is so
abbrev pub AllRight : List ℕ → List Chunk → Type 0
AllRight page [] = Unit
AllRight page (c ∷ cs) = Right page c × AllRight page cs

-- page number p with this magic and h bytes of higher header, whose chunks end at o
pub record Good (magic p h o : ℕ) (page : List ℕ) : Type 0 where
  pub whole : length page ≡ page_size
  pub length-fine : header_fine h ≡ true
  pub header : page_header_fine page magic p h ≡ true
  pub ends : (walk_from page (page_header_size + h)).ending ≡ Ok o
  pub chunks : AllRight page (walk_from page (page_header_size + h)).chunks

-- the payloads of its chunks, in their order
abbrev pub payloads : List ℕ → ℕ → List (List ℕ)
payloads page h = map (payload_of page) (walk_from page (page_header_size + h)).chunks

-- pieces of bytes
abbrev pub AllBytes : List (List ℕ) → Type 0
AllBytes [] = Unit
AllBytes (bytes ∷ pieces) = Bytes bytes × AllBytes pieces

-- ---- what a new reader finds on it

-- exactly these payloads, one a read, and then the end
abbrev pub finds : List (List ℕ) → Found
finds parts = record { parts = parts; ends = Ok tt }

-- exactly these bytes in all, and then the end
abbrev pub hands_out : List ℕ → Joined
hands_out bytes = record { bytes = bytes; ends = Ok tt }

-- buffers, one for each read, with room for at least one byte
abbrev pub SomeRoom : (ℕ → List ℕ) → Type 0
SomeRoom buffers = (i : ℕ) → 1 ≤ length (buffers i)

-- open of a page with h bytes of higher header is done for any reader, and fills the header buffer with these bytes
pub record Opens (flash : List ℕ) (magic : ℕ) (page : PageID) (h : ℕ) (bytes : List ℕ) : Type 0 where
  pub done : (r : PageReader) → (open_page r flash magic page h).answer ≡ Ok tt
  pub header : (r : PageReader) (buffer : List ℕ) → length buffer ≡ h → open_bytes r flash magic page buffer ≡ bytes

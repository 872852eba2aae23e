-- A page that meets the premises of `cut-safe`, and what a new reader finds on it: the byte 6 is added to the byte 5 and the power
-- fails before the header's store, or does not. And what it leaves of a higher header and of a second page. Assumes nothing.
use mathlib.Core.Bool.{true, xor}
use mathlib.Core.Path.{◌≡◌, refl, ap, subst, ◌∙◌}
use mathlib.Core.List.{List, [], ◌∷◌, ◌++◌, flatten}
use Prim.Native.Nat.{ℕ, zero, suc, ◌<◌}
use native.Mathlib.Omega.{arith}
use lib.ListN.{length, get_or}
use Rattle.types.specs.Build.{erase_value, page_size}
use Rattle.types.specs.Bytes.{Bytes, word, bytes_of}
use Rattle.crc.specs.Published.{bits, number, message, among, terms, generator, plus, divided, dividend, remainder, published}
use Rattle.flash.specs.Geometry.{flash_fine, has_page, page_of}
use Rattle.slices.specs.Patch.{patch, blank}
use Rattle.page.specs.Checks.{open_check}
use Rattle.page.specs.Chunks.{chunk_header, chunk_at}
use Rattle.page.specs.Headers.{header_of, page_header, page_header_fine}
use Rattle.page.specs.Walks.{walk, walk_from, all_erased}
use Rattle.reader.specs.Finds.{found, found_with, joined}
use Rattle.writer.specs.Commits.{chunk_ops}
use Rattle.writer.specs.Openings.{appended}
use Rattle.writer.specs.States.{new_writer}
use Rattle.writer.specs.Writes.{payload_ops, taking_ops}
use Rattle.claims.specs.Additions.{added, addition, addition_ops, added_payload}
use Rattle.claims.specs.Pages.{AllBytes, Good, payloads, finds, hands_out, Opens}
use Rattle.claims.specs.Worked.{worked_magic, worked_page, chunk_of_one, worked_flash, headed_flash, higher_flash, two_pages}
use Rattle.claims.proofs.CutSafe.{cut-safe, cut-safe-rooms, cut-safe-header}
use Rattle.claims.proofs.Elsewhere.{cut-elsewhere}

abbrev pub six : List (List ℕ)
six = (6 ∷ []) ∷ []

pub six-bytes : AllBytes six
unfolding Bytes
six-bytes = (byte, tt)
  where
    byte : (i : ℕ) → get_or (6 ∷ []) i 0 < 256
    byte zero = omega arith
    byte (suc i) = omega arith

pub worked-shape : (flash_fine (length worked_flash) ≡ true) × (has_page (length worked_flash) 0 ≡ true)
unfolding bytes_of blank chunk_header page_header chunk_of_one worked_flash
worked-shape = (refl, refl)

pub worked-good : Good worked_magic 0 0 24 (page_of 0 worked_flash)
unfolding word bytes_of bits number message among terms generator xor plus divided dividend remainder published blank chunk_header
    page_header chunk_of_one worked_flash page_header_fine chunk_at walk walk_from
worked-good = record { whole = refl; length-fine = refl; header = refl; ends = refl; chunks = (record { some = omega arith; sum = refl }, tt) }

-- what is found in all, by computation
worked-payloads : (payloads (page_of 0 worked_flash) 0 ++ added_payload erase_value worked_flash worked_page 0 new_writer 1 six ≡ (5 ∷ []) ∷ [])
    × (payloads (page_of 0 worked_flash) 0 ++ added_payload erase_value worked_flash worked_page 0 new_writer 2 six ≡ (5 ∷ []) ∷ (6 ∷ []) ∷ [])
unfolding word bytes_of patch blank chunk_header page_header chunk_of_one worked_flash chunk_at walk walk_from all_erased chunk_ops appended open_check payload_ops taking_ops addition addition_ops
worked-payloads = (refl, refl)

-- after one store of two the old byte is found, after both the two of them
pub worked_cut : found (added erase_value worked_flash worked_page 0 new_writer 1 six) worked_magic worked_page 0 ≡ finds ((5 ∷ []) ∷ [])
worked_cut =
    cut-safe worked_flash worked_page worked_magic 0 24 new_writer 1 six worked-shape.0 worked-shape.1 worked-good six-bytes
    ∙ ap finds worked-payloads.0

pub worked-whole : found (added erase_value worked_flash worked_page 0 new_writer 2 six) worked_magic worked_page 0 ≡ finds ((5 ∷ []) ∷ (6 ∷ []) ∷ [])
worked-whole =
    cut-safe worked_flash worked_page worked_magic 0 24 new_writer 2 six worked-shape.0 worked-shape.1 worked-good six-bytes
    ∙ ap finds worked-payloads.1

-- into buffers of one byte each: the same bytes
abbrev pub small : ℕ → List ℕ
small i = 0 ∷ []

pub worked-rooms : joined (found_with small (added erase_value worked_flash worked_page 0 new_writer 2 six) worked_magic worked_page 0) ≡ hands_out (5 ∷ 6 ∷ [])
unfolding flatten
worked-rooms =
    cut-safe-rooms worked_flash worked_page worked_magic 0 24 new_writer 2 six worked-shape.0 worked-shape.1 worked-good six-bytes small (λ i. omega arith)
    ∙ ap (λ (l : List (List ℕ)). hands_out (flatten l)) worked-payloads.1

-- ---- a page with a higher header

pub higher-shape : (flash_fine (length higher_flash) ≡ true) × (has_page (length higher_flash) 0 ≡ true)
unfolding bytes_of blank page_header higher_flash
higher-shape = (refl, refl)

pub higher-good : Good worked_magic 0 4 16 (page_of 0 higher_flash)
unfolding word bytes_of bits number message among terms generator xor plus divided dividend remainder published blank page_header higher_flash page_header_fine chunk_at walk walk_from
higher-good = record { whole = refl; length-fine = refl; header = refl; ends = refl; chunks = tt }

pub higher-header : header_of (page_of 0 higher_flash) 4 ≡ 1 ∷ 2 ∷ 3 ∷ 4 ∷ []
unfolding bytes_of blank page_header higher_flash
higher-header = refl

-- after one store of an addition open hands out its four bytes
pub worked-header : Opens (added erase_value higher_flash worked_page 4 new_writer 1 six) worked_magic worked_page 4 (1 ∷ 2 ∷ 3 ∷ 4 ∷ [])
worked-header =
    subst (λ (l : List ℕ). Opens (added erase_value higher_flash worked_page 4 new_writer 1 six) worked_magic worked_page 4 l) higher-header
    (cut-safe-header higher_flash worked_page worked_magic 4 16 new_writer 1 six higher-shape.0 higher-shape.1 higher-good six-bytes)

-- ---- a second page

pub second-page : page_of 1 two_pages ≡ blank 9 page_size
unfolding bytes_of blank page_header headed_flash two_pages
second-page = refl

-- a chunk is added to the first page; all of the second is as it was
pub worked-elsewhere : page_of 1 (added erase_value two_pages worked_page 0 new_writer 2 six) ≡ blank 9 page_size
worked-elsewhere = (cut-elsewhere erase_value two_pages worked_page 0 new_writer 2 six).other-pages 1 (λ (e : 0 ≡ 1). omega arith) ∙ second-page

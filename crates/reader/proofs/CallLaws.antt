-- What a reader's calls come to, by their checks and their answers. Assumes nothing.
use Rattle.std.specs.Prelude.{Ok, Err, ⊤}
use Rattle.std.specs.declared.result.Result.{Result}
use Rattle.types.specs.declared.refusal.Corrupted.{Corrupted}
use mathlib.Core.Path.{◌≡◌, refl, ap}
use mathlib.Core.Bool.{Bool, true, false, cond}
use mathlib.Core.List.{List}
use Prim.Native.Nat.{ℕ}
use native.Mathlib.Omega.{arith}
use lib.ListN.{length}
use Rattle.types.specs.Build.{max_chunk_size}
use Rattle.types.specs.Checks.{asking, refused_or, Verdict}
use Rattle.types.specs.declared.page_id.PageID.{PageID}
use Rattle.types.specs.declared.refusal.Refusal.{Refusal}
use Rattle.types.specs.declared.refusal.Refusal.TheVariants as row
use Rattle.flash.specs.Geometry.{flash_fine, page_of}
use Rattle.slices.specs.Patch.{blank}
use Rattle.page.specs.Checks.{page_check, open_check}
use Rattle.page.specs.Headers.{page_header_fine}
use Rattle.reader.specs.Calls.{read_header, opening, opening_of, refused_opening, open_page, dehydrate}
use Rattle.reader.specs.Checks.{in_range, state_check, reader_check}
use Rattle.reader.specs.Finds.{Found, read_all, found_with, found}
use Rattle.reader.specs.States.{new_reader, stored}
use Rattle.reader.specs.declared.dehydrated.DehydratedPageReader.{DehydratedPageReader}
use Rattle.reader.specs.declared.page_reader.PageReader.{PageReader}

-- ---- the checks

-- a reader that is out of range is refused
pub reader_check-out : (n : ℕ) (r : PageReader) → in_range r ≡ false → (w : Refusal) × (reader_check n r ≡ Err w)
unfolding reader_check
reader_check-out n r e = by (flash_fine n)
  where
    by : (t : Bool) → (w : Refusal) × (asking t row.BadFlash (asking (in_range r) row.BadState (page_check n r.page)) ≡ Err w)
    by false = (row.BadFlash, refl)
    by true = (row.BadState, ap (λ (b : Bool). asking b row.BadState (page_check n r.page)) e)

-- ---- read_header and open

-- a header that was read is fine
pub read_header-done : (flash : List ℕ) (magic : ℕ) (page : PageID) (h : ℕ) → read_header flash magic page h ≡ Ok tt
    → page_header_fine (page_of page.0 flash) magic page.0 h ≡ true
unfolding read_header
read_header-done flash magic page h done = by (open_check (length flash) h page) (page_header_fine (page_of page.0 flash) magic page.0 h) done
  where
    by : (v : Verdict) (t : Bool) → refused_or {A = Verdict} v Err (cond t (Ok tt) (Err row.Corrupted)) ≡ Ok tt → t ≡ true
    by (Err why) t done = let z : ◌≡◌ {A = ℕ} 0 1 = cc in absurd (omega arith)
    by (Ok tt) true done = refl
    by (Ok tt) false done = let z : ◌≡◌ {A = ℕ} 0 1 = cc in absurd (omega arith)

-- whose reader it is makes no difference to the answer
pub open_page-answer : (r s : PageReader) (flash : List ℕ) (magic : ℕ) (page : PageID) (h : ℕ)
    → (open_page r flash magic page h).answer ≡ (open_page s flash magic page h).answer
unfolding open_page
open_page-answer r s flash magic page h = by (open_check (length flash) h page) (opening (page_of page.0 flash) magic page h)
  where
    by : (v : Verdict) (a : Result PageReader Corrupted) → (refused_or v (refused_opening r) (opening_of r a)).answer ≡ (refused_or v (refused_opening s) (opening_of s a)).answer
    by (Err why) a = refl
    by (Ok tt) (Ok at) = refl
    by (Ok tt) (Err w) = refl

-- ---- dehydrate

-- the state handed out is the reader's own
pub dehydrate-state : (r : PageReader) (d : DehydratedPageReader) → dehydrate r ≡ Ok d → stored r ≡ d
unfolding dehydrate
dehydrate-state r d done = by (state_check r) done
  where
    by : (v : Verdict) → refused_or v Err (Ok (stored r)) ≡ Ok d → stored r ≡ d
    by (Ok tt) done = cc
    by (Err why) done = let z : ◌≡◌ {A = ℕ} 0 1 = cc in absurd (omega arith)

-- ---- what is found

-- each buffer holds a whole chunk
pub found-with : (flash : List ℕ) (magic : ℕ) (page : PageID) (h : ℕ) → found flash magic page h ≡ found_with (λ i. blank 0 max_chunk_size) flash magic page h
unfolding found
found-with flash magic page h = refl

-- reads that end well follow an open that is done
pub found_with-opened : (buffers : ℕ → List ℕ) (flash : List ℕ) (magic : ℕ) (page : PageID) (h : ℕ) → (found_with buffers flash magic page h).ends ≡ Ok tt
    → (open_page new_reader flash magic page h).answer ≡ Ok tt
unfolding found_with
found_with-opened buffers flash magic page h fine = by _ (open_page new_reader flash magic page h).answer (open_page new_reader flash magic page h).reader fine
  where
    by : (further : PageReader → Found) (a : Result ⊤ Refusal) (r : PageReader) → (read_all further a r).ends ≡ Ok tt → a ≡ Ok tt
    by further (Ok tt) r fine = refl
    by further (Err why) r fine = let z : ◌≡◌ {A = ℕ} 0 1 = cc in absurd (omega arith)

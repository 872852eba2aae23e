-- The range of a reader, and what a call knows that has passed its checks. Assumes nothing.
use Rattle.std.specs.Prelude.{Ok}
use mathlib.Core.Path.{◌≡◌, refl}
use mathlib.Core.Bool.{Bool, true, false, ◌||◌}
use Prim.Native.Nat.{ℕ, ◌+◌, ◌%◌, ◌≤◌, ◌<◌}
use borrow.Author.Tests.{eqb-true, leb-true, ltb-true, eq-eqb, le-leb, lt-ltb}
use Rattle.types.specs.Build.{page_size, align, max_page_count, page_header_size, chunk_header_size}
use Rattle.types.specs.declared.refusal.Refusal.TheVariants.{OutOfRange, BadFlash, BadState}
use Rattle.types.proofs.CheckLaws.{asking-fine}
use Rattle.types.proofs.TestLaws.{both_true}
use Rattle.flash.specs.Geometry.{flash_fine, whole_pages, has_page}
use Rattle.page.proofs.CheckLaws.{Inside, inside}
use Rattle.reader.specs.Checks.{chunk_in_range, in_range, reader_check}
use Rattle.reader.specs.declared.page_reader.PageReader.{PageReader}

-- ---- the range of a reader

pub record InChunk (offset len position : ℕ) : Type 0 where
  pub group : offset % align ≡ 0
  pub start : page_header_size ≤ offset
  pub fits : offset + chunk_header_size + len ≤ page_size
  pub within : position ≤ len

pub chunk-known : (offset len position : ℕ) → chunk_in_range offset len position ≡ true → InChunk offset len position
chunk-known offset len position e =
    let a = both_true _ _ e in
    let b = both_true _ _ a.0 in
    let c = both_true _ _ b.0 in
    record {
      group = eqb-true _ _ c.0;
      start = leb-true _ _ c.1;
      fits = leb-true _ _ b.1;
      within = leb-true _ _ a.1;
    }

pub chunk_in : (offset len position : ℕ) → InChunk offset len position → chunk_in_range offset len position ≡ true
chunk_in offset len position k =
    rw (eq-eqb (offset % 4) 0 k.group, le-leb 12 offset k.start, le-leb (offset + 8 + len) page_size k.fits, le-leb position len k.within)

pub record InRange (r : PageReader) : Type 0 where
  pub low : r.page.0 < max_page_count
  pub chunk : r.ended ≡ false → InChunk r.offset r.len r.position

-- either way
pub range-known : (r : PageReader) → in_range r ≡ true → InRange r
range-known r e =
    let a = both_true _ _ e in
    record {
      low = ltb-true _ _ a.0;
      chunk = λ open-end. chunk-known r.offset r.len r.position (rw open-end at a.1);
    }

pub range-in : (r : PageReader) → InRange r → in_range r ≡ true
range-in r k = rw (lt-ltb r.page.0 256 k.low) (by r.ended refl)
  where
    by : (t : Bool) → r.ended ≡ t → (t || chunk_in_range r.offset r.len r.position) ≡ true
    by true e = refl
    by false e = chunk_in r.offset r.len r.position (k.chunk e)

-- ---- what a call knows after its checks

pub record ReaderChecked (n : ℕ) (r : PageReader) : Type 0 where
  pub flash : Inside n r.page.0
  pub range : InRange r

pub reader-checked : (n : ℕ) (r : PageReader) → reader_check n r ≡ Ok tt → ReaderChecked n r
unfolding reader_check
reader-checked n r e =
    let a = asking-fine (flash_fine n) BadFlash _ e in
    let b = asking-fine (in_range r) BadState _ a.1 in
    let c = asking-fine (has_page n r.page.0) OutOfRange _ b.1 in
    record { flash = inside n r.page.0 a.0 c.0; range = range-known r b.0 }

-- the checks pass where each of their tests does
pub reader-fine : (n : ℕ) (r : PageReader) → flash_fine n ≡ true → r.page.0 < whole_pages n → InRange r → reader_check n r ≡ Ok tt
unfolding reader_check
reader-fine n r f has k = rw (f, range-in r k, lt-ltb r.page.0 (whole_pages n) has)

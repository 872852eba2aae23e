-- In range stays in range, call by call; and a reader is in range once it is opened. Assumes nothing.
use Rattle.std.specs.Prelude.{Ok, Err}
use Rattle.types.specs.Checks.{corruption}
use Rattle.std.specs.declared.result.Result.{Result}
use Rattle.types.specs.declared.refusal.Corrupted.{Corrupted}
use mathlib.Core.Path.{◌≡◌, refl}
use mathlib.Core.Bool.{Bool, true, false, ◌||◌, cond}
use mathlib.Core.List.{List}
use mathlib.Core.Logic.{⊎_elim}
use Prim.Native.Nat.{ℕ, zero, suc, ◌+◌, ◌-◌, ◌%◌, ◌≤◌, ◌<◌, min}
use native.Mathlib.Omega.{arith}
use lib.ListN.{length}
use Rattle.types.specs.Build.{page_header_size, align, max_page_count}
use Rattle.types.specs.Checks.{refused_or, Verdict}
use Rattle.types.specs.declared.page_id.PageID.{PageID}
use Rattle.types.proofs.TestLaws.{decided, le-or-lt}
use Rattle.flash.specs.Geometry.{page_of}
use Rattle.page.specs.Checks.{open_check}
use Rattle.page.specs.Chunks.{next_offset, payload_fine, checked_at}
use Rattle.page.specs.Headers.{page_header_fine}
use Rattle.page.proofs.CheckLaws.{open-checked}
use Rattle.reader.specs.Calls.{refused_passage, read, read_of, skip, passage_of, is_at_eof, refused_end_test, tested, open_page, refused_opening, opening_of, rehydrate_from}
use Rattle.reader.specs.Checks.{in_range, reader_check}
use Rattle.reader.specs.Moves.{arriving, moved, ready, rest_of, past, onward, skip_by, skipped}
use Rattle.reader.specs.States.{new_reader, unread, restored}
use Rattle.reader.specs.declared.answers.Passage.{Passage}
use Rattle.reader.specs.declared.dehydrated.DehydratedPageReader.{DehydratedPageReader}
use Rattle.reader.specs.declared.moves.Passed.{Passed}
use Rattle.reader.specs.declared.page_reader.PageReader.{PageReader}
use Rattle.reader.proofs.CheckLaws.{InRange, range-known, range-in, reader-checked}
use Rattle.reader.proofs.MoveLaws.{Arriving, arriving-known, arriving-whole, moved-known, ready-known, rest-within}
use Rattle.reader.proofs.SkipLaws.{by-ended, by-here, by-on}

-- a new reader is not, until it is opened
pub new-out : in_range new_reader ≡ false
new-out = refl

-- ---- moves

pub arriving-range : (page : List ℕ) (r : PageReader) (o : ℕ) (s : PageReader) → Arriving page r o s → r.page.0 < max_page_count → o % align ≡ 0
    → page_header_size ≤ o → InRange s
arriving-range page r o s k low group start =
    let at : s.offset ≡ o = k.at in
    record {
      low = rw k.page-kept low;
      chunk = λ e.
          let w = arriving-whole page r o s k e in
          record { group = rw at group; start = rw at start; fits = w.0; within = w.1 };
    }

pub moved-range : (page : List ℕ) (r s : PageReader) → InRange r → r.ended ≡ false → moved page r ≡ Ok s → InRange s
moved-range page r s k e a =
    let start : 12 ≤ r.offset = (k.chunk e).start in
    arriving-range page r (next_offset r.offset r.len) s (moved-known page r s a) k.low (omega arith) (omega arith)

pub ready-range : (page : List ℕ) (r s : PageReader) → InRange r → ready page r ≡ Ok s → InRange s
ready-range page r s k a = ⊎_elim (λ f. rw f k) (λ m. moved-range page r s k m.0 m.1.1) (ready-known page r s a)

pub ready-page : (page : List ℕ) (r s : PageReader) → ready page r ≡ Ok s → s.page ≡ r.page
ready-page page r s a = ⊎_elim (λ f. rw f) (λ m. (moved-known page r s m.1.1).page-kept) (ready-known page r s a)

pub past-range : (page : List ℕ) (r : PageReader) (n : ℕ) → InRange r → n ≤ length (rest_of page r) → InRange (past r n)
past-range page r n k h =
    record {
      low = k.low;
      chunk = λ e.
          let c = k.chunk e in
          record { group = c.group; start = c.start; fits = c.fits; within = omega (arith, rest-within page r e c.within) };
    }

-- ---- a skip

abbrev RangeOf : Result Passed Corrupted → Type 0
RangeOf (Ok passed') = InRange passed'.reader
RangeOf (Err w) = Unit

module _ (page : List ℕ) where
  onward-range : (f : PageReader → (Result Passed Corrupted)) (a : Result PageReader Corrupted) → ((s : PageReader) → a ≡ Ok s → RangeOf (f s)) → RangeOf (onward f a)
  onward-range f (Ok s) h = h s refl
  onward-range f (Err w) h = tt

  by-range : (n count : ℕ) (r : PageReader) → InRange r → RangeOf (skip_by n page count r)
  unfolding skip_by
  by-range zero count r k = k
  by-range (suc n) count r k =
      let left = length (rest_of page r) in
      ⊎_elim
      (λ e. rw (by-ended page (suc n) count r e) k)
      (λ e.
      ⊎_elim
      (λ h. rw (by-here page n count r e h) (past-range page r count k h))
      (λ h.
      rw (by-on page n count r e h)
      (onward-range (skip_by n page (count - left)) (moved page (past r left))
      (λ s a. by-range n (count - left) s (moved-range page (past r left) s (past-range page r left k (omega arith)) e a))))
      (le-or-lt count left))
      (decided r.ended)

  pub skip_range : (count : ℕ) (r s : PageReader) (left : ℕ) → InRange r → skipped page count r ≡ Ok (record { reader = s; left = left }) → InRange s
  unfolding skipped
  skip_range count r s left k e = rw e at (by-range 513 count r k)

-- ---- the calls

module _ (r : PageReader) (flash : List ℕ) (k : in_range r ≡ true) where
  range-after : (v : Verdict) (work : Passage ℕ) → InRange work.reader → in_range (refused_or v (refused_passage r) work).reader ≡ true
  range-after (Ok tt) work h = range-in work.reader h
  range-after (Err w) work h = k

  pub read-in-range : (room : ℕ) → in_range (read r flash room).reader ≡ true
  unfolding read
  read-in-range room =
      let page = page_of r.page.0 flash in
      range-after (reader_check (length flash) r) (read_of page r room (ready page r)) (by page (ready page r) refl)
    where
      by : (page : List ℕ) (a : Result PageReader Corrupted) → ready page r ≡ a → InRange (read_of page r room a).reader
      by page (Ok s) e = past-range page s (min room (length (rest_of page s))) (ready-range page r s (range-known r k) e) (omega arith)
      by page (Err w) e = range-known r k

  pub skip-in-range : (n : ℕ) → in_range (skip r flash n).reader ≡ true
  unfolding skip
  skip-in-range n =
      let page = page_of r.page.0 flash in
      range-after (reader_check (length flash) r) (passage_of r n (skipped page n r)) (by page (skipped page n r) refl)
    where
      by : (page : List ℕ) (p : Result Passed Corrupted) → skipped page n r ≡ p → InRange (passage_of r n p).reader
      by page (Ok passed') e = skip_range page n r passed'.reader passed'.left (range-known r k) e
      by page (Err w) e = range-known r k

  pub eof-in-range : in_range (is_at_eof r flash).reader ≡ true
  unfolding is_at_eof
  eof-in-range = by (reader_check (length flash) r) (page_of r.page.0 flash) (ready (page_of r.page.0 flash) r) refl
    where
      by : (v : Verdict) (page : List ℕ) (a : Result PageReader Corrupted) → ready page r ≡ a → in_range (refused_or v (refused_end_test r) (tested r a)).reader ≡ true
      by (Err w) page a e = k
      by (Ok tt) page (Ok s) e = range-in s (ready-range page r s (range-known r k) e)
      by (Ok tt) page (Err w) e = k

-- opened, or brought back: whatever the reader was
pub open-in-range : (r : PageReader) (flash : List ℕ) (magic : ℕ) (page : PageID) (h : ℕ) → (open_page r flash magic page h).answer ≡ Ok tt
    → in_range (open_page r flash magic page h).reader ≡ true
unfolding open_page
open-in-range r flash magic page h e =
    by (open_check (length flash) h page) refl (page_header_fine bytes magic page.0 h) (arriving (unread page) (12 + h) (checked_at bytes (12 + h))) refl e
  where
    bytes : List ℕ
    bytes = page_of page.0 flash

    by : (v : Verdict) → open_check (length flash) h page ≡ v → (t : Bool) (a : Result PageReader Corrupted) → arriving (unread page) (12 + h) (checked_at bytes (12 + h)) ≡ a
        → (refused_or v (refused_opening r) (opening_of r (cond t a (Err corruption)))).answer ≡ Ok tt
        → in_range (refused_or v (refused_opening r) (opening_of r (cond t a (Err corruption)))).reader ≡ true
    by (Err w) f t a g e = let z : ◌≡◌ {A = ℕ} 0 1 = cc in absurd (omega arith)
    by (Ok tt) f false a g e = let z : ◌≡◌ {A = ℕ} 0 1 = cc in absurd (omega arith)
    by (Ok tt) f true (Err w) g e = let z : ◌≡◌ {A = ℕ} 0 1 = cc in absurd (omega arith)
    by (Ok tt) f true (Ok s) g e =
        let o = open-checked (length flash) h page f in
        let group : h % 4 ≡ 0 = o.group in
        range-in s (arriving-range bytes (unread page) (12 + h) s (arriving-known bytes (unread page) (12 + h) s g) o.flash.low (omega arith) (omega arith))

pub rehydrate-in-range : (r : PageReader) (flash : List ℕ) (d : DehydratedPageReader) → (rehydrate_from r flash d).answer ≡ Ok tt
    → in_range (rehydrate_from r flash d).reader ≡ true
unfolding rehydrate_from
rehydrate-in-range r flash d e =
    by (reader_check (length flash) (restored d)) refl ((restored d).ended || payload_fine (page_of d.page.0 flash) d.offset d.len d.crc) e
  where
    by : (v : Verdict) → reader_check (length flash) (restored d) ≡ v → (t : Bool)
        → (refused_or v (refused_opening r) (opening_of r (cond t (Ok (restored d)) (Err corruption)))).answer ≡ Ok tt
        → in_range (refused_or v (refused_opening r) (opening_of r (cond t (Ok (restored d)) (Err corruption)))).reader ≡ true
    by (Err w) f t e = let z : ◌≡◌ {A = ℕ} 0 1 = cc in absurd (omega arith)
    by (Ok tt) f false e = let z : ◌≡◌ {A = ℕ} 0 1 = cc in absurd (omega arith)
    by (Ok tt) f true e = range-in (restored d) (reader-checked (length flash) (restored d) f).range

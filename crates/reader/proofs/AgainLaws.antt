-- After a refusal the reader is as it was and every lent byte too, so the same call gives the same refusal: no damaged byte is
-- handed out on asking again, whatever the size of the next buffer. Assumes nothing.
use Rattle.std.specs.Prelude.{Ok, Err}
use Rattle.std.specs.declared.result.Result.{Result}
use Rattle.types.specs.declared.refusal.Corrupted.{Corrupted}
use mathlib.Core.Path.{◌≡◌, refl, ap}
use mathlib.Core.Bool.{Bool, true, false, cond}
use mathlib.Core.List.{List}
use Prim.Native.Nat.{ℕ}
use native.Mathlib.Omega.{arith}
use lib.ListN.{length}
use Rattle.types.specs.Checks.{refused_or, Verdict}
use Rattle.types.specs.declared.page_id.PageID.{PageID}
use Rattle.types.specs.declared.refusal.Refusal.{Refusal}
use Rattle.types.specs.declared.refusal.Refusal.TheVariants as row
use Rattle.flash.specs.Geometry.{page_of}
use Rattle.page.specs.Checks.{open_check}
use Rattle.reader.specs.Calls.{refused_passage, read_of, read, laid_over, read_bytes, passage_of, skip}
use Rattle.reader.specs.Calls.{refused_end_test, tested, is_at_eof, refused_opening, opening_of, opening, open_page, rehydrating, rehydrate_from}
use Rattle.reader.specs.Checks.{reader_check}
use Rattle.reader.specs.Moves.{ready, skipped}
use Rattle.reader.specs.States.{restored}
use Rattle.reader.specs.declared.answers.EndTest.TheVariants as end_test
use Rattle.reader.specs.declared.answers.Passage.{Passage}
use Rattle.reader.specs.declared.dehydrated.DehydratedPageReader.{DehydratedPageReader}
use Rattle.reader.specs.declared.moves.Passed.{Passed}
use Rattle.reader.specs.declared.page_reader.PageReader.{PageReader}

module _ (r : PageReader) (flash : List ℕ) (w : Refusal) where
  -- ---- read

  -- a read is refused whatever its room, by the checks or on moving; and then is_at_eof is too
  pub read-refused-so : (room : ℕ) → (read r flash room).answer ≡ Err w → (room' : ℕ) (buffer : List ℕ)
      → (read r flash room' ≡ refused_passage r w)
      × ((read_bytes r flash buffer ≡ buffer) × (is_at_eof r flash ≡ refused_end_test r w))
  unfolding read read_bytes is_at_eof
  read-refused-so room e room' buffer = by (reader_check (length flash) r) (ready (page_of r.page.0 flash) r) e
    where
      page : List ℕ
      page = page_of r.page.0 flash

      by : (v : Verdict) (a : Result PageReader Corrupted) → (refused_or v (refused_passage r) (read_of page r room a)).answer ≡ Err w
          → (refused_or v (refused_passage r) (read_of page r room' a) ≡ refused_passage r w)
          × ((refused_or v (λ _. buffer) (laid_over page buffer a) ≡ buffer) × (refused_or v (refused_end_test r) (tested r a) ≡ refused_end_test r w))
      by (Err x) a e = let f : x ≡ w = cc in (rw f, (refl, rw f))
      by (Ok tt) (Ok s) e = let z : ◌≡◌ {A = ℕ} 0 1 = cc in absurd (omega arith)
      by (Ok tt) (Err bad) e = let f : row.Corrupted ≡ w = cc in (rw f, (refl, rw f))

  -- so the read after it, into any buffer, answers the same and leaves it
  pub read_again : (room : ℕ) → (read r flash room).answer ≡ Err w → (buffer : List ℕ)
      → ((read (read r flash room).reader flash (length buffer)).answer ≡ Err w) × (read_bytes (read r flash room).reader flash buffer ≡ buffer)
  read_again room e buffer =
      let kept : (read r flash room).reader ≡ r = ap (λ (p : Passage ℕ). p.reader) (read-refused-so room e room buffer).0 in
      let k = read-refused-so room e (length buffer) buffer in
      (rw kept (ap (λ (p : Passage ℕ). p.answer) k.0), rw kept k.1.0)

  -- ---- skip, is_at_eof, open, rehydrate_from: the reader comes back as it was

  pub skip-kept : (n : ℕ) → (skip r flash n).answer ≡ Err w → (skip r flash n).reader ≡ r
  unfolding skip
  skip-kept n e = by (reader_check (length flash) r) (skipped (page_of r.page.0 flash) n r) e
    where
      by : (v : Verdict) (p : Result Passed Corrupted) → (refused_or v (refused_passage r) (passage_of r n p)).answer ≡ Err w → (refused_or v (refused_passage r) (passage_of r n p)).reader ≡ r
      by (Err x) p e = refl
      by (Ok tt) (Ok passed') e = let z : ◌≡◌ {A = ℕ} 0 1 = cc in absurd (omega arith)
      by (Ok tt) (Err w) e = refl

  pub eof-kept : (is_at_eof r flash).answer ≡ Err w → (is_at_eof r flash).reader ≡ r
  unfolding is_at_eof
  eof-kept e = by (reader_check (length flash) r) (ready (page_of r.page.0 flash) r) e
    where
      ended : (t : Bool) → cond t (Ok end_test.AtEnd) (Ok end_test.More) ≡ Err w → ⊥
      ended true e = let z : ◌≡◌ {A = ℕ} 0 1 = cc in omega arith
      ended false e = let z : ◌≡◌ {A = ℕ} 0 1 = cc in omega arith

      by : (v : Verdict) (a : Result PageReader Corrupted) → (refused_or v (refused_end_test r) (tested r a)).answer ≡ Err w → (refused_or v (refused_end_test r) (tested r a)).reader ≡ r
      by (Err x) a e = refl
      by (Ok tt) (Ok s) e = absurd (ended s.ended e)
      by (Ok tt) (Err w) e = refl

  opening-kept : (v : Verdict) (a : Result PageReader Corrupted) → (refused_or v (refused_opening r) (opening_of r a)).answer ≡ Err w → (refused_or v (refused_opening r) (opening_of r a)).reader ≡ r
  opening-kept (Err x) a e = refl
  opening-kept (Ok tt) (Ok s) e = let z : ◌≡◌ {A = ℕ} 0 1 = cc in absurd (omega arith)
  opening-kept (Ok tt) (Err w) e = refl

  pub open-reader-kept : (magic : ℕ) (page : PageID) (h : ℕ) → (open_page r flash magic page h).answer ≡ Err w
      → (open_page r flash magic page h).reader ≡ r
  unfolding open_page
  open-reader-kept magic page h e = opening-kept (open_check (length flash) h page) (opening (page_of page.0 flash) magic page h) e

  pub rehydrate-kept : (d : DehydratedPageReader) → (rehydrate_from r flash d).answer ≡ Err w → (rehydrate_from r flash d).reader ≡ r
  unfolding rehydrate_from
  rehydrate-kept d e = opening-kept (reader_check (length flash) (restored d)) (rehydrating (page_of d.page.0 flash) (restored d)) e

  -- ---- and the same call gives the same refusal

  pub skip-again : (n : ℕ) → (skip r flash n).answer ≡ Err w → (skip (skip r flash n).reader flash n).answer ≡ Err w
  skip-again n e = rw (skip-kept n e) e

  pub eof-again : (is_at_eof r flash).answer ≡ Err w → (is_at_eof (is_at_eof r flash).reader flash).answer ≡ Err w
  eof-again e = rw (eof-kept e) e

  pub open-again : (magic : ℕ) (page : PageID) (h : ℕ) → (open_page r flash magic page h).answer ≡ Err w
      → (open_page (open_page r flash magic page h).reader flash magic page h).answer ≡ Err w
  open-again magic page h e = rw (open-reader-kept magic page h e) e

  pub rehydrate-again : (d : DehydratedPageReader) → (rehydrate_from r flash d).answer ≡ Err w
      → (rehydrate_from (rehydrate_from r flash d).reader flash d).answer ≡ Err w
  rehydrate-again d e = rw (rehydrate-kept d e) e

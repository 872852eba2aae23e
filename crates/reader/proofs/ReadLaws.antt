-- Reading: each way through read, skip and is_at_eof, with the answer, the reader and the buffer. Assumes nothing.
use Rattle.reader.specs.declared.answers.EndTest.{EndTest}
use Rattle.std.specs.Prelude.{Ok, Err}
use Rattle.types.specs.Checks.{corruption}
use mathlib.Core.Path.{◌≡◌, sym, ap, ◌∙◌}
use mathlib.Core.Bool.{true, false}
use mathlib.Core.List.{List}
use mathlib.Core.Logic.{⊎_elim}
use Prim.Native.Nat.{ℕ, ◌+◌, ◌-◌, ◌^◌, ◌<◌, min}
use native.Mathlib.Nat.{add-zero}
use native.Mathlib.Omega.{arith}
use lib.ListN.{length}
use Rattle.types.specs.declared.refusal.Refusal.{Refusal}
use Rattle.types.specs.declared.refusal.Refusal.TheVariants as row
use Rattle.types.proofs.TestLaws.{decided}
use Rattle.flash.specs.Geometry.{page_of}
use Rattle.slices.specs.Patch.{over}
use Rattle.reader.specs.Calls.{refused_passage, read, read_bytes, skip, refused_end_test, is_at_eof}
use Rattle.reader.specs.Checks.{reader_check}
use Rattle.reader.specs.Moves.{Whole, ready, rest_of, past, skipped}
use Rattle.reader.specs.declared.answers.EndTest.TheVariants as end_test
use Rattle.reader.specs.declared.answers.Passage.{Passage}
use Rattle.reader.specs.declared.page_reader.PageReader.{PageReader}
use Rattle.reader.proofs.CheckLaws.{reader-checked}
use Rattle.reader.proofs.MoveLaws.{ready-whole, ready-end-kept, rest_ended, rest-within}
use Rattle.reader.proofs.SkipLaws.{skip-ended, skip-here}

module _ (r : PageReader) (flash : List ℕ) where
  -- a reader that passed its checks is whole
  pub known-whole : reader_check (length flash) r ≡ Ok tt → Whole r
  known-whole v e = let k = (reader-checked (length flash) r v).range.chunk e in (k.fits, k.within)

  -- ---- refused by a check

  module _ (w : Refusal) (v : reader_check (length flash) r ≡ Err w) where
    pub read-refused : (buffer : List ℕ)
        → (refused_passage r w ≡ read r flash (length buffer)) × (buffer ≡ read_bytes r flash buffer)
    unfolding read read_bytes
    read-refused buffer = (rw v, rw v)

    pub skip-refused : (n : ℕ) → refused_passage r w ≡ skip r flash n
    unfolding skip
    skip-refused n = rw v

    pub eof-refused : refused_end_test r w ≡ is_at_eof r flash
    unfolding is_at_eof
    eof-refused = rw v

  -- ---- after its checks

  module _ (v : reader_check (length flash) r ≡ Ok tt) where
    pub read-bad : (buffer : List ℕ) → ready (page_of r.page.0 flash) r ≡ Err corruption
        → (refused_passage r row.Corrupted ≡ read r flash (length buffer)) × (buffer ≡ read_bytes r flash buffer)
    unfolding read read_bytes
    read-bad buffer a = (rw (v, a), rw (v, a))

    pub read_at : (buffer : List ℕ) (s : PageReader) (n : ℕ) → ready (page_of r.page.0 flash) r ≡ Ok s
        → n ≡ min (length buffer) (length (rest_of (page_of r.page.0 flash) s))
        → (◌≡◌ {A = (Passage ℕ)} (record { answer = Ok n; reader = past s n }) (read r flash (length buffer)))
        × (over (rest_of (page_of r.page.0 flash) s) buffer ≡ read_bytes r flash buffer)
    unfolding read read_bytes
    read_at buffer s n a e = (rw e (rw (v, a)), rw (v, a))

    pub skip-spoilt : (n : ℕ) → skipped (page_of r.page.0 flash) n r ≡ Err corruption
        → refused_passage r row.Corrupted ≡ skip r flash n
    unfolding skip
    skip-spoilt n a = rw (v, a)

    pub skip-to : (n left : ℕ) (s : PageReader) → skipped (page_of r.page.0 flash) n r ≡ Ok (record { reader = s; left = left })
        → ◌≡◌ {A = (Passage ℕ)} (record { answer = Ok (n - left); reader = s }) (skip r flash n)
    unfolding skip
    skip-to n left s a = rw (v, a)

    pub eof-bad : ready (page_of r.page.0 flash) r ≡ Err corruption
        → refused_end_test r row.Corrupted ≡ is_at_eof r flash
    unfolding is_at_eof
    eof-bad a = rw (v, a)

    pub eof-end : (s : PageReader) → ready (page_of r.page.0 flash) r ≡ Ok s → s.ended ≡ true
        → ◌≡◌ {A = (Passage EndTest)} (record { answer = Ok end_test.AtEnd; reader = s }) (is_at_eof r flash)
    unfolding is_at_eof
    eof-end s a e = rw (v, a) (rw e)

    pub eof-more : (s : PageReader) → ready (page_of r.page.0 flash) r ≡ Ok s → s.ended ≡ false
        → ◌≡◌ {A = (Passage EndTest)} (record { answer = Ok end_test.More; reader = s }) (is_at_eof r flash)
    unfolding is_at_eof
    eof-more s a e = rw (v, a) (rw e)

    -- a position after a read does not wrap
    pub read_stays : (s : PageReader) (n room : ℕ) → ready (page_of r.page.0 flash) r ≡ Ok s
        → n ≡ min room (length (rest_of (page_of r.page.0 flash) s)) → r.position < 2 ^ 64 → s.position + n < 2 ^ 64
    read_stays s n room a e fits =
        let page = page_of r.page.0 flash in
        ⊎_elim
        (λ t.
        let none : length (rest_of page s) ≡ 0 = ap length (rest_ended page s t) in
        let at : s.position ≡ r.position = ready-end-kept page r s a t in
        omega arith)
        (λ t.
        let w = ready-whole page r s (known-whole v) a t in
        omega (arith, w, rest-within page s t w.1))
        (decided s.ended)

    -- a skip of 0 does nothing
    pub skip-zero : skip r flash 0 ≡ record { answer = Ok 0; reader = r }
    skip-zero =
        let page = page_of r.page.0 flash in
        let here : past r 0 ≡ r = ap (λ (n : ℕ). record { page = r.page; ended = r.ended; offset = r.offset; len = r.len; crc = r.crc; position = n }) (add-zero r.position) in
        ⊎_elim
        (λ e. sym (skip-to 0 0 r (skip-ended page 0 r e)))
        (λ e. sym (skip-to 0 0 (past r 0) (skip-here page 0 r e (omega arith))) ∙ ap (λ (s : PageReader). record { answer = Ok 0; reader = s }) here)
        (decided r.ended)

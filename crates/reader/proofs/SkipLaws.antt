-- Skipping needs no bound on its chunks, and goes step by step. Assumes nothing.
use Rattle.std.specs.Prelude.{Ok, Err}
use Rattle.types.specs.Checks.{corruption}
use Rattle.std.specs.declared.result.Result.{Result}
use Rattle.types.specs.declared.refusal.Corrupted.{Corrupted}
use mathlib.Core.Path.{◌≡◌, refl, sym, ap, ◌∙◌}
use mathlib.Core.Bool.{true, false}
use mathlib.Core.List.{List}
use mathlib.Core.Logic.{⊎_elim}
use Prim.Native.Nat.{ℕ, zero, suc, ◌+◌, ◌-◌, ◌*◌, ◌≤◌, ◌<◌}
use native.Mathlib.Omega.{arith}
use lib.ListN.{length}
use borrow.Author.Tests.{le-leb, lt-leb}
use Rattle.types.specs.Build.{page_size, chunk_header_size}
use Rattle.types.proofs.TestLaws.{decided, le-or-lt}
use Rattle.reader.specs.Moves.{Whole, moved, rest_of, past, onward, skip_by, skipped}
use Rattle.reader.specs.declared.moves.Passed.{Passed}
use Rattle.reader.specs.declared.page_reader.PageReader.{PageReader}
use Rattle.reader.proofs.MoveLaws.{moved_up, moved-whole}

module _ (page : List ℕ) where
  -- the chunks that a number of steps is enough for
  abbrev Enough : ℕ → PageReader → Type 0
  Enough n r = r.ended ≡ false → page_size < r.offset + chunk_header_size + chunk_header_size * n

  pub by-ended : (n count : ℕ) (r : PageReader) → r.ended ≡ true → skip_by n page count r ≡ Ok (record { reader = r; left = count })
  unfolding skip_by
  by-ended zero count r e = refl
  by-ended (suc n) count r e = rw e

  pub by-here : (n count : ℕ) (r : PageReader) → r.ended ≡ false → count ≤ length (rest_of page r) → skip_by (suc n) page count r ≡ Ok (record { reader = past r count; left = 0 })
  unfolding skip_by
  by-here n count r e h = rw (le-leb count (length (rest_of page r)) h, e)

  pub by-on : (n count : ℕ) (r : PageReader) → r.ended ≡ false → length (rest_of page r) < count
      → skip_by (suc n) page count r ≡ onward (skip_by n page (count - length (rest_of page r))) (moved page (past r (length (rest_of page r))))
  unfolding skip_by
  by-on n count r e h = rw (lt-leb count (length (rest_of page r)) h, e)

  onward-same : (a : Result PageReader Corrupted) (f g : PageReader → (Result Passed Corrupted)) → ((s : PageReader) → a ≡ Ok s → f s ≡ g s) → onward f a ≡ onward g a
  onward-same (Ok s) f g h = h s refl
  onward-same (Err w) f g h = refl

  step_same : (m n count : ℕ) (r : PageReader) → r.ended ≡ false
      → ((s : PageReader) → r.offset + chunk_header_size ≤ s.offset → Whole s → skip_by m page (count - length (rest_of page r)) s ≡ skip_by n page (count - length (rest_of page r)) s)
      → skip_by (suc m) page count r ≡ skip_by (suc n) page count r
  step_same m n count r e rest =
      let left = length (rest_of page r) in
      ⊎_elim
      (λ l. by-here m count r e l ∙ sym (by-here n count r e l))
      (λ l.
      by-on m count r e l
      ∙ onward-same (moved page (past r left)) (skip_by m page (count - left)) (skip_by n page (count - left))
      (λ s a. rest s (omega (arith, moved_up page (past r left) s a)) (moved-whole page (past r left) s a))
      ∙ sym (by-on n count r e l))
      (le-or-lt count left)

  -- two numbers of chunks that are both enough
  skip-same : (m n count : ℕ) (r : PageReader) → Whole r → Enough m r → Enough n r → skip_by m page count r ≡ skip_by n page count r
  skip-same zero n count r w h k =
      ⊎_elim (λ e. by-ended zero count r e ∙ sym (by-ended n count r e)) (λ e. absurd (omega (arith, (w e).0, h e))) (decided r.ended)
  skip-same (suc m) zero count r w h k =
      ⊎_elim (λ e. by-ended (suc m) count r e ∙ sym (by-ended zero count r e)) (λ e. absurd (omega (arith, (w e).0, k e))) (decided r.ended)
  skip-same (suc m) (suc n) count r w h k =
      ⊎_elim
      (λ e. by-ended (suc m) count r e ∙ sym (by-ended (suc n) count r e))
      (λ e. step_same m n count r e (λ s up v. skip-same m n (count - length (rest_of page r)) s v (λ f. omega (arith, h e)) (λ f. omega (arith, k e))))
      (decided r.ended)

  -- ---- what is not passed was asked for

  abbrev LeftOf : ℕ → Result Passed Corrupted → Type 0
  LeftOf count (Ok passed') = passed'.left ≤ count
  LeftOf count (Err w) = Unit

  onward-left : (n count left : ℕ) (a : Result PageReader Corrupted) → left ≤ count → ((s : PageReader) → LeftOf left (skip_by n page left s)) → LeftOf count (onward (skip_by n page left) a)
  onward-left n count left (Err w) h rest = tt
  onward-left n count left (Ok s) h rest = weaker (skip_by n page left s) (rest s)
    where
      weaker : (p : Result Passed Corrupted) → LeftOf left p → LeftOf count p
      weaker (Ok passed') l = omega arith
      weaker (Err w) l = tt

  by_left : (n count : ℕ) (r : PageReader) → LeftOf count (skip_by n page count r)
  unfolding skip_by
  by_left zero count r = omega arith
  by_left (suc n) count r =
      let left = length (rest_of page r) in
      ⊎_elim
      (λ e. rw (by-ended (suc n) count r e) (omega arith))
      (λ e.
      ⊎_elim
      (λ h. rw (by-here n count r e h) (omega arith))
      (λ h. rw (by-on n count r e h) (onward-left n count (count - left) (moved page (past r left)) (omega arith) (λ s. by_left n (count - left) s)))
      (le-or-lt count left))
      (decided r.ended)

  pub skip-left : (count : ℕ) (r s : PageReader) (left : ℕ) → skipped page count r ≡ Ok (record { reader = s; left = left }) → left ≤ count
  unfolding skipped
  skip-left count r s left e = rw e at (by_left 513 count r)

  -- ---- one step

  module _ (count : ℕ) (r : PageReader) where
    pub skip-ended : r.ended ≡ true → skipped page count r ≡ Ok (record { reader = r; left = count })
    unfolding skipped
    skip-ended e = by-ended 513 count r e

    pub skip-here : r.ended ≡ false → count ≤ length (rest_of page r) → skipped page count r ≡ Ok (record { reader = past r count; left = 0 })
    unfolding skipped
    skip-here e h = by-here 512 count r e h

    pub skip-bad : r.ended ≡ false → length (rest_of page r) < count → moved page (past r (length (rest_of page r))) ≡ Err corruption
        → skipped page count r ≡ Err corruption
    unfolding skipped
    skip-bad e h a = by-on 512 count r e h ∙ rw a

    pub skip-on : (s : PageReader) → r.ended ≡ false → length (rest_of page r) < count → moved page (past r (length (rest_of page r))) ≡ Ok s
        → skipped page count r ≡ skipped page (count - length (rest_of page r)) s
    unfolding skipped
    skip-on s e h a =
        let left = length (rest_of page r) in
        let up : r.offset + 8 + r.len ≤ s.offset = moved_up page (past r left) s a in
        by-on 512 count r e h ∙ ap (onward (skip_by 512 page (count - left))) a
        ∙ skip-same 512 513 (count - left) s (moved-whole page (past r left) s a) (λ f. omega arith) (λ f. omega arith)

-- Marks counted byte by byte, and from a page on. Assumes nothing.
use Rattle.std.specs.List.{sum_by}
use Rattle.std.proofs.lemmas.List.Sums.{sum_by-cons}
use mathlib.Core.Path.{◌≡◌, refl, sym, ap, ◌∙◌}
use mathlib.Core.Bool.{◌&&◌}
use mathlib.Core.List.{List, [], ◌∷◌, ◌++◌}
use mathlib.Core.Logic.{⊎_elim}
use Prim.Native.Nat.{ℕ, zero, suc, ◌+◌, ◌-◌, ◌*◌, ◌/◌, ◌%◌, ◌^◌, ◌≤◌, ◌<◌}
use native.Mathlib.Numerals.{add-one, one-add}
use native.Mathlib.Omega.{arith}
use lib.Count.{ones}
use lib.Dec.{eqb}
use lib.ListN.{length, get_or, drop, drop_of_length-le}
use lib.Pow.{shr-shr, shr_lt}
use lib.Seq.{drop-append-le, drop-append-add}
use borrow.Author.Tests.{eqb-true, eqb-false, eq-eqb, ne_eqb}
use Rattle.types.proofs.TestLaws.{decided, eq-or-ne}
use Rattle.alloc.specs.Marks.{bits_of, marks_of, count_of}
use Rattle.alloc.proofs.MarksLaws.{length-bits_of, count_of-append, count_of-bits_of, no_bits, no-bits-of-zero, first_byte, past-byte, past-bit, length-marks_of}

-- ---- byte by byte

pub count-all : (bs : List ℕ) → ((i : ℕ) → get_or bs i 0 < 256) → count_of (marks_of bs) ≡ sum_by ones bs
unfolding marks_of count_of
count-all [] h = refl
count-all (b ∷ bs) h =
    count_of-append (bits_of 8 b) (marks_of bs) ∙ rw (count_of-bits_of 8 b (h 0), count-all bs (λ i. h (suc i)), sum_by-cons ones b bs)

-- ---- from a page on

drop-bits_of : (k n r : ℕ) → r ≤ k → drop r (bits_of k n) ≡ bits_of (k - r) (n / 2 ^ r)
unfolding bits_of
drop-bits_of k n zero h = let e : n / 1 ≡ n = omega arith in let f : k - 0 ≡ k = omega arith in rw (e, f)
drop-bits_of zero n (suc r) h = absurd (omega arith)
drop-bits_of (suc k) n (suc r) h =
    let e : n / 2 / 2 ^ r ≡ n / 2 ^ suc r = shr-shr n 1 r ∙ ap (λ (j : ℕ). n / 2 ^ j) (one-add r) in
    let f : suc k - suc r ≡ k - r = omega arith in
    rw (f, ← e) (drop-bits_of k (n / 2) r (omega arith))

-- past every byte there is no mark
pub drop-marks_of-end : (bs : List ℕ) (p : ℕ) → length bs ≤ p / 8 → count_of (drop p (marks_of bs)) ≡ 0
unfolding count_of
drop-marks_of-end bs p h =
    let n : length (marks_of bs) ≡ length bs * 8 = length-marks_of bs in
    let l : length (marks_of bs) ≤ p = omega arith in
    rw (drop_of_length-le (marks_of bs) l)

past_first : (b : ℕ) (bs : List ℕ) (p : ℕ) → drop (8 + p) (marks_of (b ∷ bs)) ≡ drop p (marks_of bs)
unfolding marks_of bits_of
past_first b bs p = drop-append-add (bits_of 8 b) (marks_of bs) p

-- in the byte of a page: its bits from there on, then the later bytes
drop-marks_of : (bs : List ℕ) (p : ℕ) → p / 8 < length bs
    → drop p (marks_of bs) ≡ drop (p % 8) (bits_of 8 (get_or bs (p / 8) 0)) ++ marks_of (drop (suc (p / 8)) bs)
unfolding marks_of
drop-marks_of [] p h = absurd (omega arith)
drop-marks_of (b ∷ bs) p h = ⊎_elim here (λ e. rw e (past (p - 8) (drop-marks_of bs (p - 8) (omega arith)))) (first_byte p)
  where
    here : p < 8 → drop p (marks_of (b ∷ bs)) ≡ drop (p % 8) (bits_of 8 (get_or (b ∷ bs) (p / 8) 0)) ++ marks_of (drop (suc (p / 8)) (b ∷ bs))
    here l =
        let q : p / 8 ≡ 0 = omega arith in
        let r : p % 8 ≡ p = omega arith in
        let n : length (bits_of 8 b) ≡ 8 = length-bits_of 8 b in
        rw (q, r) (drop-append-le p (bits_of 8 b) (marks_of bs) (omega arith))

    past : (p : ℕ) → drop p (marks_of bs) ≡ drop (p % 8) (bits_of 8 (get_or bs (p / 8) 0)) ++ marks_of (drop (suc (p / 8)) bs)
        → drop (8 + p) (marks_of (b ∷ bs)) ≡ drop ((8 + p) % 8) (bits_of 8 (get_or (b ∷ bs) ((8 + p) / 8) 0)) ++ marks_of (drop (suc ((8 + p) / 8)) (b ∷ bs))
    past p e = past_first b bs p ∙ e ∙ rw (past-byte p, past-bit p)

-- two tests with one meaning
eqb-iff : (a b c d : ℕ) → (a ≡ b → c ≡ d) → (c ≡ d → a ≡ b) → eqb a b ≡ eqb c d
eqb-iff a b c d f g =
    ⊎_elim (λ e. eq-eqb a b e ∙ sym (eq-eqb c d (f e))) (λ n. ne_eqb a b n ∙ sym (ne_eqb c d (λ e. n (g e)))) (eq-or-ne a b)

-- a sum is 0 where both numbers are
both_zero : (x y : ℕ) → eqb (x + y) 0 ≡ eqb x 0 && eqb y 0
both_zero x y =
    ⊎_elim
    (λ e. let z : x ≡ 0 = eqb-true x 0 e in rw e (eqb-iff (x + y) 0 y 0 (λ s. omega arith) (λ s. omega arith)))
    (λ e. rw e (ne_eqb (x + y) 0 (λ z. eqb-false x 0 e (omega arith))))
    (decided (eqb x 0))

-- from bit r on a byte has no bit that is 1 where its r lower bits are all of it
bits_none : (b r : ℕ) → r < 8 → b < 256 → eqb (count_of (drop r (bits_of 8 b))) 0 ≡ eqb (b / 2 ^ r) 0
bits_none b r h l =
    let e : 2 ^ (8 - r + r) ≡ 256 = ap (λ (k : ℕ). 2 ^ k) (let f : 8 - r + r ≡ 8 = omega arith in f) in
    let k : b / 2 ^ r < 2 ^ (8 - r) = shr_lt (8 - r) r (rw e l) in
    rw (drop-bits_of 8 b r (omega arith))
    (eqb-iff (count_of (bits_of (8 - r) (b / 2 ^ r))) 0 (b / 2 ^ r) 0
    (no_bits (8 - r) (b / 2 ^ r) k)
    (λ z. rw z (no-bits-of-zero (8 - r))))

pub none_from : (bs : List ℕ) (p : ℕ) → p / 8 < length bs → get_or bs (p / 8) 0 < 256
    → eqb (count_of (drop p (marks_of bs))) 0 ≡ eqb (get_or bs (p / 8) 0 / 2 ^ (p % 8)) 0 && eqb (count_of (marks_of (drop (p / 8 + 1) bs))) 0
none_from bs p h l =
    rw (drop-marks_of bs p h, count_of-append, both_zero, bits_none (get_or bs (p / 8) 0) (p % 8) (omega arith) l, add-one (p / 8))

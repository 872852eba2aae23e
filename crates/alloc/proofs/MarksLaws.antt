-- Bytes and the marks in them. Assumes nothing.
use Rattle.std.proofs.Common.{bit_and, bit_or}
use Rattle.std.proofs.lemmas.Nat.Bits.{and_pow}
use Rattle.std.specs.Int.Bits.{or_add_and}
use mathlib.Core.Path.{◌≡◌, refl, sym, ap, ap₂, ◌∙◌}
use mathlib.Core.Bool.{Bool, true, false, cond, not, false≢true}
use mathlib.Core.List.{List, [], ◌∷◌, ◌++◌}
use mathlib.Core.Logic.{◌⊎◌, inl, inr, ⊎_elim}
use Prim.Native.Nat.{ℕ, zero, suc, ◌+◌, ◌-◌, ◌*◌, ◌/◌, ◌%◌, ◌^◌, ◌≤◌, ◌<◌}
use native.Mathlib.Nat.{pow-suc, zero-div}
use native.Mathlib.Numerals.{one-add}
use native.Mathlib.Omega.{arith}
use lib.Arith.{lt-one}
use lib.Count.{ones, ones_step}
use lib.Dec.{eqb, lit<}
use lib.ListN.{length, get_or, set, take, drop, take-append-drop, length-append, get_or-append}
use lib.Pow.{shr-shr, shl_exact}
use lib.Seq.{get_or-append-add, set-append_left}
use borrow.Author.Tests.{eqb-true, eqb-false, eq-eqb, ne_eqb}
use Rattle.types.proofs.TestLaws.{decided, le-or-lt}
use Rattle.alloc.specs.Marks.{bits_of, marks_of, is_marked, count_of, marking, freeing}

-- ---- the bits of a number

pub length-bits_of : (k n : ℕ) → length (bits_of k n) ≡ k
unfolding bits_of
length-bits_of zero n = refl
length-bits_of (suc k) n = ap suc (length-bits_of k (n / 2))

-- bit i is n / 2 ^ i % 2
pub get_or-bits_of : (k n i : ℕ) → i < k → get_or (bits_of k n) i false ≡ eqb (n / 2 ^ i % 2) 1
unfolding bits_of
get_or-bits_of zero n i h = absurd (omega arith)
get_or-bits_of (suc k) n zero h = let e : n / 1 ≡ n = omega arith in rw e
get_or-bits_of (suc k) n (suc i) h =
    let e : n / 2 / 2 ^ i ≡ n / 2 ^ suc i = shr-shr n 1 i ∙ ap (λ (j : ℕ). n / 2 ^ j) (one-add i) in
    rw (← e) (get_or-bits_of k (n / 2) i (omega arith))

-- a bit that is 0 is set by adding its power, and no other moves
pub bits_of-add : (k n i : ℕ) → i < k → get_or (bits_of k n) i false ≡ false → bits_of k (n + 2 ^ i) ≡ set (bits_of k n) i true
unfolding bits_of
bits_of-add zero n i h e = absurd (omega arith)
bits_of-add (suc k) n zero h e =
    let f : n % 2 ≡ 1 → ⊥ = eqb-false (n % 2) 1 e in
    let q : (n + 1) / 2 ≡ n / 2 = omega arith in
    ap₂ (λ (m : Bool) (l : List Bool). m ∷ l) (eq-eqb ((n + 1) % 2) 1 (omega arith)) (ap (bits_of k) q)
bits_of-add (suc k) n (suc i) h e =
    let p : 2 ^ suc i ≡ 2 ^ i * 2 = pow-suc 2 i in
    let r : (n + 2 ^ suc i) % 2 ≡ n % 2 = omega arith in
    let q : (n + 2 ^ suc i) / 2 ≡ n / 2 + 2 ^ i = omega arith in
    ap₂ (λ (x : ℕ) (l : List Bool). eqb x 1 ∷ l) r (ap (bits_of k) q ∙ bits_of-add k (n / 2) i (omega arith) e)

-- a number is at least the power of a bit that is 1
pub bit_le : (k n i : ℕ) → get_or (bits_of k n) i false ≡ true → 2 ^ i ≤ n
unfolding bits_of
bit_le zero n i e = absurd (false≢true e)
bit_le (suc k) n zero e = let f : n % 2 ≡ 1 = eqb-true (n % 2) 1 e in omega arith
bit_le (suc k) n (suc i) e =
    let p : 2 ^ suc i ≡ 2 ^ i * 2 = pow-suc 2 i in
    let l : 2 ^ i ≤ n / 2 = bit_le k (n / 2) i e in
    omega arith

-- one that is 1 is cleared by taking its power away
pub bits_of-sub : (k n i : ℕ) → i < k → get_or (bits_of k n) i false ≡ true → bits_of k (n - 2 ^ i) ≡ set (bits_of k n) i false
unfolding bits_of
bits_of-sub zero n i h e = absurd (omega arith)
bits_of-sub (suc k) n zero h e =
    let f : n % 2 ≡ 1 = eqb-true (n % 2) 1 e in
    let q : (n - 1) / 2 ≡ n / 2 = omega arith in
    ap₂ (λ (m : Bool) (l : List Bool). m ∷ l) (ne_eqb ((n - 1) % 2) 1 (λ g. omega arith)) (ap (bits_of k) q)
bits_of-sub (suc k) n (suc i) h e =
    let p : 2 ^ suc i ≡ 2 ^ i * 2 = pow-suc 2 i in
    let l : 2 ^ i ≤ n / 2 = bit_le k (n / 2) i e in
    let r : (n - 2 ^ suc i) % 2 ≡ n % 2 = omega arith in
    let q : (n - 2 ^ suc i) / 2 ≡ n / 2 - 2 ^ i = omega arith in
    ap₂ (λ (x : ℕ) (l : List Bool). eqb x 1 ∷ l) r (ap (bits_of k) q ∙ bits_of-sub k (n / 2) i (omega arith) e)

-- ---- counts

pub count_of-append : (xs ys : List Bool) → count_of (xs ++ ys) ≡ count_of xs + count_of ys
unfolding count_of
count_of-append [] ys = omega arith
count_of-append (x ∷ xs) ys = rw (count_of-append xs ys) (omega arith)

pub count_of-split : (n : ℕ) (xs : List Bool) → count_of (take n xs) + count_of (drop n xs) ≡ count_of xs
count_of-split n xs = sym (count_of-append (take n xs) (drop n xs)) ∙ ap count_of (take-append-drop n xs)

pub count_of-le : (xs : List Bool) → count_of xs ≤ length xs
unfolding count_of
count_of-le [] = omega arith
count_of-le (true ∷ xs) = let h : count_of xs ≤ length xs = count_of-le xs in omega arith
count_of-le (false ∷ xs) = let h : count_of xs ≤ length xs = count_of-le xs in omega arith

-- a mark more, and a mark less
pub count_of-mark : (xs : List Bool) (i : ℕ) → i < length xs → get_or xs i false ≡ false → count_of (set xs i true) ≡ count_of xs + 1
unfolding count_of
count_of-mark [] i h e = absurd (omega arith)
count_of-mark (true ∷ xs) zero h e = absurd (false≢true (sym e))
count_of-mark (false ∷ xs) zero h e = omega arith
count_of-mark (x ∷ xs) (suc i) h e = rw (count_of-mark xs i (omega arith) e) (omega arith)

pub count_of-free : (xs : List Bool) (i : ℕ) → get_or xs i false ≡ true → count_of xs ≡ count_of (set xs i false) + 1
unfolding count_of
count_of-free [] i e = absurd (false≢true e)
count_of-free (true ∷ xs) zero e = omega arith
count_of-free (false ∷ xs) zero e = absurd (false≢true e)
count_of-free (x ∷ xs) (suc i) e = rw (count_of-free xs i e) (omega arith)

bit-number : (n : ℕ) → cond (eqb (n % 2) 1) 1 0 ≡ n % 2
bit-number n =
    ⊎_elim
    (λ e. rw e (sym (eqb-true (n % 2) 1 e)))
    (λ e. rw e (let f : n % 2 ≡ 1 → ⊥ = eqb-false (n % 2) 1 e in omega arith))
    (decided (eqb (n % 2) 1))

pub count_of-bits_of : (k n : ℕ) → n < 2 ^ k → count_of (bits_of k n) ≡ ones n
unfolding bits_of count_of ones
count_of-bits_of zero n h = rw (lt-one h)
count_of-bits_of (suc k) n h =
    let p : 2 ^ suc k ≡ 2 ^ k * 2 = pow-suc 2 k in
    ap₂ (λ (x y : ℕ). x + y) (bit-number n) (count_of-bits_of k (n / 2) (omega arith)) ∙ sym (ones_step n)

-- no bit is 1 in 0 alone
pub no_bits : (k n : ℕ) → n < 2 ^ k → count_of (bits_of k n) ≡ 0 → n ≡ 0
unfolding bits_of count_of
no_bits zero n h e = lt-one h
no_bits (suc k) n h e =
    let p : 2 ^ suc k ≡ 2 ^ k * 2 = pow-suc 2 k in
    let b : cond (eqb (n % 2) 1) 1 0 ≡ n % 2 = bit-number n in
    let q : n / 2 ≡ 0 = no_bits k (n / 2) (omega arith) (omega arith) in
    omega arith

pub no-bits-of-zero : (k : ℕ) → count_of (bits_of k 0) ≡ 0
unfolding bits_of count_of
no-bits-of-zero zero = refl
no-bits-of-zero (suc k) = rw (no-bits-of-zero k)

-- ---- marks

pub length-marks_of : (bs : List ℕ) → length (marks_of bs) ≡ length bs * 8
unfolding marks_of
length-marks_of [] = refl
length-marks_of (b ∷ bs) = length-append (bits_of 8 b) (marks_of bs) ∙ rw (length-bits_of 8 b, length-marks_of bs) (omega arith)

-- the marks of the first byte, and those of the others
pub mark-here : (b : ℕ) (bs : List ℕ) (p : ℕ) → p < 8 → is_marked (b ∷ bs) p ≡ get_or (bits_of 8 b) p false
unfolding marks_of
mark-here b bs p h = get_or-append (bits_of 8 b) (marks_of bs) false p (rw (length-bits_of 8 b) h)

pub mark-past : (b : ℕ) (bs : List ℕ) (p : ℕ) → is_marked (b ∷ bs) (8 + p) ≡ is_marked bs p
unfolding marks_of bits_of
mark-past b bs p = get_or-append-add (bits_of 8 b) (marks_of bs) p false

-- a page is in the first byte, or so far past it
pub first_byte : (p : ℕ) → (p < 8) ⊎ (p ≡ 8 + (p - 8))
first_byte p = ⊎_elim (λ h. inr (omega arith)) (λ h. inl h) (le-or-lt 8 p)

pub past-byte : (p : ℕ) → (8 + p) / 8 ≡ suc (p / 8)
past-byte p = omega arith

pub past-bit : (p : ℕ) → (8 + p) % 8 ≡ p % 8
past-bit p = omega arith

-- mark p is bit p % 8 of byte p / 8 (alloc.rs, get_bit)
pub mark-is : (bs : List ℕ) (p : ℕ) → is_marked bs p ≡ eqb (get_or bs (p / 8) 0 / 2 ^ (p % 8) % 2) 1
unfolding marks_of
mark-is [] p = rw (zero-div (2 ^ (p % 8)))
mark-is (b ∷ bs) p = ⊎_elim here (λ e. rw e (past (p - 8) (mark-is bs (p - 8)))) (first_byte p)
  where
    here : p < 8 → is_marked (b ∷ bs) p ≡ eqb (get_or (b ∷ bs) (p / 8) 0 / 2 ^ (p % 8) % 2) 1
    here h =
        let q : p / 8 ≡ 0 = omega arith in
        let r : p % 8 ≡ p = omega arith in
        mark-here b bs p h ∙ get_or-bits_of 8 b p h ∙ rw (q, r)

    past : (p : ℕ) → is_marked bs p ≡ eqb (get_or bs (p / 8) 0 / 2 ^ (p % 8) % 2) 1 → is_marked (b ∷ bs) (8 + p) ≡ eqb (get_or (b ∷ bs) ((8 + p) / 8) 0 / 2 ^ ((8 + p) % 8) % 2) 1
    past p e = mark-past b bs p ∙ e ∙ rw (past-byte p, past-bit p)

-- ---- a mark set, and a mark cleared

set-append-add : (xs ys : List Bool) (i : ℕ) (m : Bool) → set (xs ++ ys) (length xs + i) m ≡ xs ++ set ys i m
set-append-add [] ys i m = let e : 0 + i ≡ i = omega arith in rw e
set-append-add (x ∷ xs) ys i m =
    let e : suc (length xs) + i ≡ suc (length xs + i) = omega arith in
    rw e (ap (λ (l : List Bool). x ∷ l) (set-append-add xs ys i m))

-- One bit becomes m by a change of its byte, so one mark does. The change is given by what it makes of a byte and of the bit's power.
module _ (m : Bool) (change : ℕ → ℕ → ℕ) (right : (b i : ℕ) → i < 8 → get_or (bits_of 8 b) i false ≡ not m → bits_of 8 (change b (2 ^ i)) ≡ set (bits_of 8 b) i m) where
  abbrev changed : List ℕ → ℕ → List ℕ
  changed bs p = set bs (p / 8) (change (get_or bs (p / 8) 0) (2 ^ (p % 8)))

  changed-here : (b : ℕ) (bs : List ℕ) (p : ℕ) → p < 8 → is_marked (b ∷ bs) p ≡ not m → marks_of (changed (b ∷ bs) p) ≡ set (marks_of (b ∷ bs)) p m
  unfolding marks_of
  changed-here b bs p h f =
      let q : p / 8 ≡ 0 = omega arith in
      let r : p % 8 ≡ p = omega arith in
      let l : p < length (bits_of 8 b) = rw (length-bits_of 8 b) h in
      rw (q, r, right b p h (sym (mark-here b bs p h) ∙ f)) (sym (set-append_left (bits_of 8 b) (marks_of bs) p m l))

  changed-past : (b : ℕ) (bs : List ℕ) (p : ℕ) → marks_of (changed bs p) ≡ set (marks_of bs) p m → marks_of (changed (b ∷ bs) (8 + p)) ≡ set (marks_of (b ∷ bs)) (8 + p) m
  unfolding marks_of bits_of
  changed-past b bs p e = rw (past-byte p, past-bit p, e) (sym (set-append-add (bits_of 8 b) (marks_of bs) p m))

  marks_of-changed : (bs : List ℕ) (p : ℕ) → p < length bs * 8 → is_marked bs p ≡ not m → marks_of (changed bs p) ≡ set (marks_of bs) p m
  marks_of-changed [] p h f = absurd (omega arith)
  marks_of-changed (b ∷ bs) p h f =
      ⊎_elim
      (λ l. changed-here b bs p l f)
      (λ e. rw e (changed-past b bs (p - 8) (marks_of-changed bs (p - 8) (omega arith) (sym (mark-past b bs (p - 8)) ∙ (rw e at f)))))
      (first_byte p)

-- marking a page that is free sets its mark, and no other moves
pub marks_of-marking : (bs : List ℕ) (p : ℕ) → p < length bs * 8 → is_marked bs p ≡ false → marks_of (marking bs p) ≡ set (marks_of bs) p true
unfolding marking
marks_of-marking = marks_of-changed true (λ (b w : ℕ). b + w) (bits_of-add 8)

-- freeing a page that is marked clears its mark, and no other moves
pub marks_of-freeing : (bs : List ℕ) (p : ℕ) → p < length bs * 8 → is_marked bs p ≡ true → marks_of (freeing bs p) ≡ set (marks_of bs) p false
unfolding freeing
marks_of-freeing = marks_of-changed false (λ (b w : ℕ). b - w) (bits_of-sub 8)

-- ---- as code does it

-- 1 shifted to a bit of a byte
pub shifted : (p : ℕ) → (1 * 2 ^ (p % 8)) % 256 ≡ 2 ^ (p % 8)
shifted p = shl_exact 1 (p % 8) 8 (lit< tt) (omega arith) ∙ (let e : 1 * 2 ^ (p % 8) ≡ 2 ^ (p % 8) = omega arith in e)

mark-bit : (bs : List ℕ) (p : ℕ) → is_marked bs p ≡ get_or (bits_of 8 (get_or bs (p / 8) 0)) (p % 8) false
mark-bit bs p = mark-is bs p ∙ sym (get_or-bits_of 8 (get_or bs (p / 8) 0) (p % 8) (omega arith))

-- a free page's bit put into its byte is added to it
pub mark-added : (bs : List ℕ) (p : ℕ) → is_marked bs p ≡ false → bit_or (get_or bs (p / 8) 0) (2 ^ (p % 8)) ≡ get_or bs (p / 8) 0 + 2 ^ (p % 8)
mark-added bs p f =
    let b = get_or bs (p / 8) 0 in
    let n : b / 2 ^ (p % 8) % 2 ≡ 1 → ⊥ = eqb-false (b / 2 ^ (p % 8) % 2) 1 (sym (mark-is bs p) ∙ f) in
    let z : b / 2 ^ (p % 8) % 2 ≡ 0 = omega arith in
    let none : bit_and b (2 ^ (p % 8)) ≡ 0 = and_pow b (p % 8) ∙ rw z (omega arith) in
    omega (arith, or_add_and b (2 ^ (p % 8)), none)

-- a marked page's byte has the bit that is taken away
pub mark-there : (bs : List ℕ) (p : ℕ) → is_marked bs p ≡ true → 2 ^ (p % 8) ≤ get_or bs (p / 8) 0
mark-there bs p f = bit_le 8 (get_or bs (p / 8) 0) (p % 8) (sym (mark-bit bs p) ∙ f)

-- a mark, as code asks for it, sets it and clears it
pub ruleset mark_as_code = (mark-is, shifted, mark-added, mark-there)

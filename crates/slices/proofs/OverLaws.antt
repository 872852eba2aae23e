-- Bytes put over the start of others, as parts of both lists; and erased bytes, one by one. Assumes nothing.
use mathlib.Core.Path.{◌≡◌, refl, sym, ap, ◌∙◌}
use mathlib.Core.List.{List, [], ◌∷◌, ◌++◌, append-nil}
use mathlib.Core.Logic.{⊎_elim}
use Prim.Native.Nat.{ℕ, zero, suc, ◌+◌, ◌-◌, ◌≤◌, min}
use native.Mathlib.Nat.{le_refl, le_of_suc-le-suc, not-suc-le-zero}
use native.Mathlib.Omega.{arith}
use lib.ListN.{length, take, drop, length-drop, drop_of_length-le}
use lib.Seq.{take_all}
use Rattle.types.proofs.TestLaws.{le-or-lt}
use Rattle.slices.specs.Patch.{over, patch, blank}
use Rattle.slices.proofs.PatchLaws.{patch-past}

-- ---- over

pub over-all : (bytes xs : List ℕ) → length bytes ≡ length xs → over bytes xs ≡ bytes
unfolding over
over-all [] [] e = refl
over-all [] (x ∷ xs) e = absurd (omega arith)
over-all (b ∷ bytes) [] e = absurd (omega arith)
over-all (b ∷ bytes) (x ∷ xs) e = ap (λ (l : List ℕ). b ∷ l) (over-all bytes xs (omega arith))

-- as many bytes as both have room for, and then the old ones
pub over-parts : (bytes xs : List ℕ) (n : ℕ) → n ≡ min (length xs) (length bytes) → over bytes xs ≡ take n bytes ++ drop n xs
unfolding over
over-parts [] xs n e = let z : n ≡ 0 = omega arith in rw z
over-parts (b ∷ bytes) [] n e = let z : n ≡ 0 = omega arith in rw z
over-parts (b ∷ bytes) (x ∷ xs) n e =
    let m = min (length xs) (length bytes) in
    let z : n ≡ suc m = omega arith in
    rw z (ap (λ (l : List ℕ). b ∷ l) (over-parts bytes xs m refl))

pub take-over : (n : ℕ) (bytes xs : List ℕ) → n ≤ length bytes → n ≤ length xs → take n (over bytes xs) ≡ take n bytes
unfolding over
take-over zero bytes xs h k = refl
take-over (suc n) [] xs h k = absurd (not-suc-le-zero h)
take-over (suc n) (b ∷ bytes) [] h k = absurd (not-suc-le-zero k)
take-over (suc n) (b ∷ bytes) (x ∷ xs) h k = ap (λ (l : List ℕ). b ∷ l) (take-over n bytes xs (le_of_suc-le-suc h) (le_of_suc-le-suc k))

-- ---- a patch by bytes put over

-- a patch is what lies before it, and bytes put over the rest
pub patch-split : (at : ℕ) (bytes xs : List ℕ) → take at xs ++ over bytes (drop at xs) ≡ patch at bytes xs
unfolding patch
patch-split zero bytes xs = refl
patch-split (suc at) bytes [] = patch-past 0 bytes [] (le_refl 0)
patch-split (suc at) bytes (x ∷ xs) = ap (λ (l : List ℕ). x ∷ l) (patch-split at bytes xs)

-- one at the start is bytes put over it
pub patch-start : (bytes xs : List ℕ) → patch 0 bytes xs ≡ over bytes xs
patch-start bytes xs = sym (patch-split 0 bytes xs)

-- ---- bytes put into a buffer from an index on

-- all from an index on
pub take_rest : (from : ℕ) (xs : List ℕ) → take (length xs - from) (drop from xs) ≡ drop from xs
take_rest from xs = take_all (length xs - from) (drop from xs) (rw length-drop (omega arith))

-- bytes were put over the part from an index to the end
part-back : (at n : ℕ) (bytes xs ys : List ℕ) → length xs ≤ at + n → ys ≡ over bytes (take n (drop at xs))
    → take at xs ++ (ys ++ drop n (drop at xs)) ≡ patch at bytes xs
part-back at n bytes xs ys h y =
    let l : length (drop at xs) ≤ n = rw length-drop (omega arith) in
    rw (y, take_all n (drop at xs) l, drop_of_length-le (drop at xs) l, append-nil) (patch-split at bytes xs)

put-at-min : (at from : ℕ) (bytes xs : List ℕ) → from ≡ min at (length xs) → patch from bytes xs ≡ patch at bytes xs
put-at-min at from bytes xs e =
    ⊎_elim
    (λ h. let f : from ≡ at = omega arith in ap (λ (m : ℕ). patch m bytes xs) f)
    (λ h. patch-past from bytes xs (omega arith) ∙ sym (patch-past at bytes xs (omega arith)))
    (le-or-lt at (length xs))

pub put-at-back : (at from : ℕ) (bytes xs ys : List ℕ) → from ≡ min at (length xs) → ys ≡ over bytes (take (length xs - from) (drop from xs))
    → take from xs ++ (ys ++ drop (length xs - from) (drop from xs)) ≡ patch at bytes xs
put-at-back at from bytes xs ys e y = part-back from (length xs - from) bytes xs ys (omega arith) y ∙ put-at-min at from bytes xs e

-- ---- erased bytes

pub blank_none : (e : ℕ) → blank e 0 ≡ []
unfolding blank
blank_none e = refl

pub blank-more : (e n : ℕ) → blank e (suc n) ≡ e ∷ blank e n
unfolding blank
blank-more e n = refl

pub over-blank : (e n : ℕ) (xs : List ℕ) → over (blank e n) xs ≡ blank e (length (take n xs)) ++ drop n xs
unfolding over blank
over-blank e zero xs = refl
over-blank e (suc n) [] = refl
over-blank e (suc n) (x ∷ xs) = ap (λ (l : List ℕ). e ∷ l) (over-blank e n xs)

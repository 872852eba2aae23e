-- The laws of `patch`: the length stays, and each byte is the new one or the old one. Assumes nothing.
use mathlib.Core.Path.{◌≡◌, refl, sym, ap, ◌∙◌}
use mathlib.Core.List.{List, [], ◌∷◌, ◌++◌}
use mathlib.Core.Logic.{⊎_elim}
use Prim.Native.Nat.{ℕ, zero, suc, ◌+◌, ◌-◌, ◌≤◌, ◌<◌, min}
use native.Mathlib.Nat.{zero-add, suc-add, suc-sub-suc, sub-zero, le_of_suc-le-suc, not-suc-le-zero}
use native.Mathlib.Numerals.{add-one}
use native.Mathlib.Omega.{arith}
use lib.ListN.{length, take, drop, get_or, set, length-replicate, get_or-replicate}
use lib.Seq.{take-nil, take_all}
use Rattle.types.proofs.TestLaws.{le-or-lt}
use Rattle.slices.specs.Patch.{over, patch, blank}

-- ---- over

pub length_over : (bytes xs : List ℕ) → length (over bytes xs) ≡ length xs
unfolding over
length_over [] xs = refl
length_over (b ∷ bytes) [] = refl
length_over (b ∷ bytes) (x ∷ xs) = ap suc (length_over bytes xs)

pub over-in : (bytes xs : List ℕ) (i d : ℕ) → i < length bytes → i < length xs → get_or (over bytes xs) i d ≡ get_or bytes i d
unfolding over
over-in [] xs i d h k = absurd (not-suc-le-zero h)
over-in (b ∷ bytes) [] i d h k = absurd (not-suc-le-zero k)
over-in (b ∷ bytes) (x ∷ xs) zero d h k = refl
over-in (b ∷ bytes) (x ∷ xs) (suc i) d h k = over-in bytes xs i d (le_of_suc-le-suc h) (le_of_suc-le-suc k)

pub over-above : (bytes xs : List ℕ) (i d : ℕ) → length bytes ≤ i → get_or (over bytes xs) i d ≡ get_or xs i d
unfolding over
over-above [] xs i d h = refl
over-above (b ∷ bytes) [] i d h = refl
over-above (b ∷ bytes) (x ∷ xs) zero d h = absurd (not-suc-le-zero h)
over-above (b ∷ bytes) (x ∷ xs) (suc i) d h = over-above bytes xs i d (le_of_suc-le-suc h)

-- what passes the end does not count
over-fit : (n : ℕ) (bytes xs : List ℕ) → length xs ≤ n → over (take n bytes) xs ≡ over bytes xs
unfolding over
over-fit n [] xs h = ap (λ (l : List ℕ). over l xs) (take-nil n)
over-fit zero (b ∷ bytes) [] h = refl
over-fit (suc n) (b ∷ bytes) [] h = refl
over-fit zero (b ∷ bytes) (x ∷ xs) h = absurd (not-suc-le-zero h)
over-fit (suc n) (b ∷ bytes) (x ∷ xs) h = ap (λ (l : List ℕ). b ∷ l) (over-fit n bytes xs (le_of_suc-le-suc h))

take-over : (n : ℕ) (bytes xs : List ℕ) → take n (over bytes xs) ≡ over bytes (take n xs)
unfolding over
take-over n [] xs = refl
take-over n (b ∷ bytes) [] = take-nil n ∙ ap (over (b ∷ bytes)) (sym (take-nil n))
take-over zero (b ∷ bytes) (x ∷ xs) = refl
take-over (suc n) (b ∷ bytes) (x ∷ xs) = ap (λ (l : List ℕ). b ∷ l) (take-over n bytes xs)

drop-over : (n : ℕ) (bytes xs : List ℕ) → length bytes ≤ n → drop n (over bytes xs) ≡ drop n xs
unfolding over
drop-over n [] xs h = refl
drop-over n (b ∷ bytes) [] h = refl
drop-over zero (b ∷ bytes) (x ∷ xs) h = absurd (not-suc-le-zero h)
drop-over (suc n) (b ∷ bytes) (x ∷ xs) h = drop-over n bytes xs (le_of_suc-le-suc h)

-- what was put over the start can be read again
pub part-over : (bytes xs : List ℕ) → length bytes ≤ length xs → take (length bytes) (over bytes xs) ≡ bytes
unfolding over
part-over [] xs h = refl
part-over (b ∷ bytes) [] h = absurd (not-suc-le-zero h)
part-over (b ∷ bytes) (x ∷ xs) h = ap (λ (l : List ℕ). b ∷ l) (part-over bytes xs (le_of_suc-le-suc h))

over-cover : (a b xs : List ℕ) → length a ≤ length b → over b (over a xs) ≡ over b xs
unfolding over
over-cover [] b xs h = refl
over-cover (x ∷ a) [] xs h = absurd (not-suc-le-zero h)
over-cover (x ∷ a) (y ∷ b) [] h = refl
over-cover (x ∷ a) (y ∷ b) (z ∷ xs) h = ap (λ (l : List ℕ). y ∷ l) (over-cover a b xs (le_of_suc-le-suc h))

-- ---- patch

pub length-patch : (at : ℕ) (bytes xs : List ℕ) → length (patch at bytes xs) ≡ length xs
unfolding patch
length-patch zero bytes xs = length_over bytes xs
length-patch (suc at) bytes [] = refl
length-patch (suc at) bytes (x ∷ xs) = ap suc (length-patch at bytes xs)

pub patch-none : (at : ℕ) (xs : List ℕ) → patch at [] xs ≡ xs
unfolding patch over
patch-none zero xs = refl
patch-none (suc at) [] = refl
patch-none (suc at) (x ∷ xs) = ap (λ (l : List ℕ). x ∷ l) (patch-none at xs)

pub patch-below : (at : ℕ) (bytes xs : List ℕ) (i d : ℕ) → i < at → get_or (patch at bytes xs) i d ≡ get_or xs i d
unfolding patch
patch-below zero bytes xs i d h = absurd (not-suc-le-zero h)
patch-below (suc at) bytes [] i d h = refl
patch-below (suc at) bytes (x ∷ xs) zero d h = refl
patch-below (suc at) bytes (x ∷ xs) (suc i) d h = patch-below at bytes xs i d (le_of_suc-le-suc h)

pub patch-in : (at : ℕ) (bytes xs : List ℕ) (i d : ℕ) → i < length bytes → at + i < length xs → get_or (patch at bytes xs) (at + i) d ≡ get_or bytes i d
unfolding patch
patch-in zero bytes xs i d h k = rw zero-add (over-in bytes xs i d h (rw zero-add at k))
patch-in (suc at) bytes [] i d h k = absurd (not-suc-le-zero k)
patch-in (suc at) bytes (x ∷ xs) i d h k = rw suc-add (patch-in at bytes xs i d h (le_of_suc-le-suc (rw suc-add at k)))

pub patch-above : (at : ℕ) (bytes xs : List ℕ) (i d : ℕ) → at + length bytes ≤ i → get_or (patch at bytes xs) i d ≡ get_or xs i d
unfolding patch
patch-above zero bytes xs i d h = over-above bytes xs i d (omega arith)
patch-above (suc at) bytes [] i d h = refl
patch-above (suc at) bytes (x ∷ xs) zero d h = absurd (omega arith)
patch-above (suc at) bytes (x ∷ xs) (suc i) d h = patch-above at bytes xs i d (omega arith)

pub patch-fit : (n at : ℕ) (bytes xs : List ℕ) → length xs ≤ n → patch at (take (n - at) bytes) xs ≡ patch at bytes xs
unfolding patch
patch-fit n zero bytes xs h = rw sub-zero (over-fit n bytes xs h)
patch-fit n (suc at) bytes [] h = refl
patch-fit zero (suc at) bytes (x ∷ xs) h = absurd (not-suc-le-zero h)
patch-fit (suc n) (suc at) bytes (x ∷ xs) h = ap (λ (l : List ℕ). x ∷ l) (rw suc-sub-suc (patch-fit n at bytes xs (le_of_suc-le-suc h)))

-- past the end nothing is put
pub patch-past : (at : ℕ) (bytes xs : List ℕ) → length xs ≤ at → patch at bytes xs ≡ xs
unfolding patch over
patch-past zero [] [] h = refl
patch-past zero (b ∷ bytes) [] h = refl
patch-past zero bytes (x ∷ xs) h = absurd (not-suc-le-zero h)
patch-past (suc at) bytes [] h = refl
patch-past (suc at) bytes (x ∷ xs) h = ap (λ (l : List ℕ). x ∷ l) (patch-past at bytes xs (le_of_suc-le-suc h))

-- ---- a part of what was patched

pub take-patch : (n at : ℕ) (bytes xs : List ℕ) → take n (patch at bytes xs) ≡ patch at bytes (take n xs)
unfolding patch
take-patch n zero bytes xs = take-over n bytes xs
take-patch n (suc at) bytes [] = take-nil n ∙ ap (patch (suc at) bytes) (sym (take-nil n))
take-patch zero (suc at) bytes (x ∷ xs) = refl
take-patch (suc n) (suc at) bytes (x ∷ xs) = ap (λ (l : List ℕ). x ∷ l) (take-patch n at bytes xs)

pub drop-patch : (n at : ℕ) (bytes xs : List ℕ) → drop n (patch (n + at) bytes xs) ≡ patch at bytes (drop n xs)
unfolding patch
drop-patch zero at bytes xs = rw zero-add
drop-patch (suc n) at bytes [] = rw suc-add (sym (patch-past at bytes [] (omega arith)))
drop-patch (suc n) at bytes (x ∷ xs) = rw suc-add (drop-patch n at bytes xs)

pub take-patch-below : (n at : ℕ) (bytes xs : List ℕ) → n ≤ at → take n (patch at bytes xs) ≡ take n xs
unfolding patch
take-patch-below zero at bytes xs h = refl
take-patch-below (suc n) zero bytes xs h = absurd (not-suc-le-zero h)
take-patch-below (suc n) (suc at) bytes [] h = refl
take-patch-below (suc n) (suc at) bytes (x ∷ xs) h = ap (λ (l : List ℕ). x ∷ l) (take-patch-below n at bytes xs (le_of_suc-le-suc h))

pub drop-patch-above : (n at : ℕ) (bytes xs : List ℕ) → at + length bytes ≤ n → drop n (patch at bytes xs) ≡ drop n xs
unfolding patch
drop-patch-above n zero bytes xs h = drop-over n bytes xs (omega arith)
drop-patch-above n (suc at) bytes [] h = refl
drop-patch-above zero (suc at) bytes (x ∷ xs) h = absurd (omega arith)
drop-patch-above (suc n) (suc at) bytes (x ∷ xs) h = drop-patch-above n at bytes xs (omega arith)

-- what was put can be read again
pub part-patch : (at : ℕ) (bytes xs : List ℕ) → at + length bytes ≤ length xs → take (length bytes) (drop at (patch at bytes xs)) ≡ bytes
unfolding patch
part-patch zero bytes xs h = part-over bytes xs (omega arith)
part-patch (suc at) bytes [] h = absurd (omega arith)
part-patch (suc at) bytes (x ∷ xs) h = part-patch at bytes xs (omega arith)

-- ---- patch after patch

over-join : (a b xs : List ℕ) → patch (length a) b (over a xs) ≡ over (a ++ b) xs
unfolding over patch
over-join [] b xs = refl
over-join (x ∷ a) b [] = refl
over-join (x ∷ a) b (y ∷ xs) = ap (λ (l : List ℕ). x ∷ l) (over-join a b xs)

-- two that touch are one: a store may be taken apart into words
pub patch-join : (at : ℕ) (a b xs : List ℕ) → patch (at + length a) b (patch at a xs) ≡ patch at (a ++ b) xs
unfolding patch
patch-join zero a b xs = rw zero-add (over-join a b xs)
patch-join (suc at) a b [] = rw suc-add
patch-join (suc at) a b (x ∷ xs) = rw suc-add (ap (λ (l : List ℕ). x ∷ l) (patch-join at a b xs))

-- the later covers the earlier
pub patch-cover : (at : ℕ) (a b xs : List ℕ) → length a ≤ length b → patch at b (patch at a xs) ≡ patch at b xs
unfolding patch
patch-cover zero a b xs h = over-cover a b xs h
patch-cover (suc at) a b [] h = refl
patch-cover (suc at) a b (x ∷ xs) h = ap (λ (l : List ℕ). x ∷ l) (patch-cover at a b xs h)

over-swap : (at : ℕ) (a b xs : List ℕ) → length b ≤ at → patch at a (over b xs) ≡ over b (patch at a xs)
unfolding patch over
over-swap at a [] xs h = refl
over-swap zero a (x ∷ b) xs h = absurd (not-suc-le-zero h)
over-swap (suc at) a (x ∷ b) [] h = refl
over-swap (suc at) a (x ∷ b) (y ∷ xs) h = ap (λ (l : List ℕ). x ∷ l) (over-swap at a b xs (le_of_suc-le-suc h))

-- two that do not touch may change places
pub patch-swap : (at below : ℕ) (a b xs : List ℕ) → below + length b ≤ at → patch at a (patch below b xs) ≡ patch below b (patch at a xs)
unfolding patch
patch-swap at zero a b xs h = over-swap at a b xs (omega arith)
patch-swap zero (suc below) a b xs h = absurd (omega arith)
patch-swap (suc at) (suc below) a b [] h = refl
patch-swap (suc at) (suc below) a b (x ∷ xs) h = ap (λ (l : List ℕ). x ∷ l) (patch-swap at below a b xs (omega arith))

-- all of it
pub patch-all : (bytes xs : List ℕ) → length bytes ≡ length xs → patch 0 bytes xs ≡ bytes
unfolding patch over
patch-all [] [] e = refl
patch-all [] (x ∷ xs) e = absurd (omega arith)
patch-all (b ∷ bytes) [] e = absurd (omega arith)
patch-all (b ∷ bytes) (x ∷ xs) e = ap (λ (l : List ℕ). b ∷ l) (patch-all bytes xs (omega arith))

-- ---- a number of bytes that is cut to what there is

pub take-least : (n k : ℕ) (xs : List ℕ) → n ≡ min (length xs) k → take n xs ≡ take k xs
take-least n k xs e =
    ⊎_elim
    (λ h. take_all n xs (omega arith) ∙ sym (take_all k xs h))
    (λ h. let f : n ≡ k = omega arith in ap (λ (m : ℕ). take m xs) f)
    (le-or-lt (length xs) k)

-- ---- erased bytes

pub length-blank : (e n : ℕ) → length (blank e n) ≡ n
unfolding blank
length-blank e n = length-replicate n e

pub get_or-blank : (e n i d : ℕ) → i < n → get_or (blank e n) i d ≡ e
unfolding blank
get_or-blank e n i d h = get_or-replicate n i e d h

-- ---- for loops that put byte after byte

pub put-start : (bytes xs : List ℕ) → xs ≡ over (take 0 bytes) xs
unfolding over
put-start bytes xs = refl

pub put-turn : (bytes xs : List ℕ) (i : ℕ) → i < length bytes → i < length xs → set (over (take i bytes) xs) i (get_or bytes i 0) ≡ over (take (i + 1) bytes) xs
unfolding over
put-turn bytes xs i h k = rw add-one (turn bytes xs i h k)
  where
    turn : (bytes xs : List ℕ) (i : ℕ) → i < length bytes → i < length xs → set (over (take i bytes) xs) i (get_or bytes i 0) ≡ over (take (suc i) bytes) xs
    turn [] xs i h k = absurd (not-suc-le-zero h)
    turn (b ∷ bytes) [] i h k = absurd (not-suc-le-zero k)
    turn (b ∷ bytes) (x ∷ xs) zero h k = refl
    turn (b ∷ bytes) (x ∷ xs) (suc i) h k = ap (λ (l : List ℕ). b ∷ l) (turn bytes xs i (le_of_suc-le-suc h) (le_of_suc-le-suc k))

pub put-end : (bytes xs : List ℕ) (i : ℕ) → i ≡ min (length bytes) (length xs) → over (take i bytes) xs ≡ over bytes xs
put-end bytes xs i e =
    ⊎_elim (λ h. ap (λ (l : List ℕ). over l xs) (take_all i bytes (omega arith))) (λ h. over-fit i bytes xs (omega arith)) (le-or-lt (length bytes) (length xs))

-- What the whole flash is after a part of it was lent on and came back: a patch. Assumes nothing.
use mathlib.Core.Path.{◌≡◌, refl, sym, ap, ap₂, ◌∙◌}
use mathlib.Core.List.{List, ◌++◌, append-nil}
use mathlib.Core.Logic.{⊎_elim}
use Prim.Native.Nat.{ℕ, ◌+◌, ◌-◌, ◌≤◌, ◌<◌, min}
use native.Mathlib.Omega.{arith}
use lib.ListN.{length, take, drop, length-drop, drop_of_length-le}
use lib.Seq.{take_all}
use Rattle.types.specs.Build.{page_size}
use Rattle.types.proofs.TestLaws.{le-or-lt}
use Rattle.slices.specs.Patch.{over, patch, blank}
use Rattle.slices.proofs.OverLaws.{patch-split, over-blank}
use Rattle.slices.proofs.PatchLaws.{patch-none, patch-past, take-least}

-- bytes were put over the part from `at` to the end
put_back : (at n : ℕ) (bytes xs ys : List ℕ) → at ≤ length xs → n ≡ length xs - at → ys ≡ over bytes (take n (drop at xs))
    → take at xs ++ (ys ++ drop n (drop at xs)) ≡ patch at bytes xs
put_back at n bytes xs ys h e y =
    let l : length (drop at xs) ≤ n = simp length-drop (omega arith) in
    rw (y, take_all n (drop at xs) l, drop_of_length-le (drop at xs) l, append-nil) (patch-split at bytes xs)

-- a place past the end is as good as the end
patch-least : (at from : ℕ) (bytes xs : List ℕ) → from ≡ min at (length xs) → patch from bytes xs ≡ patch at bytes xs
patch-least at from bytes xs e =
    ⊎_elim
    (λ h. let f : from ≡ at = omega arith in ap (λ (m : ℕ). patch m bytes xs) f)
    (λ h. patch-past from bytes xs (omega arith) ∙ sym (patch-past at bytes xs (omega arith)))
    (le-or-lt at (length xs))

-- the store of a page
pub store-lent : (base at room n from : ℕ) (bytes xs ys : List ℕ) → room ≡ page_size - at → n ≡ min (length bytes) room → from ≡ min (base + page_size - room) (length xs)
    → ys ≡ over (take n bytes) (take (length xs - from) (drop from xs))
    → take from xs ++ (ys ++ drop (length xs - from) (drop from xs)) ≡ patch (base + at) (take (page_size - at) bytes) xs
store-lent base at room n from bytes xs ys e f g y =
    put_back from (length xs - from) (take n bytes) xs ys (omega arith) refl y
    ∙ ap (λ (b : List ℕ). patch from b xs) (take-least n room bytes f ∙ ap (λ (k : ℕ). take k bytes) e)
    ∙ ⊎_elim
    (λ (h : at ≤ page_size). patch-least (base + at) from (take (page_size - at) bytes) xs (omega arith))
    (λ (h : page_size < at).
    let z : page_size - at ≡ 0 = omega arith in
    rw z (patch-none from xs ∙ sym (patch-none (base + at) xs)))
    (le-or-lt at page_size)

-- ---- an erase

-- the erase of a page
pub erase-lent : (e base start end : ℕ) (xs ys : List ℕ) → start ≡ min base (length xs) → end ≡ min (start + page_size) (length xs)
    → ys ≡ blank e (length (take (end - start) (drop start xs)))
    → take start xs ++ (ys ++ drop (end - start) (drop start xs)) ≡ patch base (blank e page_size) xs
erase-lent e base start end xs ys s f y =
    let l : length (drop start xs) ≡ length xs - start = length-drop start xs in
    let k : end - start ≡ min (length (drop start xs)) page_size = omega arith in
    let t : take (end - start) (drop start xs) ≡ take page_size (drop start xs) = take-least (end - start) page_size (drop start xs) k in
    let d : drop (end - start) (drop start xs) ≡ drop page_size (drop start xs) = drop-least (end - start) page_size (drop start xs) k in
    ap₂ (λ (b r : List ℕ). take start xs ++ (b ++ r)) (y ∙ ap (λ (p : List ℕ). blank e (length p)) t) d
    ∙ ap (λ (p : List ℕ). take start xs ++ p) (sym (over-blank e page_size (drop start xs)))
    ∙ patch-split start (blank e page_size) xs
    ∙ patch-least base start (blank e page_size) xs s
  where
    drop-least : (n k : ℕ) (l : List ℕ) → n ≡ min (length l) k → drop n l ≡ drop k l
    drop-least n k l e =
        ⊎_elim
        (λ h. drop_of_length-le l (let g : length l ≤ n = omega arith in g) ∙ sym (drop_of_length-le l h))
        (λ h. let f : n ≡ k = omega arith in ap (λ (m : ℕ). drop m l) f)
        (le-or-lt (length l) k)

-- Operations on the flash are the same operations on their page, and leave every other byte alone. No law here asks that the page
-- lies in the flash or that a store fits: what does not is not stored. Assumes nothing.
use mathlib.Core.Path.{◌≡◌, refl, sym, ap, ◌∙◌}
use mathlib.Core.List.{List, [], ◌∷◌}
use mathlib.Core.Logic.{◌⊎◌, inl, inr, ⊎_elim}
use Prim.Native.Nat.{ℕ, ◌+◌, ◌-◌, ◌*◌, ◌≤◌, ◌<◌}
use native.Mathlib.Nat.{add-zero, zero-add}
use native.Mathlib.Omega.{arith}
use lib.ListN.{length, take, drop, get_or, length-take}
use Rattle.types.specs.Build.{page_size}
use Rattle.types.proofs.TestLaws.{le-or-lt}
use Rattle.flash.specs.Covers.{op_at, op_bytes}
use Rattle.flash.specs.Geometry.{page_start, page_from, page_of}
use Rattle.flash.specs.Operations.{Op, erase, store, made, applied}
use Rattle.slices.specs.Patch.{patch, blank}
use Rattle.flash.proofs.GeometryLaws.{length-page}
use Rattle.slices.proofs.PatchLaws.{length-patch, patch-none, patch-all, patch-in, patch-below, patch-above, take-patch, drop-patch, take-patch-below, drop-patch-above, length-blank}

-- an operation is one patch within its page
pub made-patch : (base : ℕ) (op : Op) (xs : List ℕ) → made base op xs ≡ patch (base + op_at op) (op_bytes op) xs
made-patch base (erase e) xs = ap (λ (b : ℕ). patch b (blank e page_size) xs) (sym (add-zero base))
made-patch base (store at bytes) xs = refl

-- it stays in its page, or puts nothing
pub op-within : (op : Op) → (op_at op + length (op_bytes op) ≤ page_size) ⊎ (op_bytes op ≡ [])
op-within (erase e) = inl (rw length-blank (omega arith))
op-within (store at bytes) =
    ⊎_elim
    (λ (h : at ≤ page_size). inl (rw length-take (omega arith)))
    (λ (h : page_size < at). inr (let z : page_size - at ≡ 0 = omega arith in rw z))
    (le-or-lt at page_size)

-- ---- the length

pub length-made : (base : ℕ) (op : Op) (xs : List ℕ) → length (made base op xs) ≡ length xs
length-made base op xs = ap length (made-patch base op xs) ∙ length-patch (base + op_at op) (op_bytes op) xs

pub length-applied : (base : ℕ) (ops : List Op) (xs : List ℕ) → length (applied base ops xs) ≡ length xs
length-applied base [] xs = refl
length-applied base (op ∷ ops) xs = length-applied base ops (made base op xs) ∙ length-made base op xs

-- ---- the page itself

pub page-made : (base : ℕ) (op : Op) (xs : List ℕ) → page_from base (made base op xs) ≡ made 0 op (page_from base xs)
page-made base op xs =
    ap (page_from base) (made-patch base op xs)
    ∙ ap (take page_size) (drop-patch base (op_at op) (op_bytes op) xs)
    ∙ take-patch page_size (op_at op) (op_bytes op) (drop base xs)
    ∙ ap (λ (a : ℕ). patch a (op_bytes op) (page_from base xs)) (sym (zero-add (op_at op)))
    ∙ sym (made-patch 0 op (page_from base xs))

pub page-applied : (base : ℕ) (ops : List Op) (xs : List ℕ) → page_from base (applied base ops xs) ≡ applied 0 ops (page_from base xs)
page-applied base [] xs = refl
page-applied base (op ∷ ops) xs = page-applied base ops (made base op xs) ∙ ap (applied 0 ops) (page-made base op xs)

-- an erased page reads as erased
pub page-erased : (e base : ℕ) (xs : List ℕ) → base + page_size ≤ length xs → page_from base (made base (erase e) xs) ≡ blank e page_size
page-erased e base xs h =
    let l : length (page_from base xs) ≡ page_size = length-page base xs h in
    page-made base (erase e) xs ∙ patch-all (blank e page_size) (page_from base xs) (length-blank e page_size ∙ sym l)

-- the bytes that an operation puts are there
pub made_in : (base : ℕ) (op : Op) (xs : List ℕ) (i d : ℕ) → i < length (op_bytes op) → base + op_at op + i < length xs → get_or (made base op xs) (base + op_at op + i) d ≡ get_or (op_bytes op) i d
made_in base op xs i d h k = ap (λ (l : List ℕ). get_or l (base + op_at op + i) d) (made-patch base op xs) ∙ patch-in (base + op_at op) (op_bytes op) xs i d h k

-- ---- elsewhere

made-below : (base : ℕ) (op : Op) (xs : List ℕ) (i d : ℕ) → i < base → get_or (made base op xs) i d ≡ get_or xs i d
made-below base op xs i d h = ap (λ (l : List ℕ). get_or l i d) (made-patch base op xs) ∙ patch-below (base + op_at op) (op_bytes op) xs i d (omega arith)

made-above : (base : ℕ) (op : Op) (xs : List ℕ) (i d : ℕ) → base + page_size ≤ i → get_or (made base op xs) i d ≡ get_or xs i d
made-above base op xs i d h =
    ap (λ (l : List ℕ). get_or l i d) (made-patch base op xs)
    ∙ ⊎_elim
    (λ w. patch-above (base + op_at op) (op_bytes op) xs i d (omega arith))
    (λ n. ap (λ (b : List ℕ). get_or (patch (base + op_at op) b xs) i d) n ∙ ap (λ (l : List ℕ). get_or l i d) (patch-none (base + op_at op) xs))
    (op-within op)

-- ELSEWHERE: no byte outside the page changes
pub applied-outside : (base : ℕ) (ops : List Op) (xs : List ℕ) (i d : ℕ) → (i < base) ⊎ (base + page_size ≤ i) → get_or (applied base ops xs) i d ≡ get_or xs i d
applied-outside base [] xs i d o = refl
applied-outside base (op ∷ ops) xs i d o =
    applied-outside base ops (made base op xs) i d o ∙ ⊎_elim (λ b. made-below base op xs i d b) (λ a. made-above base op xs i d a) o

made-other-page : (p q : ℕ) (op : Op) (xs : List ℕ) → (p ≡ q → ⊥) → page_of q (made (page_start p) op xs) ≡ page_of q xs
made-other-page p q op xs ne =
    ap (page_of q) (made-patch (page_start p) op xs)
    ∙ ⊎_elim
    (λ w. ⊎_elim (λ lower. before lower) (λ higher. ap (take page_size) (drop-patch-above (q * page_size) (p * page_size + op_at op) (op_bytes op) xs (omega arith))) (le-or-lt q p))
    (λ n. ap (λ (b : List ℕ). page_of q (patch (p * page_size + op_at op) b xs)) n ∙ ap (page_of q) (patch-none (p * page_size + op_at op) xs))
    (op-within op)
  where
    before : q ≤ p → page_of q (patch (p * page_size + op_at op) (op_bytes op) xs) ≡ page_of q xs
    before lower =
        let strict : q < p = ⊎_elim (λ h. absurd (ne (let e : p ≡ q = omega arith in e))) (λ h. h) (le-or-lt p q) in
        let at = p * page_size + op_at op - q * page_size in
        let split : p * page_size + op_at op ≡ q * page_size + at = omega arith in
        ap (λ (k : ℕ). take page_size (drop (q * page_size) (patch k (op_bytes op) xs))) split
        ∙ ap (take page_size) (drop-patch (q * page_size) at (op_bytes op) xs)
        ∙ take-patch-below page_size at (op_bytes op) (drop (q * page_size) xs) (omega arith)

-- every other page is as it was
pub other-page : (p q : ℕ) (ops : List Op) (xs : List ℕ) → (p ≡ q → ⊥) → page_of q (applied (page_start p) ops xs) ≡ page_of q xs
other-page p q [] xs ne = refl
other-page p q (op ∷ ops) xs ne = other-page p q ops (made (page_start p) op xs) ne ∙ made-other-page p q op xs ne

-- Operations made again leave what they left the first time: the last one that covers a byte decides it. Assumes nothing.
use mathlib.Core.Path.{◌≡◌, refl, sym, ap, ap₂, ◌∙◌}
use mathlib.Core.List.{List, [], ◌∷◌, ◌++◌}
use mathlib.Core.Logic.{◌⊎◌, inl, inr, ⊎_elim}
use Prim.Native.Nat.{ℕ, suc, ◌+◌, ◌-◌, ◌≤◌, ◌<◌}
use native.Mathlib.Omega.{arith}
use lib.ListN.{length, take, drop, get_or, take-append-drop}
use lib.Seq.{take-take}
use Rattle.types.proofs.TestLaws.{le-or-lt}
use Rattle.flash.specs.Covers.{op_at, op_bytes}
use Rattle.flash.specs.Operations.{Op, made, applied}
use Rattle.flash.proofs.OperationLaws.{applied-append}
use Rattle.flash.proofs.PageLaws.{made-patch, made_in, length-made, length-applied}
use Rattle.slices.proofs.PatchLaws.{patch-below, patch-above}

-- lists of one length with the same bytes
same_bytes : (xs ys : List ℕ) → length xs ≡ length ys → ((i : ℕ) → i < length xs → get_or xs i 0 ≡ get_or ys i 0) → xs ≡ ys
same_bytes [] [] l f = refl
same_bytes [] (y ∷ ys) l f = absurd (omega arith)
same_bytes (x ∷ xs) [] l f = absurd (omega arith)
same_bytes (x ∷ xs) (y ∷ ys) l f =
    ap₂ (λ (b : ℕ) (bs : List ℕ). b ∷ bs) (f 0 (omega arith)) (same_bytes xs ys (omega arith) (λ (i : ℕ) (h : i < length xs). f (suc i) (omega arith)))

-- what operations make of byte i: one byte, whatever stood there, or what stood there
abbrev Decides : ℕ → ℕ → List Op → ℕ → Type 0
Decides base n ops i =
    ((b : ℕ) × ((xs : List ℕ) → length xs ≡ n → get_or (applied base ops xs) i 0 ≡ b)) ⊎ ((xs : List ℕ) → get_or (applied base ops xs) i 0 ≡ get_or xs i 0)

op-decides : (base n : ℕ) (op : Op) (i : ℕ) → i < n → Decides base n (op ∷ []) i
op-decides base n op i h =
    let at = base + op_at op in
    let behind : at + length (op_bytes op) ≤ i → Decides base n (op ∷ []) i =
    λ f. inr (λ (xs : List ℕ). ap (λ (l : List ℕ). get_or l i 0) (made-patch base op xs) ∙ patch-above at (op_bytes op) xs i 0 f) in
    let before : i < at → Decides base n (op ∷ []) i =
    λ f. inr (λ (xs : List ℕ). ap (λ (l : List ℕ). get_or l i 0) (made-patch base op xs) ∙ patch-below at (op_bytes op) xs i 0 f) in
    let within : at ≤ i → i < at + length (op_bytes op) → Decides base n (op ∷ []) i =
    λ (f : at ≤ i) (g : i < at + length (op_bytes op)).
    let k : at + (i - at) ≡ i = omega arith in
    inl (
      get_or (op_bytes op) (i - at) 0,
      λ (xs : List ℕ) (l : length xs ≡ n).
          ap (λ (j : ℕ). get_or (made base op xs) j 0) (sym k) ∙ made_in base op xs (i - at) 0 (omega arith) (let m : at + (i - at) < length xs = omega arith in m),
    ) in
    ⊎_elim (λ (f : at ≤ i). ⊎_elim behind (within f) (le-or-lt (at + length (op_bytes op)) i)) before (le-or-lt at i)

all-decide : (base n : ℕ) (ops : List Op) (i : ℕ) → i < n → Decides base n ops i
all-decide base n [] i h = inr (λ (xs : List ℕ). refl)
all-decide base n (op ∷ ops) i h =
    ⊎_elim
    (λ d. inl (d.0, λ (xs : List ℕ) (l : length xs ≡ n). d.1 (made base op xs) (length-made base op xs ∙ l)))
    (λ g.
    ⊎_elim
    (λ d. inl (d.0, λ (xs : List ℕ) (l : length xs ≡ n). g (made base op xs) ∙ d.1 xs l))
    (λ f. inr (λ (xs : List ℕ). g (made base op xs) ∙ f xs))
    (op-decides base n op i h))
    (all-decide base n ops i h)

pub applied-twice : (base : ℕ) (ops : List Op) (xs : List ℕ) → applied base ops (applied base ops xs) ≡ applied base ops xs
applied-twice base ops xs =
    let ys = applied base ops xs in
    let l : length ys ≡ length xs = length-applied base ops xs in
    let m : length (applied base ops ys) ≡ length ys = length-applied base ops ys in
    same_bytes (applied base ops ys) ys m
    (λ (i : ℕ) (h : i < length (applied base ops ys)).
    ⊎_elim (λ d. d.1 ys l ∙ sym (d.1 xs refl)) (λ g. g ys) (all-decide base (length xs) ops i (let k : i < length xs = omega arith in k)))

-- APPLIED AGAIN: after a part of a list of operations, a part of it that is as long or longer
pub applied-again : (base few many : ℕ) (ops : List Op) (xs : List ℕ) → few ≤ many
    → applied base (take many ops) (applied base (take few ops) xs) ≡ applied base (take many ops) xs
applied-again base few many ops xs h =
    let first = take few ops in
    let rest = drop few (take many ops) in
    let split : first ++ rest ≡ take many ops = ap (λ (l : List Op). l ++ rest) (sym (take-take few many ops h)) ∙ take-append-drop few (take many ops) in
    let ys = applied base first xs in
    ap (λ (l : List Op). applied base l ys) (sym split)
    ∙ applied-append base first rest ys
    ∙ ap (applied base rest) (applied-twice base first xs)
    ∙ sym (applied-append base first rest xs)
    ∙ ap (λ (l : List Op). applied base l xs) split

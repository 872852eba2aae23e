-- Tests as Bools, and the ways that they go. Assumes nothing.
use mathlib.Core.Path.{◌≡◌, refl, sym, ◌∙◌}
use mathlib.Core.Bool.{Bool, true, false, ◌&&◌, cond}
use mathlib.Core.Logic.{◌⊎◌, inl, inr, ⊎_elim}
use Prim.Native.Nat.{ℕ, ◌≤◌, ◌<◌}
use native.Mathlib.Omega.{arith}
use lib.Dec.{leb, eqb}
use borrow.Author.Tests.{leb-true, leb-false, le-leb, lt-leb, eqb-true, eqb-false}

-- a test holds or fails
pub decided : (t : Bool) → (t ≡ true) ⊎ (t ≡ false)
decided true = inl refl
decided false = inr refl

pub le-or-lt : (a b : ℕ) → (a ≤ b) ⊎ (b < a)
le-or-lt a b = ⊎_elim (λ e. inl (leb-true a b e)) (λ e. inr (leb-false a b e)) (decided (leb a b))

pub eq-or-ne : (a b : ℕ) → (a ≡ b) ⊎ (a ≡ b → ⊥)
eq-or-ne a b = ⊎_elim (λ e. inl (eqb-true a b e)) (λ e. inr (eqb-false a b e)) (decided (eqb a b))

-- a test that is told as 1 or 0 is known again
pub flag-back : (t : Bool) → eqb (cond t 1 0) 1 ≡ t
flag-back true = refl
flag-back false = refl

-- both halves of a conjunction that holds
pub both_true : (s t : Bool) → (s && t) ≡ true → (s ≡ true) × (t ≡ true)
both_true true t e = (refl, e)
both_true false t e = let z : ◌≡◌ {A = ℕ} 0 1 = cc in absurd (omega arith)

-- two tests with one meaning
pub leb-iff : (a b c d : ℕ) → (a ≤ b → c ≤ d) → (c ≤ d → a ≤ b) → leb a b ≡ leb c d
leb-iff a b c d f g =
    ⊎_elim
    (λ h. le-leb a b h ∙ sym (le-leb c d (f h)))
    (λ h. lt-leb a b h ∙ sym (lt-leb c d (⊎_elim (λ k. absurd (let m : a ≤ b = g k in omega arith)) (λ k. k) (le-or-lt c d))))
    (le-or-lt a b)

-- Lists of operations, and what is left of the number of them. Assumes nothing.
use mathlib.Core.Path.{◌≡◌, refl, sym, ap, ◌∙◌}
use mathlib.Core.Bool.{Bool, true, ◌&&◌}
use mathlib.Core.List.{List, [], ◌∷◌, ◌++◌}
use mathlib.Core.Logic.{⊎_elim}
use Prim.Native.Nat.{ℕ, zero, suc, ◌+◌, ◌-◌}
use native.Mathlib.Nat.{sub-zero, zero-sub, suc-sub-suc}
use native.Mathlib.Omega.{arith}
use lib.Dec.{leb-zero}
use lib.ListN.{length, take, length-append}
use lib.Seq.{take-nil}
use borrow.Author.Tests.{le-leb, lt-leb}
use Rattle.types.proofs.TestLaws.{le-or-lt, leb-iff}
use Rattle.flash.specs.Operations.{Op, made, applied, spent, allowed}
use Rattle.flash.specs.declared.ops.Spent.{Spent}

-- ---- a list in two parts

pub applied-append : (base : ℕ) (a b : List Op) (xs : List ℕ) → applied base (a ++ b) xs ≡ applied base b (applied base a xs)
applied-append base [] b xs = refl
applied-append base (op ∷ a) b xs = applied-append base a b (made base op xs)

pub take-append : {A : Type 0} (n : ℕ) (a b : List A) → take n (a ++ b) ≡ take n a ++ take (n - length a) b
take-append n [] b = rw (sub-zero, take-nil)
take-append zero (x ∷ a) b = rw zero-sub
take-append {A} (suc n) (x ∷ a) b = ap (λ (l : List A). x ∷ l) (take-append n a b ∙ rw suc-sub-suc)

spent-ok : (left : ℕ) (a b : List Op) → (spent left (a ++ b)).ok ≡ ((spent left a).ok && (spent (spent left a).left b).ok)
spent-ok left a b =
    ⊎_elim
    (λ h. rw (le-leb (length a) left h, length-append) (leb-iff (length a + length b) left (length b) (left - length a) (λ p. omega arith) (λ p. omega arith)))
    (λ h. rw (lt-leb (length a) left h, length-append) (lt-leb (length a + length b) left (omega arith)))
    (le-or-lt (length a) left)

spent-left : (left : ℕ) (a b : List Op) → (spent left (a ++ b)).left ≡ (spent (spent left a).left b).left
spent-left left a b = rw length-append (omega arith)

-- ---- what a run of operations comes to

-- r is handed back and ys is the flash, where xs was and `left` of the operations were allowed
abbrev pub Ran : ℕ → ℕ → List Op → List ℕ → Spent → List ℕ → Type 0
Ran base left ops xs r ys = (r ≡ spent left ops) × (ys ≡ allowed base left ops xs)

pub ran-none : (base left : ℕ) (xs : List ℕ) → Ran base left [] xs (record { ok = true; left = left }) xs
ran-none base left xs = (rw (leb-zero, sub-zero), rw take-nil)

same : (o p : Bool) (l m : ℕ) → o ≡ p → l ≡ m → ◌≡◌ {A = Spent} (record { ok = o; left = l }) (record { ok = p; left = m })
same o p l m e f = rw (e, f)

-- one run after another, with what the first left
pub ran_append : (base left : ℕ) (a b : List Op) (xs ys zs : List ℕ) (r s : Spent) → Ran base left a xs r ys → Ran base r.left b ys s zs
    → Ran base left (a ++ b) xs (record { ok = r.ok && s.ok; left = s.left }) zs
ran_append base left a b xs ys zs r s p q = (
  same (r.ok && s.ok) (spent left (a ++ b)).ok s.left (spent left (a ++ b)).left
      (rw (q.0, p.0) (sym (spent-ok left a b)))
      (rw (q.0, p.0) (sym (spent-left left a b))),
  q.1 ∙ rw (p.1, p.0) (sym (rw (take-append, applied-append))),
)

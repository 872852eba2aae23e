-- Who looks only below an offset, or only from one on, finds the same in lists that agree there. Assumes nothing.
use mathlib.Core.Path.{◌≡◌, refl, sym, ap, ◌∙◌}
use mathlib.Core.List.{List, [], ◌∷◌}
use mathlib.Core.Logic.{⊎_elim}
use Prim.Native.Nat.{ℕ, zero, suc, ◌+◌, ◌-◌, ◌≤◌, ◌<◌, min}
use native.Mathlib.Omega.{arith}
use lib.Dec.{leb, ltb}
use lib.ListN.{length, take, drop, length-take, length-drop}
use lib.Seq.{take-take, drop-drop}
use borrow.Author.Tests.{lt-ltb, le-ltb, le-leb, lt-leb}
use Rattle.types.specs.Bytes.{word}
use Rattle.types.proofs.TestLaws.{le-or-lt}
use Rattle.slices.specs.Fields.{field}

-- a part that ends at or below e
pub part-take : (k o e : ℕ) (xs : List ℕ) → o + k ≤ e → take k (drop o (take e xs)) ≡ take k (drop o xs)
part-take k zero e xs h = take-take k e xs (omega arith)
part-take k (suc o) zero xs h = absurd (omega arith)
part-take k (suc o) (suc e) [] h = refl
part-take k (suc o) (suc e) (x ∷ xs) h = part-take k o e xs (omega arith)

pub part-below : (k o e : ℕ) (p q : List ℕ) → o + k ≤ e → take e q ≡ take e p → take k (drop o q) ≡ take k (drop o p)
part-below k o e p q h a = sym (part-take k o e q h) ∙ ap (λ (l : List ℕ). take k (drop o l)) a ∙ part-take k o e p h

pub field_below : (k o e : ℕ) (p q : List ℕ) → o + k ≤ e → take e q ≡ take e p → field k q o ≡ field k p o
field_below k o e p q h a = ap word (part-below k o e p q h a)

-- what agrees below e agrees below any smaller one
pub take_below : (d e : ℕ) (p q : List ℕ) → d ≤ e → take e q ≡ take e p → take d q ≡ take d p
take_below d e p q h a = part-below d 0 e p q (omega arith) a

-- what agrees from s on agrees from any later offset on
pub drop-above : (s o : ℕ) (p q : List ℕ) → s ≤ o → drop s q ≡ drop s p → drop o q ≡ drop o p
drop-above s o p q h a =
    let e : o ≡ s + (o - s) = omega arith in
    rw e (sym (drop-drop (o - s) s q) ∙ ap (drop (o - s)) a ∙ drop-drop (o - s) s p)

pub field-above : (k s o : ℕ) (p q : List ℕ) → s ≤ o → drop s q ≡ drop s p → field k q o ≡ field k p o
field-above k s o p q h a = ap (λ (l : List ℕ). word (take k l)) (drop-above s o p q h a)

-- ---- whether there are n bytes

-- two lengths that pass n alike
tests-alike : (n k l : ℕ) → (n ≤ k → n ≤ l) → (n ≤ l → n ≤ k) → (ltb k n ≡ ltb l n) × (leb n k ≡ leb n l)
tests-alike n k l f g =
    ⊎_elim
    (λ (h : n ≤ k). (le-ltb k n h ∙ sym (le-ltb l n (f h)), le-leb n k h ∙ sym (le-leb n l (f h))))
    (λ (h : k < n).
    let less : l < n = ⊎_elim (λ (j : n ≤ l). absurd (omega (arith, g j))) (λ (j : l < n). j) (le-or-lt n l) in
    (lt-ltb k n h ∙ sym (lt-ltb l n less), lt-leb n k h ∙ sym (lt-leb n l less)))
    (le-or-lt n k)

-- lists that agree below e have n bytes both or neither, for any n up to e
pub long-below : (n e : ℕ) (p q : List ℕ) → n ≤ e → take e q ≡ take e p → n ≤ length p → n ≤ length q
long-below n e p q h a k =
    let same : min e (length q) ≡ min e (length p) = simp length-take at (ap length a) in
    omega arith

pub short-below : (n e : ℕ) (p q : List ℕ) → n ≤ e → take e q ≡ take e p → length p < n → length q < n
short-below n e p q h a k =
    let same : min e (length q) ≡ min e (length p) = simp length-take at (ap length a) in
    omega arith

pub longer-below : (n e : ℕ) (p q : List ℕ) → n ≤ e → take e q ≡ take e p → leb n (length q) ≡ leb n (length p)
longer-below n e p q h a = (tests-alike n (length q) (length p) (λ k. long-below n e q p h (sym a) k) (λ k. long-below n e p q h a k)).1

pub shorter-above : (s n : ℕ) (p q : List ℕ) → s < n → drop s q ≡ drop s p → ltb (length q) n ≡ ltb (length p) n
shorter-above s n p q h a =
    let same : length q - s ≡ length p - s = simp length-drop at (ap length a) in
    (tests-alike n (length q) (length p) (λ k. omega arith) (λ k. omega arith)).0

-- Stores one behind the other in a page: what they leave alone, and that they land on erased bytes where such lie. Assumes nothing.
use mathlib.Core.Path.{◌≡◌, refl, sym, ap, ◌∙◌}
use mathlib.Core.Bool.{Bool, true, false}
use mathlib.Core.List.{List, [], ◌∷◌, ◌++◌}
use Prim.Native.Nat.{ℕ, zero, suc, ◌+◌, ◌-◌, ◌≤◌}
use native.Mathlib.Nat.{zero-add}
use native.Mathlib.Omega.{arith}
use lib.ListN.{length, take, drop, get_or, length-take}
use lib.Seq.{get_or-take, get_or-drop}
use Rattle.types.specs.Build.{page_size}
use Rattle.flash.specs.Operations.{Op, erase, store, op_if, made, applied}
use Rattle.flash.proofs.PageLaws.{length-made}
use Rattle.slices.specs.Patch.{patch}
use Rattle.slices.proofs.PatchLaws.{patch-above, take-patch-below, drop-patch-above}
use Rattle.page.proofs.BelowLaws.{take_below}
use Rattle.writer.specs.Landings.{Erased, Lands}

-- ---- stores one behind the other, from a on and no further than b

abbrev pub Rising : ℕ → ℕ → List Op → Type 0
Rising a b [] = a ≤ b
Rising a b (erase e ∷ ops) = ⊥
Rising a b (store at bytes ∷ ops) = (a ≤ at) × Rising (at + length bytes) b ops

pub rising_le : (a b : ℕ) (ops : List Op) → Rising a b ops → a ≤ b
rising_le a b [] r = r
rising_le a b (erase e ∷ ops) r = absurd r
rising_le a b (store at bytes ∷ ops) r = let t = rising_le (at + length bytes) b ops r.1 in omega (arith, r.0)

pub rising-from : (a b c : ℕ) (ops : List Op) → a ≤ b → Rising b c ops → Rising a c ops
rising-from a b c [] h r = omega arith
rising-from a b c (erase e ∷ ops) h r = r
rising-from a b c (store at bytes ∷ ops) h r = (omega (arith, r.0), r.1)

pub rising-to : (a b c : ℕ) (ops : List Op) → b ≤ c → Rising a b ops → Rising a c ops
rising-to a b c [] h r = omega arith
rising-to a b c (erase e ∷ ops) h r = r
rising-to a b c (store at bytes ∷ ops) h r = (r.0, rising-to (at + length bytes) b c ops h r.1)

pub rising-append : (a b c : ℕ) (xs ys : List Op) → Rising a b xs → Rising b c ys → Rising a c (xs ++ ys)
rising-append a b c [] ys r s = rising-from a b c ys r s
rising-append a b c (erase e ∷ xs) ys r s = r
rising-append a b c (store at bytes ∷ xs) ys r s = (r.0, rising-append (at + length bytes) b c xs ys r.1 s)

pub rising-if : (a b at : ℕ) (bytes : List ℕ) (t : Bool) → (t ≡ true → (a ≤ at) × (at + length bytes ≤ b)) → (t ≡ false → a ≤ b)
    → Rising a b (op_if t (store at bytes))
rising-if a b at bytes true f g = f refl
rising-if a b at bytes false f g = g refl

-- one store of the page
made-store : (at : ℕ) (bytes p : List ℕ) → made 0 (store at bytes) p ≡ patch at (take (page_size - at) bytes) p
made-store at bytes p = ap (λ (k : ℕ). patch k (take (page_size - at) bytes) p) (zero-add at)

cut-length : (n : ℕ) (bytes : List ℕ) → length (take n bytes) ≤ length bytes
cut-length n bytes = rw length-take (omega arith)

-- all below the first store stays, and all behind the last
pub rising-below : (a b : ℕ) (ops : List Op) (p : List ℕ) → Rising a b ops → take a (applied 0 ops p) ≡ take a p
rising-below a b [] p r = refl
rising-below a b (erase e ∷ ops) p r = absurd r
rising-below a b (store at bytes ∷ ops) p r =
    let low = r.0 in
    take_below a (at + length bytes) (made 0 (store at bytes) p) (applied 0 ops (made 0 (store at bytes) p)) (omega arith)
    (rising-below (at + length bytes) b ops (made 0 (store at bytes) p) r.1)
    ∙ ap (take a) (made-store at bytes p)
    ∙ take-patch-below a at (take (page_size - at) bytes) p low

pub rising-behind : (a b : ℕ) (ops : List Op) (p : List ℕ) → Rising a b ops → drop b (applied 0 ops p) ≡ drop b p
rising-behind a b [] p r = refl
rising-behind a b (erase e ∷ ops) p r = absurd r
rising-behind a b (store at bytes ∷ ops) p r =
    let t = rising_le (at + length bytes) b ops r.1 in
    rising-behind (at + length bytes) b ops (made 0 (store at bytes) p) r.1
    ∙ ap (drop b) (made-store at bytes p)
    ∙ drop-patch-above b at (take (page_size - at) bytes) p (let l = cut-length (page_size - at) bytes in omega arith)

-- ---- bytes that read as erased, and stores on them

pub lands-append : (e : ℕ) (xs ys : List Op) (p : List ℕ) → Lands e xs p → Lands e ys (applied 0 xs p) → Lands e (xs ++ ys) p
lands-append e [] ys p l m = m
lands-append e (erase v ∷ xs) ys p l m = l
lands-append e (store at bytes ∷ xs) ys p l m = (l.0, (l.1.0, lands-append e xs ys (made 0 (store at bytes) p) l.1.1 m))

-- so do the first ones, which a cut leaves
pub lands-take : (e k : ℕ) (ops : List Op) (p : List ℕ) → Lands e ops p → Lands e (take k ops) p
lands-take e zero ops p l = tt
lands-take e (suc k) [] p l = tt
lands-take e (suc k) (erase v ∷ ops) p l = l
lands-take e (suc k) (store at bytes ∷ ops) p l = (l.0, (l.1.0, lands-take e k ops (made 0 (store at bytes) p) l.1.1))

-- stores up to an end in the page
pub rising-lands : (e a b : ℕ) (ops : List Op) (p : List ℕ) → b ≤ length p → Erased e a b p → Rising a b ops → Lands e ops p
rising-lands e a b [] p end h r = tt
rising-lands e a b (erase v ∷ ops) p end h r = r
rising-lands e a b (store at bytes ∷ ops) p end h r =
    let low = r.0 in
    let t = rising_le (at + length bytes) b ops r.1 in (
      omega arith,
      (
        λ i f g. h i (omega arith) (omega arith),
        rising-lands e (at + length bytes) b ops (made 0 (store at bytes) p) (rw (length-made 0 (store at bytes) p) end)
            (λ i f g.
            ap (λ (l : List ℕ). get_or l i e) (made-store at bytes p)
            ∙ patch-above at (take (page_size - at) bytes) p i e (let l = cut-length (page_size - at) bytes in omega arith)
            ∙ h i (omega arith) g)
            r.1,
      ),
    )

-- erased bytes before and behind stay so
pub erased-below : (e c d a b : ℕ) (ops : List Op) (p : List ℕ) → d ≤ a → Rising a b ops → Erased e c d p → Erased e c d (applied 0 ops p)
erased-below e c d a b ops p h r q i f g =
    sym (get_or-take a (applied 0 ops p) i e (omega arith)) ∙ ap (λ (l : List ℕ). get_or l i e) (rising-below a b ops p r) ∙ get_or-take a p i e (omega arith) ∙ q i f g

pub erased-behind : (e c d a b : ℕ) (ops : List Op) (p : List ℕ) → b ≤ c → Rising a b ops → Erased e c d p → Erased e c d (applied 0 ops p)
erased-behind e c d a b ops p h r q i f g =
    let k : b + (i - b) ≡ i = omega arith in
    ap (λ (j : ℕ). get_or (applied 0 ops p) j e) (sym k)
    ∙ sym (get_or-drop b (applied 0 ops p) (i - b) e)
    ∙ ap (λ (l : List ℕ). get_or l (i - b) e) (rising-behind a b ops p r)
    ∙ get_or-drop b p (i - b) e
    ∙ ap (λ (j : ℕ). get_or p j e) k
    ∙ q i f g

-- The order of keys is total: a key equals itself and no other, two keys turned round stand the other way, and below
-- goes on to below. Assumes nothing.
use mathlib.Core.Path.{◌≡◌, refl, sym, ◌∙◌, ap}
use mathlib.Core.Bool.{Bool, true, false}
use mathlib.Core.List.{List, [], ◌∷◌}
use mathlib.Core.Logic.{⊎_elim}
use Prim.Native.Nat.{ℕ, ◌<◌}
use native.Mathlib.Omega.{arith}
use borrow.Author.Tests.{lt-ltb, le-ltb, eq-eqb, ne_eqb}
use Rattle.types.proofs.TestLaws.{le-or-lt}
use Rattle.keys.specs.Keys.{compare_keys, is_below}
use Rattle.std.specs.declared.cmp.Ordering.{Ordering}
use Rattle.std.specs.declared.cmp.Ordering.TheVariants.{Less, Equal, Greater}

-- ---- the first byte

-- two bytes stand in one of three ways
data Ways (x y : ℕ) : Type 0 where
  below : x < y → Ways x y
  same : x ≡ y → Ways x y
  above : y < x → Ways x y

ways : (x y : ℕ) → Ways x y
ways x y = ⊎_elim (λ h. ⊎_elim (λ k. same (omega arith)) below (le-or-lt y x)) above (le-or-lt x y)

first_below : (x y : ℕ) (s t : List ℕ) → x < y → compare_keys (x ∷ s) (y ∷ t) ≡ Less
unfolding compare_keys
first_below x y s t h = simp (lt-ltb x y h)

first_above : (x y : ℕ) (s t : List ℕ) → y < x → compare_keys (x ∷ s) (y ∷ t) ≡ Greater
unfolding compare_keys
first_above x y s t h = simp (le-ltb x y (omega arith), lt-ltb y x h)

pub first-same : (x y : ℕ) (s t : List ℕ) → x ≡ y → compare_keys (x ∷ s) (y ∷ t) ≡ compare_keys s t
unfolding compare_keys
first-same x y s t h = simp (le-ltb x y (omega arith), le-ltb y x (omega arith))

-- ---- no two answers at once

clash : {A : Type 0} → ◌≡◌ {A = ℕ} 0 1 → A
clash z = absurd (omega arith)

-- ---- the laws

abbrev pub turned : Ordering → Ordering
turned Less = Greater
turned Equal = Equal
turned Greater = Less

pub compare-itself : (a : List ℕ) → compare_keys a a ≡ Equal
unfolding compare_keys
compare-itself [] = refl
compare-itself (x ∷ a) = first-same x x a a refl ∙ compare-itself a

pub compare-turned : (a b : List ℕ) → compare_keys b a ≡ turned (compare_keys a b)
unfolding compare_keys
compare-turned [] [] = refl
compare-turned [] (y ∷ b) = refl
compare-turned (x ∷ a) [] = refl
compare-turned (x ∷ a) (y ∷ b) = by (compare-turned a b) (ways x y)
  where
    by : compare_keys b a ≡ turned (compare_keys a b) → Ways x y → compare_keys (y ∷ b) (x ∷ a) ≡ turned (compare_keys (x ∷ a) (y ∷ b))
    by r (below h) = first_above y x b a h ∙ sym (ap turned (first_below x y a b h))
    by r (same h) = first-same y x b a (sym h) ∙ r ∙ sym (ap turned (first-same x y a b h))
    by r (above h) = first_below y x b a h ∙ sym (ap turned (first_above x y a b h))

pub compare-equal : (a b : List ℕ) → compare_keys a b ≡ Equal → a ≡ b
unfolding compare_keys
compare-equal [] [] q = refl
compare-equal [] (y ∷ b) q = clash (cc)
compare-equal (x ∷ a) [] q = clash (cc)
compare-equal (x ∷ a) (y ∷ b) q = by (compare-equal a b) (ways x y)
  where
    by : (compare_keys a b ≡ Equal → a ≡ b) → Ways x y → x ∷ a ≡ y ∷ b
    by r (below h) = let w : Less ≡ Equal = sym (first_below x y a b h) ∙ q in clash (cc)
    by r (same h) = let t : a ≡ b = r (sym (first-same x y a b h) ∙ q) in cc
    by r (above h) = let w : Greater ≡ Equal = sym (first_above x y a b h) ∙ q in clash (cc)

pub less-less : (a b c : List ℕ) → compare_keys a b ≡ Less → compare_keys b c ≡ Less → compare_keys a c ≡ Less
unfolding compare_keys
less-less [] [] c p q = q
less-less [] (y ∷ b) [] p q = clash (cc)
less-less [] (y ∷ b) (z ∷ c) p q = refl
less-less (x ∷ a) [] c p q = clash (cc)
less-less (x ∷ a) (y ∷ b) [] p q = clash (cc)
less-less (x ∷ a) (y ∷ b) (z ∷ c) p q = by (less-less a b c) (ways x y) (ways y z)
  where
    by : (compare_keys a b ≡ Less → compare_keys b c ≡ Less → compare_keys a c ≡ Less) → Ways x y → Ways y z
        → compare_keys (x ∷ a) (z ∷ c) ≡ Less
    by r (above h) w = let g : Greater ≡ Less = sym (first_above x y a b h) ∙ p in clash (cc)
    by r (below k) (above h) = let g : Greater ≡ Less = sym (first_above y z b c h) ∙ q in clash (cc)
    by r (same k) (above h) = let g : Greater ≡ Less = sym (first_above y z b c h) ∙ q in clash (cc)
    by r (below h) (below k) = first_below x z a c (omega arith)
    by r (below h) (same k) = first_below x z a c (omega arith)
    by r (same h) (below k) = first_below x z a c (omega arith)
    by r (same h) (same k) =
        first-same x z a c (h ∙ k) ∙ r (sym (first-same x y a b h) ∙ p) (sym (first-same y z b c k) ∙ q)

-- a greater key is one that stands below when turned round
pub greater-less : (a b : List ℕ) → compare_keys a b ≡ Greater → compare_keys b a ≡ Less
greater-less a b q = compare-turned a b ∙ ap turned q

pub less-greater : (a b : List ℕ) → compare_keys a b ≡ Less → compare_keys b a ≡ Greater
less-greater a b q = compare-turned a b ∙ ap turned q

-- a key above one that is not below a third is above the third
pub above-third : (a b c : List ℕ) → compare_keys a b ≡ Less → (o : Ordering) → compare_keys a c ≡ o → (o ≡ Less → ⊥) → compare_keys b c ≡ Greater
above-third a b c q Less p n = absurd (n refl)
above-third a b c q Equal p n = rw (← compare-equal a c p) (less-greater a b q)
above-third a b c q Greater p n = less-greater c b (less-less c a b (greater-less a c p) q)

-- ---- the order by itself

abbrev pub is_less : Ordering → Bool
is_less Less = true
is_less Equal = false
is_less Greater = false

lower-below : (x y : ℕ) (s t : List ℕ) → x < y → is_below (x ∷ s) (y ∷ t) ≡ true
unfolding is_below
lower-below x y s t h = simp (lt-ltb x y h)

same-below : (x y : ℕ) (s t : List ℕ) → x ≡ y → is_below (x ∷ s) (y ∷ t) ≡ is_below s t
unfolding is_below
same-below x y s t h = simp (le-ltb x y (omega arith), eq-eqb x y h)

higher-below : (x y : ℕ) (s t : List ℕ) → y < x → is_below (x ∷ s) (y ∷ t) ≡ false
unfolding is_below
higher-below x y s t h = simp (le-ltb x y (omega arith), ne_eqb x y (λ e. omega arith))

-- a key is below another where the comparison says so
pub below-compared : (a b : List ℕ) → is_below a b ≡ is_less (compare_keys a b)
unfolding is_below compare_keys
below-compared [] [] = refl
below-compared [] (y ∷ b) = refl
below-compared (x ∷ a) [] = refl
below-compared (x ∷ a) (y ∷ b) = by (below-compared a b) (ways x y)
  where
    by : is_below a b ≡ is_less (compare_keys a b) → Ways x y → is_below (x ∷ a) (y ∷ b) ≡ is_less (compare_keys (x ∷ a) (y ∷ b))
    by r (below h) = lower-below x y a b h ∙ sym (ap is_less (first_below x y a b h))
    by r (same h) = same-below x y a b h ∙ r ∙ sym (ap is_less (first-same x y a b h))
    by r (above h) = higher-below x y a b h ∙ sym (ap is_less (first_above x y a b h))

-- Which keys lie past an upper bound, by the order of keys; a key above one that lies past it does so too. Assumes nothing.
use mathlib.Core.Path.{◌≡◌, refl}
use mathlib.Core.Bool.{true, false, not}
use mathlib.Core.List.{List}
use Prim.Native.Nat.{ℕ}
use native.Mathlib.Omega.{arith}
use Rattle.keys.specs.Keys.{compare_keys}
use Rattle.std.specs.declared.cmp.Ordering.{Ordering}
use Rattle.std.specs.declared.cmp.Ordering.TheVariants.{Less, Equal, Greater}
use Rattle.keys.proofs.OrderLaws.{turned, is_less, above-third}
use Rattle.run.specs.Bounds.{past_by, is_past}
use Rattle.run.specs.Kinds.{Bound, Unbounded, Included, Excluded}

pub past_by-unbounded : (o : Ordering) → past_by Unbounded o ≡ false
unfolding past_by
past_by-unbounded o = refl

-- above it
pub past_by-included : (o : Ordering) → past_by Included o ≡ is_less (turned o)
unfolding past_by
past_by-included Less = refl
past_by-included Equal = refl
past_by-included Greater = refl

-- not below it
pub past_by-excluded : (o : Ordering) → past_by Excluded o ≡ not (is_less o)
unfolding past_by
past_by-excluded Less = refl
past_by-excluded Equal = refl
past_by-excluded Greater = refl

-- what lies past a bound is not below it, and so is past it whatever is above it
past-tells : (bound : Bound) (o : Ordering) → past_by bound o ≡ true → (o ≡ Less → ⊥) × (past_by bound Greater ≡ true)
unfolding past_by
past-tells Unbounded o e = let z : false ≡ true = e in let w : ◌≡◌ {A = ℕ} 0 1 = cc in absurd (omega arith)
past-tells Included Less e = let z : false ≡ true = e in let w : ◌≡◌ {A = ℕ} 0 1 = cc in absurd (omega arith)
past-tells Included Equal e = let z : false ≡ true = e in let w : ◌≡◌ {A = ℕ} 0 1 = cc in absurd (omega arith)
past-tells Included Greater e = (λ q. let w : ◌≡◌ {A = ℕ} 0 1 = cc in omega arith, refl)
past-tells Excluded Less e = let z : false ≡ true = e in let w : ◌≡◌ {A = ℕ} 0 1 = cc in absurd (omega arith)
past-tells Excluded Equal e = (λ q. let w : ◌≡◌ {A = ℕ} 0 1 = cc in omega arith, refl)
past-tells Excluded Greater e = (λ q. let w : ◌≡◌ {A = ℕ} 0 1 = cc in omega arith, refl)

pub past-later : (bound : Bound) (upper a b : List ℕ) → is_past bound upper a ≡ true → compare_keys a b ≡ Less → is_past bound upper b ≡ true
past-later bound upper a b e q =
    let t = past-tells bound (compare_keys a upper) e in
    rw (above-third a b upper q _ refl t.0) t.1

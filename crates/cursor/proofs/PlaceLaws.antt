-- Places after one of them is set. Assumes nothing.
use mathlib.Core.Path.{◌≡◌, refl, ap}
use mathlib.Core.List.{List, [], ◌∷◌}
use mathlib.Core.Logic.{◌⊎◌, inl, inr}
use Prim.Native.Nat.{ℕ, zero, suc}
use native.Mathlib.Omega.{arith}
use lib.ListN.{set}
use lib.Seq.{get_or-set_other}
use Rattle.cursor.specs.Places.{gone, place_of}
use Rattle.cursor.specs.declared.place.Place.{Place}
use Rattle.cursor.specs.declared.place.Place.TheVariants.{At, Gone}
use Rattle.cursor.specs.declared.place.RunPlace.{RunPlace}

-- a place is not gone and at a position at once
pub at-gone : {A : Type 0} (x : Place) (at : ℕ) → x ≡ At at → x ≡ Gone → A
at-gone x at p q = let z : ◌≡◌ {A = ℕ} 0 1 = cc in absurd (omega arith)

pub set_other : (places : List RunPlace) (i j : ℕ) (x : RunPlace) → (j ≡ i → ⊥) → place_of (set places i x) j ≡ place_of places j
set_other places i j x n = ap (λ (y : RunPlace). y.place) (get_or-set_other places i j x gone n)

pub set-gone : (places : List RunPlace) (i : ℕ) → place_of (set places i gone) i ≡ Gone
set-gone [] i = refl
set-gone (y ∷ places) zero = refl
set-gone (y ∷ places) (suc i) = set-gone places i

-- a place past the end is not set
pub set_cases : (places : List RunPlace) (i : ℕ) (x : RunPlace) → (place_of (set places i x) i ≡ x.place) ⊎ (place_of (set places i x) i ≡ Gone)
set_cases [] i x = inr refl
set_cases (y ∷ places) zero x = inl refl
set_cases (y ∷ places) (suc i) x = set_cases places i x

-- a run that has a position is there to be set
pub set_there : (places : List RunPlace) (i at : ℕ) (x : RunPlace) → place_of places i ≡ At at → place_of (set places i x) i ≡ x.place
set_there [] i at x p = at-gone Gone at p refl
set_there (y ∷ places) zero at x p = refl
set_there (y ∷ places) (suc i) at x p = set_there places i at x p

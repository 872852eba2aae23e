-- Where a run starts. Assumes nothing.
use mathlib.Core.Path.{◌≡◌, refl}
use mathlib.Core.List.{List}
use Prim.Native.Nat.{ℕ, zero, suc, ◌-◌}
use native.Mathlib.Omega.{arith}
use Rattle.cursor.specs.Runs.{start_of, end_of}

pub start_first : (ends : List ℕ) (i : ℕ) → i ≡ 0 → 0 ≡ start_of ends i
unfolding start_of
start_first ends i e = rw e

pub start-later : (ends : List ℕ) (i : ℕ) → (i ≡ 0 → ⊥) → end_of ends (i - 1) ≡ start_of ends i
unfolding start_of
start-later ends zero n = absurd (n refl)
start-later ends (suc i) n = let z : suc i - 1 ≡ i = omega arith in rw z

-- What one check after another says: the first that refuses, and fine only where all are. Assumes nothing.
use mathlib.Core.Path.{◌≡◌, refl}
use mathlib.Core.Bool.{Bool, true, false}
use Prim.Native.Nat.{ℕ}
use native.Mathlib.Omega.{arith}
use Rattle.std.specs.Prelude.{Err}
use Rattle.types.specs.Checks.{Verdict, fine, asking}
use Rattle.types.specs.declared.refusal.Refusal.{Refusal}

-- fine only where its test holds and the checks after it are fine
pub asking-fine : (test : Bool) (why : Refusal) (later : Verdict) → asking test why later ≡ fine → (test ≡ true) × (later ≡ fine)
asking-fine true why later f = (refl, f)
asking-fine false why later f = let z : ◌≡◌ {A = ℕ} 0 1 = cc in absurd (omega arith)

-- where a check refuses by itself, it refuses before those after it
pub asking-refused : (test : Bool) (why w : Refusal) (later : Verdict) → asking test why fine ≡ Err w → asking test why later ≡ Err w
asking-refused true why w later refused = let z : ◌≡◌ {A = ℕ} 0 1 = cc in absurd (omega arith)
asking-refused false why w later refused = refused

-- where it is fine by itself, those after it say
pub asking-later : (test : Bool) (why : Refusal) (later : Verdict) → asking test why fine ≡ fine → asking test why later ≡ later
asking-later true why later f = refl
asking-later false why later f = let z : ◌≡◌ {A = ℕ} 0 1 = cc in absurd (omega arith)

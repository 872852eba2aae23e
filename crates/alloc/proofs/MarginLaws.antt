-- The difference of two numbers of pages, as code computes it. Assumes nothing.
use mathlib.Core.Path.{◌≡◌}
use mathlib.Core.Bool.{Bool, true, false, cond}
use Prim.Native.Nat.{ℕ, zero, suc, ◌-◌, ◌≤◌}
use native.Mathlib.Omega.{arith}
use lib.Dec.{ltb}
use lib.IntN.{pos, negsuc, ◌-ℤ◌}
use lib.Signed.{mag}
use mir.Facts.{to_z_pos, to_z-of_z}
use mir.Syntax.{w64}
use mir.Val.{SFits, to_z, of_z}
use Rattle.alloc.proofs.StateLaws.{fine-wanted, used_le}
use Rattle.types.specs.Build.{max_page_count}

mag-sub : (m n : ℕ) → m ≤ max_page_count → n ≤ max_page_count → mag (pos m -ℤ pos n) ≤ max_page_count
mag-sub m zero h k = omega arith
mag-sub m (suc n) h k = side (ltb m (suc n)) (suc n - suc m) (m - suc n) (omega arith) (omega arith)
  where
    side : (t : Bool) (x y : ℕ) → x ≤ max_page_count → y ≤ max_page_count → mag (cond t (negsuc x) (pos y)) ≤ max_page_count
    side true x y a b = a
    side false x y a b = b

-- a number of pages is a signed number
pub small : (n : ℕ) → n ≤ max_page_count → SFits w64 (pos n)
small n h = record { sfits = omega arith }

-- the difference of two numbers of pages is a signed number too, and is read back as it is
module _ (m n : ℕ) (few : m ≤ max_page_count) (wanted : n ≤ max_page_count) where
  margin-is : to_z w64 m -ℤ to_z w64 n ≡ pos m -ℤ pos n
  margin-is = rw (to_z_pos w64 {n = m} (omega arith), to_z_pos w64 {n = n} (omega arith))

  margin-small : SFits w64 (pos m -ℤ pos n)
  margin-small = let l : mag (pos m -ℤ pos n) ≤ max_page_count = mag-sub m n few wanted in record { sfits = omega arith }

  pub margin-fits : SFits w64 (to_z w64 m -ℤ to_z w64 n)
  margin-fits = rw margin-is margin-small

  pub margin-read : to_z w64 (of_z w64 (to_z w64 m -ℤ to_z w64 n)) ≡ pos m -ℤ pos n
  margin-read = rw margin-is (to_z-of_z margin-small)

-- the margin of an allocator in range
pub ruleset margins = (fine-wanted, used_le, small, margin-fits, margin-read)

-- The order that std gives two lists of bytes is the order of keys. Assumes nothing.
use mathlib.Core.Path.{◌≡◌, refl}
use mathlib.Core.Bool.{cond}
use mathlib.Core.List.{List, [], ◌∷◌}
use Prim.Native.Nat.{ℕ}
use native.Mathlib.Omega.{arith}
use lib.Dec.{ltb}
use Rattle.std.proofs.lemmas.Bool.Decides.{nat_tests}
use Rattle.std.specs.Cmp.Lexicographic.{slice_cmp}
use Rattle.std.specs.Ordering.{nat_cmp, ordering_then}
use Rattle.std.specs.declared.cmp.Ordering.{Ordering}
use Rattle.std.specs.declared.cmp.Ordering.TheVariants.{Less, Greater}
use Rattle.keys.specs.Keys.{compare_keys}

first_byte : (x y : ℕ) (s k : Ordering) → s ≡ k → ordering_then (nat_cmp x y) s ≡ cond (ltb x y) Less (cond (ltb y x) Greater k)
first_byte x y s k e = grind (arith, nat_tests)

pub as_std : (a b : List ℕ) → slice_cmp nat_cmp a b ≡ compare_keys a b
unfolding compare_keys
as_std [] [] = refl
as_std [] (y ∷ b) = refl
as_std (x ∷ a) [] = refl
as_std (x ∷ a) (y ∷ b) = first_byte x y (slice_cmp nat_cmp a b) (compare_keys a b) (as_std a b)

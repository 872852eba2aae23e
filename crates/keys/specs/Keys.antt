-- The order of keys: bytewise, a prefix first (docs/FORMAT.md, Runs). Assumes nothing.
use Rattle.std.specs.Prelude.{Bool, true, false, cond, ◌&&◌, ◌||◌, List, [], ◌∷◌, ℕ, ltb, eqb}
use Rattle.std.specs.declared.cmp.Ordering.{Ordering}
use Rattle.std.specs.declared.cmp.Ordering.TheVariants.{Less, Equal, Greater}

-- how the first key stands to the second
unfoldable pub compare_keys : List ℕ → List ℕ → Ordering
compare_keys [] [] = Equal
compare_keys [] (b ∷ t) = Less
compare_keys (a ∷ s) [] = Greater
compare_keys (a ∷ s) (b ∷ t) = cond (ltb a b) Less (cond (ltb b a) Greater (compare_keys s t))

-- whether the first key is below the second: lower at the first byte that differs, or the second one's start
unfoldable pub is_below : List ℕ → List ℕ → Bool
is_below [] [] = false
is_below [] (b ∷ t) = true
is_below (a ∷ s) [] = false
is_below (a ∷ s) (b ∷ t) = ltb a b || (eqb a b && is_below s t)

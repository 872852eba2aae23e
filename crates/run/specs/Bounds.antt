-- Bounds: none, included, excluded (docs/RULES.md, Runs). The bound's key may have any length. Assumes nothing.
use Rattle.std.specs.Prelude.{Bool, true, false, List, ℕ}
use Rattle.keys.specs.Keys.{compare_keys}
use Rattle.run.specs.Kinds.{Bound, Unbounded, Included, Excluded}
use Rattle.std.specs.declared.cmp.Ordering.{Ordering}
use Rattle.std.specs.declared.cmp.Ordering.TheVariants.{Less, Equal, Greater}

-- whether a key that stands so to the upper bound lies past it
unfoldable pub past_by : Bound → Ordering → Bool
past_by Unbounded o = false
past_by Included Less = false
past_by Included Equal = false
past_by Included Greater = true
past_by Excluded Less = false
past_by Excluded Equal = true
past_by Excluded Greater = true

-- whether a key lies past an upper bound
abbrev pub is_past : Bound → List ℕ → List ℕ → Bool
is_past bound upper key = past_by bound (compare_keys key upper)

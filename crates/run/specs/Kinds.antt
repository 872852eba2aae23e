-- A bound of a merge, which std's `Bound` lends, taken apart into its kind and its key (docs/RULES.md, Runs). Assumes nothing.
use Rattle.std.specs.Prelude.{List, [], ℕ}
use Rattle.std.specs.declared.ops.Bound as std
use Rattle.std.specs.declared.ops.Bound.TheVariants as lent

pub data Bound : Type 0 where
  Unbounded : Bound
  Included : Bound
  Excluded : Bound

-- the kind of a bound
abbrev pub kind_of : {A : Type 0} → std.Bound A → Bound
kind_of lent.Unbounded = Unbounded
kind_of (lent.Included key) = Included
kind_of (lent.Excluded key) = Excluded

-- its key; where there is no bound, the key without bytes
abbrev pub key_of : std.Bound (List ℕ) → List ℕ
key_of lent.Unbounded = []
key_of (lent.Included key) = key
key_of (lent.Excluded key) = key

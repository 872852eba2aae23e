-- Two small runs to merge, a = 1 and c = 3 under a deleted and b = 2, as items, and the pairs that come of them. Assumes nothing.
use Rattle.std.specs.Prelude.{false, ℕ, zero, suc, replicate}
use mathlib.Core.List.{List, [], ◌∷◌, flatten}
use Rattle.types.specs.Build.{max_key_size, max_value_size}
use Rattle.run.specs.Items.{Item}
use Rattle.run.specs.RecordTable.{live_a, deleted_a}
use Rattle.cursor.specs.Merged.{Pair}
use Rattle.cursor.specs.ReferenceCases.{both_runs, ends_from}

-- the buffer that holds both runs, and where they end in it
unfoldable pub worked_bytes : List ℕ
worked_bytes = flatten both_runs

unfoldable pub worked_ends : List ℕ
worked_ends = ends_from 0 both_runs

-- what each of them says, the older first
unfoldable pub worked_items : ℕ → List Item
worked_items zero = live_a.says ∷ record { deleted = false; key = 0x63 ∷ []; value = 0x33 ∷ [] } ∷ []
worked_items (suc zero) = deleted_a.says ∷ record { deleted = false; key = 0x62 ∷ []; value = 0x32 ∷ [] } ∷ []
worked_items (suc (suc i)) = []

-- room for any key, and for any value
unfoldable pub key_buffer : List ℕ
key_buffer = replicate max_key_size 0

unfoldable pub value_buffer : List ℕ
value_buffer = replicate max_value_size 0

-- b = 2 and c = 3
unfoldable pub worked_pairs : List Pair
worked_pairs = record { key = 0x62 ∷ []; value = 0x32 ∷ [] } ∷ record { key = 0x63 ∷ []; value = 0x33 ∷ [] } ∷ []

-- What a merge is for, said without passes and places: calls of next hand out the live keys of all runs together, the
-- newest run deciding each key, in rising order, each once. Assumes nothing.
use Rattle.std.specs.Prelude.{◌≡◌, Bool, true, ◌&&◌, not, List, [], ◌∷◌, ◌⊎◌, ℕ, zero, suc, length, take, Ok, Some, None}
use Rattle.run.specs.Items.{Item, Said, nothing, deleted, live, said_in}
use Rattle.keys.specs.Keys.{compare_keys, is_below}
use Rattle.run.specs.Kinds.{Bound, Unbounded, Included, Excluded}
use Rattle.std.specs.declared.cmp.Ordering.TheVariants.{Less}
use Rattle.cursor.specs.Next.{next_of, next_key, next_value}
use Rattle.cursor.specs.declared.place.Cursor.{Cursor}

-- ---- the runs together

unfoldable pub or_else : Said → Said → Said
or_else nothing older = older
or_else deleted older = deleted
or_else (live value) older = live value

-- what the runs below number i say of a key: the newest that has it decides
unfoldable pub said : List ℕ → ℕ → (ℕ → List Item) → Said
said key zero items = nothing
said key (suc i) items = or_else (said_in key (items i)) (said key i items)

-- ---- the bounds

-- whether a key lies over a lower bound: it is not below an included one, and above an excluded one
unfoldable pub over_lower : Bound → List ℕ → List ℕ → Bool
over_lower Unbounded lower key = true
over_lower Included lower key = not (is_below key lower)
over_lower Excluded lower key = is_below lower key

-- whether a key lies under an upper bound: it is not above an included one, and below an excluded one
unfoldable pub under_upper : Bound → List ℕ → List ℕ → Bool
under_upper Unbounded upper key = true
under_upper Included upper key = not (is_below upper key)
under_upper Excluded upper key = is_below key upper

-- whether a key lies within both bounds
abbrev pub between : Bound → List ℕ → Bound → List ℕ → List ℕ → Bool
between low lower high upper key = over_lower low lower key && under_upper high upper key

-- ---- what is handed out

pub record Pair : Type 0 where
  pub key : List ℕ
  pub value : List ℕ

-- calls of next, each from where the one before left the cursor and the buffers, hand out these pairs, and then the end
pub data Hands (bytes ends : List ℕ) (bound : Bound) (upper : List ℕ) : Cursor → List ℕ → List ℕ → List Pair → Type 0 where
  end : {c : Cursor} {key value : List ℕ} → (next_of bytes ends bound upper c (length key) (length value)).answer ≡ Ok None
      → Hands bytes ends bound upper c key value []
  entry : {c : Cursor} {key value : List ℕ} {pairs : List Pair} (k v : ℕ)
      → (next_of bytes ends bound upper c (length key) (length value)).answer ≡ Ok (Some (record { key_len = k; value_len = v }))
      → Hands bytes ends bound upper (next_of bytes ends bound upper c (length key) (length value)).cursor
      (next_key bytes ends bound upper c key value) (next_value bytes ends bound upper c key value) pairs
      → Hands bytes ends bound upper c key value
      (record { key = take k (next_key bytes ends bound upper c key value); value = take v (next_value bytes ends bound upper c key value) } ∷ pairs)

unfoldable pub Among : Pair → List Pair → Type 0
Among x [] = ⊥
Among x (y ∷ pairs) = (x ≡ y) ⊎ Among x pairs

-- each key is below all later ones, so that no key comes twice
unfoldable pub BelowPairs : List ℕ → List Pair → Type 0
BelowPairs key [] = Unit {0}
BelowPairs key (x ∷ pairs) = (compare_keys key x.key ≡ Less) × BelowPairs key pairs

unfoldable pub RisingPairs : List Pair → Type 0
RisingPairs [] = Unit {0}
RisingPairs (x ∷ pairs) = BelowPairs x.key pairs × RisingPairs pairs

-- exactly the keys within the bounds that the runs together say are live, with their values, in rising order
pub record Merged (runs : ℕ) (items : ℕ → List Item) (taken : List ℕ → Bool) (pairs : List Pair) : Type 0 where
  pub rising : RisingPairs pairs
  pub sound : (x : Pair) → Among x pairs → (taken x.key ≡ true) × (said x.key runs items ≡ live x.value)
  pub complete : (x : Pair) → taken x.key ≡ true → said x.key runs items ≡ live x.value → Among x pairs

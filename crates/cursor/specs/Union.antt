-- The runs together as one list of items, a newer run laid over the older ones, and its live pairs: the list that a merge
-- hands out. Assumes nothing.
use Rattle.std.specs.Prelude.{Bool, cond, List, [], ◌∷◌, ℕ, zero, suc}
use Rattle.run.specs.Items.{Item}
use Rattle.keys.specs.Keys.{compare_keys}
use Rattle.std.specs.declared.cmp.Ordering.{Ordering}
use Rattle.std.specs.declared.cmp.Ordering.TheVariants.{Less, Equal, Greater}
use Rattle.cursor.specs.Merged.{Pair}

abbrev pub by_order : Ordering → List Item → List Item → List Item → List Item
by_order Less below level above = below
by_order Equal below level above = level
by_order Greater below level above = above

-- an item and a newer list behind it, laid over an older list; the newer list laid over any other is at hand
unfoldable pub laid_first : Item → List Item → (List Item → List Item) → List Item → List Item
laid_first x newer laid [] = x ∷ newer
laid_first x newer laid (y ∷ older) =
    by_order (compare_keys x.key y.key) (x ∷ laid (y ∷ older)) (x ∷ laid older) (y ∷ laid_first x newer laid older)

-- a newer list laid over an older one: the lower key first, and of equal keys the newer item alone
unfoldable pub laid : List Item → List Item → List Item
laid [] older = older
laid (x ∷ newer) older = laid_first x newer (λ rest. laid newer rest) older

-- the runs below number i together
unfoldable pub union : ℕ → (ℕ → List Item) → List Item
union zero items = []
union (suc i) items = laid (items i) (union i items)

-- the items whose keys are taken
unfoldable pub kept : (List ℕ → Bool) → List Item → List Item
kept taken [] = []
kept taken (x ∷ items) = cond (taken x.key) (x ∷ kept taken items) (kept taken items)

-- the pairs of these items, without the deletions
unfoldable pub lives : List Item → List Pair
lives [] = []
lives (x ∷ items) = cond x.deleted (lives items) (record { key = x.key; value = x.value } ∷ lives items)

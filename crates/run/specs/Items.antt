-- A run as the list of its items: what it says, without positions. Assumes nothing.
use Rattle.std.specs.Prelude.{◌≡◌, Bool, cond, List, [], ◌∷◌, ℕ, Ok, Some, None}
use Rattle.keys.specs.Keys.{compare_keys}
use Rattle.run.specs.Records.{head_at, key_in, value_in}
use Rattle.std.specs.declared.cmp.Ordering.{Ordering}
use Rattle.std.specs.declared.cmp.Ordering.TheVariants.{Less, Equal, Greater}
use Rattle.run.specs.declared.record.Record.{Record}

-- what a record says: a key, and that it is deleted or what its value is
pub record Item : Type 0 where
  pub deleted : Bool
  pub key : List ℕ
  pub value : List ℕ

abbrev pub item_in : List ℕ → Record → Item
item_in run r = record { deleted = r.deleted; key = key_in run r; value = value_in run r }

-- from a position on a run is read to its end, and has these items
pub data Reads (run : List ℕ) : ℕ → List Item → Type 0 where
  end : {at : ℕ} → head_at run at ≡ Ok None → Reads run at []
  more : {at : ℕ} {items : List Item} (r : Record) → head_at run at ≡ Ok (Some r) → Reads run r.next items
      → Reads run at (item_in run r ∷ items)

-- a key is below those of all these items
unfoldable pub Below : List ℕ → List Item → Type 0
Below key [] = Unit {0}
Below key (x ∷ items) = (compare_keys key x.key ≡ Less) × Below key items

-- keys rise strictly: each is below all later ones
unfoldable pub Rising : List Item → Type 0
Rising [] = Unit {0}
Rising (x ∷ items) = Below x.key items × Rising items

-- what is said of a key: nothing, that it is deleted, or its value
pub data Said : Type 0 where
  nothing : Said
  deleted : Said
  live : List ℕ → Said

abbrev pub said_by : Item → Said
said_by x = cond x.deleted deleted (live x.value)

-- the first item with the key counts
unfoldable pub said_at : Ordering → Item → Said → Said
said_at Less x later = later
said_at Equal x later = said_by x
said_at Greater x later = later

unfoldable pub said_in : List ℕ → List Item → Said
said_in key [] = nothing
said_in key (x ∷ items) = said_at (compare_keys key x.key) x (said_in key items)

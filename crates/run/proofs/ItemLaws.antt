-- Lists of items, item by item: keys below all of them, keys that rise, and what is said of a key. Assumes nothing.
use mathlib.Core.Path.{◌≡◌, refl, ◌∙◌}
use mathlib.Core.List.{List, [], ◌∷◌}
use Prim.Native.Nat.{ℕ}
use Rattle.keys.specs.Keys.{compare_keys}
use Rattle.std.specs.declared.cmp.Ordering.TheVariants.{Less, Equal, Greater}
use Rattle.keys.proofs.OrderLaws.{less-less}
use Rattle.run.specs.Items.{Item, Below, Rising, nothing, said_by, said_at, said_in}

-- ---- a key below all items

pub below_none : (key : List ℕ) → Below key []
unfolding Below
below_none key = tt

module _ (key : List ℕ) (x : Item) (items : List Item) where
  pub below_more : compare_keys key x.key ≡ Less → Below key items → Below key (x ∷ items)
  unfolding Below
  below_more first rest = (first, rest)

  pub below-first : Below key (x ∷ items) → compare_keys key x.key ≡ Less
  unfolding Below
  below-first h = h.0

  pub below_rest : Below key (x ∷ items) → Below key items
  unfolding Below
  below_rest h = h.1

-- a key below another is below all items that the other is below
pub below_less : (a b : List ℕ) (items : List Item) → compare_keys a b ≡ Less → Below b items → Below a items
below_less a b [] q h = below_none a
below_less a b (x ∷ items) q h = below_more a x items (less-less a b x.key q (below-first b x items h)) (below_less a b items q (below_rest b x items h))

-- ---- rising keys

pub rising_none : Rising []
unfolding Rising
rising_none = tt

module _ (x : Item) (items : List Item) where
  pub rising-more : Below x.key items → Rising items → Rising (x ∷ items)
  unfolding Rising
  rising-more first rest = (first, rest)

  pub rising-first : Rising (x ∷ items) → Below x.key items
  unfolding Rising
  rising-first h = h.0

  pub rising-rest : Rising (x ∷ items) → Rising items
  unfolding Rising
  rising-rest h = h.1

-- ---- what is said of a key

pub said_in-none : (key : List ℕ) → said_in key [] ≡ nothing
unfolding said_in
said_in-none key = refl

module _ (key : List ℕ) (x : Item) (items : List Item) where
  pub said_in-less : compare_keys key x.key ≡ Less → said_in key (x ∷ items) ≡ said_in key items
  unfolding said_in said_at
  said_in-less q = rw q

  pub said_in-equal : compare_keys key x.key ≡ Equal → said_in key (x ∷ items) ≡ said_by x
  unfolding said_in said_at
  said_in-equal q = rw q

  pub said_in-greater : compare_keys key x.key ≡ Greater → said_in key (x ∷ items) ≡ said_in key items
  unfolding said_in said_at
  said_in-greater q = rw q

-- nothing is said of a key below all items
pub said_in-below : (key : List ℕ) (items : List Item) → Below key items → said_in key items ≡ nothing
said_in-below key [] h = said_in-none key
said_in-below key (x ∷ items) h = said_in-less key x items (below-first key x items h) ∙ said_in-below key items (below_rest key x items h)

-- What a run shows from a place on under an upper bound, as items; on rising keys, those of its items that the bounds
-- take. Assumes nothing.
use Rattle.std.specs.Prelude.{Ok, Err, Some, None}
use Rattle.std.specs.declared.option.Option.{Option}
use Rattle.std.specs.declared.result.Result.{Result}
use mathlib.Core.Path.{◌≡◌, refl, sym, ◌∙◌}
use mathlib.Core.Bool.{Bool, true, false, cond, not}
use mathlib.Core.List.{List, [], ◌∷◌}
use Prim.Native.Nat.{ℕ, zero, suc, ◌-◌, ◌≤◌, ◌<◌}
use native.Mathlib.Omega.{arith}
use lib.ListN.{length}
use Rattle.types.specs.declared.refusal.Refusal.{Refusal}
use Rattle.run.specs.Bounds.{is_past}
use Rattle.run.specs.Items.{Item, item_in, Reads, end, more, Below, Rising}
use Rattle.keys.specs.Keys.{compare_keys}
use Rattle.run.specs.Records.{head_at, key_in}
use Rattle.run.specs.Search.{sought_by, sought_from, search_in}
use Rattle.run.specs.Kinds.{Bound, Unbounded, Included, Excluded}
use Rattle.std.specs.declared.cmp.Ordering.{Ordering}
use Rattle.std.specs.declared.cmp.Ordering.TheVariants.{Less, Equal, Greater}
use Rattle.run.specs.declared.record.Record.{Record}
use Rattle.run.proofs.FitLaws.{head-lies}
use Rattle.run.proofs.ItemLaws.{rising-first, rising-rest}
use Rattle.run.proofs.SearchLaws.{search_in-unbounded, search_in-included, search_in-excluded, sought_from-end, sought_from-record, sought_by-less, sought_by-equal, sought_by-greater}
use Rattle.cursor.specs.Pass.{look_by, look_head, look_at, Lowest}
use Rattle.cursor.specs.Union.{kept}
use Rattle.cursor.specs.declared.look.Look.TheVariants as look
use Rattle.cursor.specs.declared.place.Place.{Place}
use Rattle.cursor.specs.declared.place.Place.TheVariants.{At, Gone}
use Rattle.cursor.proofs.BoundLaws.{within, kept-past, reaches_by, reaches, kept-unbounded, kept-reached}
use Rattle.cursor.proofs.PlaceLaws.{at-gone}

module _ (run : List ℕ) (bound : Bound) (upper : List ℕ) where
  pub data Shows : Place → List Item → Type 0 where
    none : Shows Gone []
    ended : {at : ℕ} → head_at run at ≡ Ok None → Shows (At at) []
    past : {at : ℕ} (r : Record) → head_at run at ≡ Ok (Some r) → is_past bound upper (key_in run r) ≡ true → Shows (At at) []
    item : {at : ℕ} {items : List Item} (r : Record) → head_at run at ≡ Ok (Some r) → is_past bound upper (key_in run r) ≡ false
        → Shows (At r.next) items → Shows (At at) (item_in run r ∷ items)

  -- ---- what a look sees of it

  one-head : (at : ℕ) (r r' : Record) → head_at run at ≡ Ok (Some r) → head_at run at ≡ Ok (Some r') → r ≡ r'
  one-head at r r' p q = let e : Ok (Some r) ≡ Ok (Some r') = sym p ∙ q in cc

  -- at a record within the bound the first item is that record
  pub shows-item : (place : Place) (items : List Item) → Shows place items → (at : ℕ) → place ≡ At at → (r : Record)
      → head_at run at ≡ Ok (Some r) → is_past bound upper (key_in run r) ≡ false
      → (rest : List Item) × (items ≡ item_in run r ∷ rest) × Shows (At r.next) rest
  shows-item _ _ none at p r h w = at-gone Gone at p refl
  shows-item _ _ (ended {at = from} g) at p r h w =
      let e : from ≡ at = cc in
      let z : (Ok None) ≡ Ok (Some r) = sym g ∙ rw e h in
      let y : ◌≡◌ {A = ℕ} 0 1 = cc in
      absurd (omega arith)
  shows-item _ _ (past {at = from} x g t) at p r h w =
      let e : from ≡ at = cc in
      let s : x ≡ r = one-head at x r (rw e at g) h in
      let z : true ≡ false = sym t ∙ rw s w in
      let y : ◌≡◌ {A = ℕ} 0 1 = cc in
      absurd (omega arith)
  shows-item _ _ (item {at = from} {items = rest} x g t s) at p r h w =
      let e : from ≡ at = cc in
      let q : x ≡ r = one-head at x r (rw e at g) h in
      (rest, rw q, rw q at s)

  -- a run that shows items has a position
  pub shows-at : (place : Place) (x : Item) (items : List Item) → Shows place (x ∷ items) → (at : ℕ) × (place ≡ At at)
  shows-at _ x items (item {at = at} r g t s) = (at, refl)

  module _ (lowest : Lowest) (low : List ℕ) where
    not-gone : (o : Ordering) (r : Record) → look_by o r ≡ Ok look.Gone → ⊥
    unfolding look_by
    not-gone Less r e = let z : ◌≡◌ {A = ℕ} 0 1 = cc in omega arith
    not-gone Equal r e = let z : ◌≡◌ {A = ℕ} 0 1 = cc in omega arith
    not-gone Greater r e = let z : ◌≡◌ {A = ℕ} 0 1 = cc in omega arith

    not-refused : (o : Ordering) (r : Record) (why : Refusal) → look_by o r ≡ Err why → ⊥
    unfolding look_by
    not-refused Less r why e = let z : ◌≡◌ {A = ℕ} 0 1 = cc in omega arith
    not-refused Equal r why e = let z : ◌≡◌ {A = ℕ} 0 1 = cc in omega arith
    not-refused Greater r why e = let z : ◌≡◌ {A = ℕ} 0 1 = cc in omega arith

    -- a run without a head shows no items
    pub shows-none : (place : Place) (items : List Item) → Shows place items → look_at run place bound upper lowest low ≡ Ok look.Gone → items ≡ []
    unfolding look_at look_head
    shows-none _ _ none e = refl
    shows-none _ _ (ended g) e = refl
    shows-none _ _ (past x g t) e = refl
    shows-none _ _ (item x g t s) e = absurd (not-gone _ x (rw (g, t) at e))

    -- a run that shows items is not refused
    pub shows-fine : (place : Place) (items : List Item) → Shows place items → (why : Refusal) → look_at run place bound upper lowest low ≡ Err why → ⊥
    unfolding look_at look_head
    shows-fine _ _ none why e = let z : ◌≡◌ {A = ℕ} 0 1 = cc in omega arith
    shows-fine _ _ (ended g) why e = let w : (Ok look.Gone) ≡ Err why = rw g at e in let z : ◌≡◌ {A = ℕ} 0 1 = cc in omega arith
    shows-fine _ _ (past x g t) why e = let w : (Ok look.Gone) ≡ Err why = rw (g, t) at e in let z : ◌≡◌ {A = ℕ} 0 1 = cc in omega arith
    shows-fine _ _ (item x g t s) why e = not-refused _ x why (rw (g, t) at e)

  -- ---- from the run's items

  -- a run that reads to its end shows the items within the bound
  pub reads-shows : (at : ℕ) (items : List Item) → Reads run at items → Rising items → Shows (At at) (kept (within bound upper) items)
  unfolding kept
  reads-shows at _ (end g) h = ended g
  reads-shows at _ (more {items = items} r g s) h = by _ refl (reads-shows r.next items s (rising-rest (item_in run r) items h))
    where
      by : (t : Bool) → is_past bound upper (key_in run r) ≡ t → Shows (At r.next) (kept (within bound upper) items)
          → Shows (At at) (cond (not t) (item_in run r ∷ kept (within bound upper) items) (kept (within bound upper) items))
      by true t k = rw (kept-past bound upper (key_in run r) items t (rising-first (item_in run r) items h)) (past r g t)
      by false t k = item r g t k

-- ---- the search for a lower bound

-- where a run starts: at a position from which it reads these items, or gone with none left
abbrev pub Starts : List ℕ → List Item → Result (Option ℕ) Refusal → Type 0
Starts run items (Ok None) = items ≡ []
Starts run items (Ok (Some at)) = (at ≤ length run) × Reads run at items
Starts run items (Err why) = ⊥

module _ (run : List ℕ) (lower : List ℕ) where
  -- a record whose key stands so to the bound
  module _ (at : ℕ) (r : Record) (items : List Item) (g : head_at run at ≡ Ok (Some r)) (s : Reads run r.next items)
      (b : Below (key_in run r) items) (later : ℕ → (Result (Option ℕ) Refusal)) where
    -- the record itself is the first item taken
    taken_here : (bound : Bound) → (compare_keys (key_in run r) lower ≡ Less → ⊥)
        → (at ≤ length run) × Reads run at (item_in run r ∷ kept (reaches bound lower) items)
    taken_here bound n =
        let l = head-lies run at r g in
        (omega arith, rw (kept-reached bound lower (key_in run r) items n b) (more r g s))

    starts_by : (bound : Bound) → (bound ≡ Unbounded → ⊥) → Starts run (kept (reaches bound lower) items) (later r.next)
        → (o : Ordering) → compare_keys (key_in run r) lower ≡ o
        → Starts run (cond (reaches_by bound o) (item_in run r ∷ kept (reaches bound lower) items) (kept (reaches bound lower) items))
        (sought_by o bound at r.next later)
    unfolding reaches_by
    starts_by Unbounded n k o q = absurd (n refl)
    starts_by Included n k Less q = rw (sought_by-less Included at r.next later) k
    starts_by Included n k Equal q =
        rw (sought_by-equal Included at r.next later)
        (taken_here Included (λ e. let z : Less ≡ Equal = sym e ∙ q in let y : ◌≡◌ {A = ℕ} 0 1 = cc in omega arith))
    starts_by Included n k Greater q =
        rw (sought_by-greater Included at r.next later)
        (taken_here Included (λ e. let z : Less ≡ Greater = sym e ∙ q in let y : ◌≡◌ {A = ℕ} 0 1 = cc in omega arith))
    starts_by Excluded n k Less q = rw (sought_by-less Excluded at r.next later) k
    starts_by Excluded n k Equal q =
        let l = head-lies run at r g in
        rw (sought_by-equal Excluded at r.next later)
        (l.end, rw (kept-reached Excluded lower (key_in run r) items (λ e. let z : Less ≡ Equal = sym e ∙ q in let y : ◌≡◌ {A = ℕ} 0 1 = cc in omega arith) b) s)
    starts_by Excluded n k Greater q =
        rw (sought_by-greater Excluded at r.next later)
        (taken_here Excluded (λ e. let z : Less ≡ Greater = sym e ∙ q in let y : ◌≡◌ {A = ℕ} 0 1 = cc in omega arith))

  starts_from : (bound : Bound) → (bound ≡ Unbounded → ⊥) → (at : ℕ) (items : List Item) → Reads run at items → Rising items
      → (heads : ℕ) → length run - at < heads → Starts run (kept (reaches bound lower) items) (sought_from heads run bound lower at)
  unfolding kept
  starts_from bound n at _ (end g) h zero m = absurd (omega arith)
  starts_from bound n at _ (end g) h (suc heads) m = rw (sought_from-end run lower heads bound at g) refl
  starts_from bound n at _ (more {items = items} r g s) h zero m = absurd (omega arith)
  starts_from bound n at _ (more {items = items} r g s) h (suc heads) m =
      let l = head-lies run at r g in
      rw (sought_from-record run lower heads bound at r g)
      (starts_by at r items g s (rising-first (item_in run r) items h) (λ next. sought_from heads run bound lower next) bound n
      (starts_from bound n r.next items s (rising-rest (item_in run r) items h) heads (omega arith)) _ refl)

  -- a run of rising keys starts at the first item that the bound takes
  pub starts : (bound : Bound) (items : List Item) → Reads run 0 items → Rising items → Starts run (kept (reaches bound lower) items) (search_in run bound lower)
  starts Unbounded items s h = rw (search_in-unbounded run lower) (omega arith, rw (kept-unbounded lower items) s)
  starts Included items s h =
      rw (search_in-included run lower)
      (starts_from Included (λ e. let y : ◌≡◌ {A = ℕ} 0 1 = cc in omega arith) 0 items s h (suc (length run)) (omega arith))
  starts Excluded items s h =
      rw (search_in-excluded run lower)
      (starts_from Excluded (λ e. let y : ◌≡◌ {A = ℕ} 0 1 = cc in omega arith) 0 items s h (suc (length run)) (omega arith))

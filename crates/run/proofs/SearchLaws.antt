-- The search for a lower bound, head by head, and one turn of its loop. Assumes nothing.
use Rattle.std.specs.Prelude.{Ok, Err, Some, None}
use Rattle.std.specs.declared.option.Option.{Option}
use Rattle.std.specs.declared.result.Result.{Result}
use Rattle.types.specs.declared.refusal.Refusal.{Refusal}
use mathlib.Core.Path.{◌≡◌, refl, sym, ◌∙◌}
use mathlib.Core.List.{List}
use mathlib.Core.Logic.{◌⊎◌, inl, inr}
use Prim.Native.Nat.{ℕ, zero, suc, ◌-◌, ◌≤◌, ◌<◌}
use native.Mathlib.Omega.{arith}
use lib.ListN.{length}
use Rattle.keys.specs.Keys.{compare_keys}
use Rattle.run.specs.Records.{record_header_size, head_at, key_in, Head}
use Rattle.run.specs.Search.{level_at, sought_by, sought_head, sought_from, search_in}
use Rattle.run.specs.Kinds.{Bound, Unbounded, Included, Excluded, kind_of, key_of}
use Rattle.std.specs.Range.Bound.{bound_map}
use Rattle.std.specs.declared.ops.Bound as std
use Rattle.std.specs.declared.ops.Bound.TheVariants as lent
use Rattle.std.specs.declared.cmp.Ordering.{Ordering}
use Rattle.std.specs.declared.cmp.Ordering.TheVariants.{Less, Equal, Greater}
use Rattle.run.specs.declared.record.Record.{Record}
use Rattle.run.proofs.FitLaws.{Lies, head-lies}

-- ---- what the search comes to

module _ (run lower : List ℕ) where
  pub search_in-unbounded : search_in run Unbounded lower ≡ Ok (Some 0)
  unfolding search_in
  search_in-unbounded = refl

  pub search_in-included : search_in run Included lower ≡ sought_from (suc (length run)) run Included lower 0
  unfolding search_in
  search_in-included = refl

  pub search_in-excluded : search_in run Excluded lower ≡ sought_from (suc (length run)) run Excluded lower 0
  unfolding search_in
  search_in-excluded = refl

  module _ (heads : ℕ) (bound : Bound) (at : ℕ) where
    pub sought_from-end : head_at run at ≡ Ok None → sought_from (suc heads) run bound lower at ≡ Ok None
    unfolding sought_from sought_head
    sought_from-end g = rw g

    pub sought_from-record : (r : Record) → head_at run at ≡ Ok (Some r)
        → sought_from (suc heads) run bound lower at
        ≡ sought_by (compare_keys (key_in run r) lower) bound at r.next (λ next. sought_from heads run bound lower next)
    unfolding sought_from sought_head
    sought_from-record r g = rw g

module _ (bound : Bound) (at next : ℕ) (later : ℕ → (Result (Option ℕ) Refusal)) where
  pub sought_by-less : sought_by Less bound at next later ≡ later next
  unfolding sought_by
  sought_by-less = refl

  pub sought_by-equal : sought_by Equal bound at next later ≡ Ok (Some (level_at bound at next))
  unfolding sought_by
  sought_by-equal = refl

  pub sought_by-greater : sought_by Greater bound at next later ≡ Ok (Some at)
  unfolding sought_by
  sought_by-greater = refl

-- ---- a turn

-- what a bound with a key lends to the search is that key
pub sought-lent : {A : Type 0} (bytes : A → List ℕ) (run : List ℕ) (lower : std.Bound A) (key : A)
    → (lower ≡ lent.Included key) ⊎ (lower ≡ lent.Excluded key)
    → sought_from (suc (length run)) run (kind_of lower) (bytes key) 0 ≡ search_in run (kind_of lower) (key_of (bound_map bytes lower))
unfolding search_in
sought-lent bytes run lower key (inl e) = rw e refl
sought-lent bytes run lower key (inr e) = rw e refl

-- the search from a position comes to this answer, with heads enough
abbrev pub Rest : List ℕ → Bound → List ℕ → ℕ → Result (Option ℕ) Refusal → Type 0
Rest run bound lower at answer = (heads : ℕ) × (length run - at < heads) × (sought_from heads run bound lower at ≡ answer)

module _ (run : List ℕ) (bound : Bound) (lower : List ℕ) (at : ℕ) (answer : Result (Option ℕ) Refusal) where
  -- one head is looked at
  turn_by : (heads : ℕ) → length run - at < heads → sought_from heads run bound lower at ≡ answer
      → (more : ℕ) × (length run - at ≤ more)
      × (sought_head (head_at run at) run bound lower at (λ next. sought_from more run bound lower next) ≡ answer)
  unfolding sought_from
  turn_by zero h q = absurd (omega arith)
  turn_by (suc more) h q = (more, omega arith, q)

  module _ (rest : Rest run bound lower at answer) where
    -- a head that refuses the run, and the run's end
    pub refused : (h : Head) (why : Refusal) → h ≡ head_at run at → h ≡ Err why → Err why ≡ answer
    unfolding sought_head
    refused h why e is = let turn = turn_by rest.0 rest.1 rest.2 in rw (← e, is) at turn.2

    pub ended : (h : Head) → h ≡ head_at run at → h ≡ Ok None → Ok None ≡ answer
    unfolding sought_head
    ended h e is = let turn = turn_by rest.0 rest.1 rest.2 in rw (← e, is) at turn.2

    module _ (h : Head) (r : Record) (e : h ≡ head_at run at) (is : h ≡ Ok (Some r)) where
      lies : Lies record_header_size run at r
      lies = head-lies run at r (sym e ∙ is)

      pub nearer : (at < r.next) × (r.next ≤ length run)
      nearer = let l = lies in (omega arith, l.end)

      module _ (key : List ℕ) (k : key ≡ key_in run r) (o : Ordering) (q : o ≡ compare_keys key lower) where
        -- a key that stands so to the bound
        met : (w : Ordering) → o ≡ w
            → (more : ℕ) × (length run - at ≤ more)
            × (sought_by w bound at r.next (λ next. sought_from more run bound lower next) ≡ answer)
        unfolding sought_head
        met w l =
            let turn = turn_by rest.0 rest.1 rest.2 in
            (turn.0, turn.1, rw (← l, q, k) (rw (← e, is) at turn.2))

        pub below : o ≡ Less → Rest run bound lower r.next answer
        unfolding sought_by
        below l = let m = met Less l in let n = nearer in (m.0, omega arith, m.2)

        pub level : o ≡ Equal → Ok (Some (level_at bound at r.next)) ≡ answer
        unfolding sought_by
        level l = (met Equal l).2

        pub above : o ≡ Greater → Ok (Some at) ≡ answer
        unfolding sought_by
        above l = (met Greater l).2

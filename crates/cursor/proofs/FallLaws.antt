-- A pass that finds a record leaves fewer bytes to the places that it steps on to, so that further passes end. Assumes
-- nothing.
use Rattle.std.specs.Prelude.{Ok, Err, Some, None}
use mathlib.Core.Path.{◌≡◌, refl}
use mathlib.Core.Bool.{Bool, true, false}
use mathlib.Core.List.{List}
use mathlib.Core.Logic.{⊎_elim}
use Prim.Native.Nat.{ℕ, zero, suc, ◌-◌, ◌≤◌, ◌<◌, zero-le}
use native.Mathlib.Nat.{le_refl}
use native.Mathlib.Omega.{arith}
use lib.ListN.{length, set}
use Rattle.types.specs.Build.{file_count}
use Rattle.types.proofs.TestLaws.{eq-or-ne}
use Rattle.run.specs.Kinds.{Bound}
use Rattle.std.specs.declared.cmp.Ordering.{Ordering}
use Rattle.run.specs.declared.record.Record.{Record}
use Rattle.run.proofs.FitLaws.{head-lies}
use Rattle.slices.proofs.PartLaws.{part-fits}
use Rattle.cursor.specs.Pass.{with_gone, pass_of, Lowest}
use Rattle.cursor.specs.Places.{gone, at_place, place_of}
use Rattle.cursor.specs.Runs.{start_of, end_of, run_of}
use Rattle.cursor.specs.Settle.{is_hidden, left_at, ahead_in, sum_to, bytes_ahead}
use Rattle.cursor.specs.declared.pass.Pass.{Pass}
use Rattle.cursor.specs.declared.place.Place.TheVariants.{At}
use Rattle.cursor.specs.declared.place.RunPlace.{RunPlace}
use Rattle.cursor.proofs.PassRule.{Sees, After, whole, cut, Kept, pass-rule}
use Rattle.cursor.proofs.PlaceLaws.{set_other, set-gone, set_cases}

-- ---- sums

sum-le : (n : ℕ) (f g : ℕ → ℕ) → ((j : ℕ) → f j ≤ g j) → sum_to n f ≤ sum_to n g
unfolding sum_to
sum-le zero f g h = zero-le
sum-le (suc n) f g h = omega (arith, h n, sum-le n f g h)

sum_lt : (n : ℕ) (f g : ℕ → ℕ) → ((j : ℕ) → f j ≤ g j) → (k : ℕ) → k < n → f k < g k → sum_to n f < sum_to n g
unfolding sum_to
sum_lt zero f g h k b l = absurd (omega arith)
sum_lt (suc n) f g h k b l =
    ⊎_elim (λ e. let m : f n < g n = rw e at l in omega (arith, sum-le n f g h))
    (λ e. let kn : k < n = omega arith in omega (arith, h n, sum_lt n f g h k kn l)) (eq-or-ne k n)

-- ---- what a run has left

module _ (ends : List ℕ) where
  left_other : (places : List RunPlace) (i j : ℕ) (x : RunPlace) → (j ≡ i → ⊥) → ahead_in ends (set places i x) j ≡ ahead_in ends places j
  left_other places i j x n = rw (set_other places i j x n)

  left-gone : (places : List RunPlace) (i j : ℕ) → j ≡ i → ahead_in ends (set places i gone) j ≡ 0
  unfolding left_at
  left-gone places i j e = rw e (rw (set-gone places i))

  left-at : (places : List RunPlace) (i at : ℕ) → place_of places i ≡ At at → ahead_in ends places i ≡ end_of ends i - start_of ends i - at
  unfolding left_at
  left-at places i at p = rw p

  left-set : (places : List RunPlace) (i n : ℕ) → ahead_in ends (set places i (at_place n)) i ≤ end_of ends i - start_of ends i - n
  unfolding left_at
  left-set places i n = ⊎_elim (λ e. rw e (le_refl _)) (λ e. rw e zero-le) (set_cases places i (at_place n))

-- ---- what a pass keeps

module _ (bytes ends : List ℕ) (bound : Bound) (upper : List ℕ) (start : List RunPlace) where
  -- the run that decides has fewer bytes left
  abbrev Nearer : ℕ → Pass → Lowest → Type 0
  Nearer i p (Ok None) = Unit {0}
  Nearer i p (Ok (Some held)) = (held.run < i) × (ahead_in ends p.stepped held.run < ahead_in ends p.places held.run)
  Nearer i p (Err why) = Unit {0}

  record Falls (i : ℕ) (p : Pass) : Type 0 where
    places : (j : ℕ) → ahead_in ends p.places j ≤ ahead_in ends start j
    stepped : (j : ℕ) → ahead_in ends p.stepped j ≤ ahead_in ends p.places j
    nearer : Nearer i p p.lowest

  nearer-later : (i : ℕ) (p : Pass) (l : Lowest) → Nearer i p l → Nearer (suc i) p l
  nearer-later i p (Ok None) h = tt
  nearer-later i p (Ok (Some held)) h = (omega arith, h.1)
  nearer-later i p (Err why) h = tt

  nearer-gone : (i : ℕ) (p : Pass) (l : Lowest) → Nearer i p l → Nearer (suc i) (with_gone i p) l
  nearer-gone i p (Ok None) h = tt
  nearer-gone i p (Ok (Some held)) h =
      let n : held.run ≡ i → ⊥ = λ e. omega arith in
      (omega arith, rw (left_other ends p.stepped i held.run gone n, left_other ends p.places i held.run gone n) h.1)
  nearer-gone i p (Err why) h = tt

  falls-gone : (i : ℕ) (p : Pass) → Falls i p → Falls (suc i) (with_gone i p)
  falls-gone i p h = record {
    places = λ j. ⊎_elim (λ e. rw (left-gone ends p.places i j e) zero-le) (λ n. rw (left_other ends p.places i j gone n) (h.places j))
        (eq-or-ne j i);
    stepped = λ j. ⊎_elim (λ e. rw (left-gone ends p.stepped i j e) zero-le)
        (λ n. rw (left_other ends p.stepped i j gone n, left_other ends p.places i j gone n) (h.stepped j)) (eq-or-ne j i);
    nearer = nearer-gone i p p.lowest h.nearer;
  }

  -- run i steps on in a row of places that has no more left than the other
  falls-on : (i : ℕ) (p : Pass) (at : ℕ) (r : Record) (o : Ordering) → Falls i p → Sees bytes ends bound upper i p at r o
      → (row : List RunPlace) → ((j : ℕ) → ahead_in ends row j ≤ ahead_in ends p.places j)
      → Falls (suc i) (record { places = p.places; stepped = set row i (at_place r.next); lowest = Ok (Some (record { run = i; head = r })) })
  falls-on i p at r o h s row k =
      let l = head-lies (run_of bytes ends i) at r s.head in
      let strict : ahead_in ends (set row i (at_place r.next)) i < ahead_in ends p.places i
      = omega (arith, l.header, l.key, l.value, l.end, left-set ends row i r.next, left-at ends p.places i at s.place, part-fits bytes (start_of ends i) (end_of ends i)) in
      record {
        places = h.places;
        stepped = λ j. ⊎_elim (λ e. rw e (omega arith)) (λ n. rw (left_other ends row i j (at_place r.next) n) (k j)) (eq-or-ne j i);
        nearer = (omega arith, strict);
      }

  kept : Kept bytes ends bound upper Falls
  kept = record {
    gone = λ i p few h q. falls-gone i p h;
    above = λ i p at r few h s. record { places = h.places; stepped = h.stepped; nearer = nearer-later i p p.lowest h.nearer };
    level = λ i p at r few h s. falls-on i p at r _ h s p.stepped h.stepped;
    below = λ i p at r few h s. falls-on i p at r _ h s p.places (λ j. le_refl _);
  }

  found-falls : (p : Pass) → length ends ≤ file_count → Falls (length ends) p → (l : Lowest) → p.lowest ≡ l → is_hidden l ≡ true
      → bytes_ahead ends p.stepped < bytes_ahead ends start
  unfolding bytes_ahead is_hidden
  found-falls p few h (Ok None) e t = let z : ◌≡◌ {A = Bool} false true = t in let y : ◌≡◌ {A = ℕ} 0 1 = cc in absurd (omega arith)
  found-falls p few h (Ok (Some held)) e t =
      let n : Nearer (length ends) p (Ok (Some held)) = rw e at h.nearer in
      let small : held.run < file_count = omega (arith, n.0) in
      omega (
        arith,
        sum_lt file_count (ahead_in ends p.stepped) (ahead_in ends p.places) h.stepped held.run small n.1,
        sum-le file_count (ahead_in ends p.places) (ahead_in ends start) h.places,
      )
  found-falls p few h (Err why) e t = let z : ◌≡◌ {A = Bool} false true = t in let y : ◌≡◌ {A = ℕ} 0 1 = cc in absurd (omega arith)

  after-falls : (p : Pass) → length ends ≤ file_count → After bytes ends bound upper Falls p → is_hidden p.lowest ≡ true
      → bytes_ahead ends p.stepped < bytes_ahead ends start
  unfolding is_hidden
  after-falls p few (whole h) t = found-falls p few h _ refl t
  after-falls _ few (cut i p why m h q) t = let z : ◌≡◌ {A = Bool} false true = t in let y : ◌≡◌ {A = ℕ} 0 1 = cc in absurd (omega arith)

  -- a pass that finds a deletion leaves fewer bytes
  pub falls : length ends ≤ file_count → is_hidden (pass_of bytes ends bound upper start).lowest ≡ true
      → bytes_ahead ends (pass_of bytes ends bound upper start).stepped < bytes_ahead ends start
  falls few t =
      after-falls _ few
      (pass-rule bytes ends bound upper Falls kept start (record { places = λ j. le_refl _; stepped = λ j. le_refl _; nearer = tt })) t

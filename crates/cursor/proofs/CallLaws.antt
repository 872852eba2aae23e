-- The two calls from their parts: the checks, then the work. Assumes nothing.
use Rattle.cursor.specs.declared.answers.Entry.{Entry}
use Rattle.std.specs.Prelude.{Ok, Err, Some, None, ⊤}
use Rattle.cursor.specs.Answers.{NextAnswer}
use Rattle.types.specs.Checks.{Verdict}
use Rattle.std.specs.declared.option.Option.{Option}
use Rattle.std.specs.declared.result.Result.{Result}
use mathlib.Core.Path.{◌≡◌}
use mathlib.Core.List.{List}
use Prim.Native.Nat.{ℕ, suc, ◌+◌, ◌-◌, ◌≤◌, ◌<◌}
use native.Mathlib.Numerals.{add-one}
use native.Mathlib.Omega.{arith}
use lib.ListN.{length, set}
use Rattle.types.specs.Build.{file_count}
use Rattle.types.specs.declared.refusal.Refusal.{Refusal}
use Rattle.types.specs.declared.refusal.Refusal.TheVariants.{BadRuns}
use Rattle.run.specs.Search.{search_in}
use Rattle.run.specs.Kinds.{Bound}
use Rattle.cursor.specs.Checks.{good_runs, new_check, next_check}
use Rattle.cursor.specs.New.{refused_new, after_search, new_from, new_of}
use Rattle.cursor.specs.Next.{entry_answer, places_by, put_by, moved_by, refused_next, next_of, next_key, next_value}
use Rattle.cursor.specs.Pass.{lowest_key, lowest_value}
use Rattle.cursor.specs.Places.{at_place, all_gone}
use Rattle.cursor.specs.Runs.{run_of}
use Rattle.cursor.specs.Settle.{settled}
use Rattle.cursor.specs.declared.answers.Moved.{Moved}
use Rattle.cursor.specs.declared.pass.Pass.{Pass}
use Rattle.cursor.specs.declared.place.Cursor.{Cursor}
use Rattle.cursor.specs.declared.place.RunPlace.{RunPlace}
use Rattle.types.proofs.CheckLaws.{asking-fine}
use Rattle.cursor.proofs.CheckLaws.{good-few}

-- ---- what a passed check tells

pub new-few : (size : ℕ) (ends : List ℕ) → new_check size ends ≡ Ok tt → length ends ≤ file_count
unfolding new_check
new-few size ends e = good-few size ends (asking-fine (good_runs size ends) BadRuns _ e).0

pub next-few : (size : ℕ) (ends : List ℕ) (places : List RunPlace) → next_check size ends places ≡ Ok tt → length ends ≤ file_count
unfolding next_check
next-few size ends places e = good-few size ends (asking-fine (good_runs size ends) BadRuns _ e).0

-- ---- next

module _ (bytes ends : List ℕ) (bound : Bound) (upper : List ℕ) (c : Cursor) (key value : List ℕ) where
  -- the answer with its cursor, and what the two buffers then are
  abbrev Answered : Moved (Option Entry) → List ℕ → List ℕ → Type 0
  Answered m x y =
      (m ≡ next_of bytes ends bound upper c (length key) (length value))
      × ((x ≡ next_key bytes ends bound upper c key value) × (y ≡ next_value bytes ends bound upper c key value))

  module _ (ch : Verdict) (is : ch ≡ next_check (length bytes) ends c.places) where
    pub next-refused : (why : Refusal) → ch ≡ Err why → Answered (refused_next c why) key value
    unfolding next_of next_key next_value put_by
    next-refused why q = (rw (← is, q), (rw (← is, q), rw (← is, q)))

    pub next-settled : ch ≡ Ok tt → (p : Pass) → p ≡ settled bytes ends bound upper c.places
        → (a : NextAnswer) → a ≡ entry_answer bytes ends p.lowest (length key) (length value)
        → (x y : List ℕ)
        → (x ≡ put_by a (lowest_key bytes ends p.lowest) key) × (y ≡ put_by a (lowest_value bytes ends p.lowest) value)
        → (row : List RunPlace) → row ≡ places_by a p → Answered (record { cursor = record { places = row }; answer = a }) x y
    unfolding next_of next_key next_value moved_by
    next-settled q p s a e x y d row r =
        (rw (← is, q, ← s, r, e), (rw (← is, q, ← s) (rw e at d.0), rw (← is, q, ← s) (rw e at d.1)))

-- ---- new

module _ (bytes ends : List ℕ) (bound : Bound) (lower : List ℕ) where
  pub new-refused : (ch : Verdict) → ch ≡ new_check (length bytes) ends → (why : Refusal) → ch ≡ Err why
      → refused_new why ≡ new_of bytes ends bound lower
  unfolding new_of
  new-refused ch is why q = rw (← is, q)

  pub new-fine : (ch : Verdict) → ch ≡ new_check (length bytes) ends → ch ≡ Ok tt
      → new_from bytes ends bound lower (length ends - 0) 0 all_gone ≡ new_of bytes ends bound lower
  unfolding new_of
  new-fine ch is q = let z : length ends - 0 ≡ length ends = omega arith in rw (z, ← is, q)

  module _ (i : ℕ) (places : List RunPlace) (answer : Moved ⊤)
      (rest : new_from bytes ends bound lower (length ends - i) i places ≡ answer) where
    pub all_placed : length ends ≤ i → ◌≡◌ {A = (Moved ⊤)} (record { cursor = record { places = places }; answer = Ok tt }) answer
    unfolding new_from
    all_placed h = let z : length ends - i ≡ 0 = omega arith in rw z at rest

    module _ (more : i < length ends) (run : List ℕ) (r : run ≡ run_of bytes ends i) (s : Result (Option ℕ) Refusal) (is : s ≡ search_in run bound lower) where
      turn : (w : Result (Option ℕ) Refusal) → s ≡ w → after_search w i places (λ p. new_from bytes ends bound lower (length ends - (i + 1)) (i + 1) p) ≡ answer
      unfolding new_from
      turn w q =
          let z : length ends - i ≡ suc (length ends - (i + 1)) = omega arith in
          rw (add-one i) (rw (← q, is, r) (rw (z, add-one i) at rest))

      pub placed-gone : s ≡ Ok None → new_from bytes ends bound lower (length ends - (i + 1)) (i + 1) places ≡ answer
      unfolding after_search
      placed-gone q = turn (Ok None) q

      pub placed_at : (at : ℕ) → s ≡ Ok (Some at)
          → new_from bytes ends bound lower (length ends - (i + 1)) (i + 1) (set places i (at_place at)) ≡ answer
      unfolding after_search
      placed_at at q = turn (Ok (Some at)) q

      pub placed-refused : (why : Refusal) → s ≡ Err why → refused_new why ≡ answer
      unfolding after_search
      placed-refused why q = turn (Err why) q

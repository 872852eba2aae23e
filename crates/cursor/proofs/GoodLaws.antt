-- A cursor that is within its ranges stays there: passes step on within the runs. Assumes nothing.
use Rattle.std.specs.Prelude.{Ok}
use mathlib.Core.Path.{◌≡◌, refl, sym, ◌∙◌}
use mathlib.Core.Bool.{true}
use mathlib.Core.List.{List}
use mathlib.Core.Logic.{⊎_elim}
use Prim.Native.Nat.{ℕ, zero, suc, ◌+◌, ◌-◌, ◌≤◌, ◌<◌}
use native.Mathlib.Omega.{arith}
use lib.Dec.{ltb, leb}
use lib.ListN.{length, set}
use borrow.Author.Tests.{lt-ltb, le-leb, ltb-true, leb-true}
use Rattle.types.specs.Build.{file_count}
use Rattle.types.specs.declared.refusal.Refusal.TheVariants.{BadRuns, BadState}
use Rattle.types.proofs.CheckLaws.{asking-fine}
use Rattle.types.proofs.TestLaws.{eq-or-ne, both_true}
use Rattle.run.specs.Kinds.{Bound}
use Rattle.std.specs.declared.cmp.Ordering.{Ordering}
use Rattle.run.specs.declared.record.Record.{Record}
use Rattle.run.proofs.FitLaws.{head-lies}
use Rattle.slices.proofs.PartLaws.{part-fits}
use Rattle.cursor.specs.Checks.{good_runs, good_place, good_from, good_places, next_check}
use Rattle.cursor.specs.Pass.{pass_of}
use Rattle.cursor.specs.Places.{gone, at_place, place_of}
use Rattle.cursor.specs.Runs.{start_of, end_of, run_of}
use Rattle.cursor.specs.declared.pass.Pass.{Pass}
use Rattle.cursor.specs.declared.place.Place.{Place}
use Rattle.cursor.specs.declared.place.Place.TheVariants.{At, Gone}
use Rattle.cursor.specs.declared.place.RunPlace.{RunPlace}
use Rattle.cursor.proofs.PassRule.{Sees, After, whole, cut, Kept, pass-rule}
use Rattle.cursor.proofs.PlaceLaws.{at-gone, set_other, set-gone, set_cases}

-- every position is within its run, and there is none past the last
abbrev pub Good : List ℕ → List RunPlace → Type 0
Good ends places = (i at : ℕ) → i < file_count → place_of places i ≡ At at → (i < length ends) × (at ≤ end_of ends i - start_of ends i)

-- ---- such places pass the check

module _ (ends : List ℕ) (places : List RunPlace) (h : Good ends places) where
  good-place : (i : ℕ) → i < file_count → (x : Place) → place_of places i ≡ x → good_place ends i x ≡ true
  unfolding good_place
  good-place i f Gone e = refl
  good-place i f (At at) e = let g = h i at f e in rw (lt-ltb i (length ends) g.0, le-leb at (end_of ends i - start_of ends i) g.1)

  good-from : (count i : ℕ) → i + count ≤ file_count → good_from ends places count i ≡ true
  unfolding good_from
  good-from zero i f = refl
  good-from (suc count) i f = rw (good-place i (omega arith) (place_of places i) refl, good-from count (suc i) (omega arith))

  pub good-check : (size : ℕ) → good_runs size ends ≡ true → next_check size ends places ≡ Ok tt
  unfolding next_check good_places
  good-check size g = rw (g, good-from file_count 0 (omega arith))

-- ---- and places that pass it are such

module _ (ends : List ℕ) (places : List RunPlace) where
  place-good : (i : ℕ) (x : Place) → good_place ends i x ≡ true → (at : ℕ) → x ≡ At at → (i < length ends) × (at ≤ end_of ends i - start_of ends i)
  unfolding good_place
  place-good i Gone g at e = at-gone Gone at e refl
  place-good i (At to) g at e =
      let q : to ≡ at = cc in
      let b = both_true (ltb i (length ends)) (leb to (end_of ends i - start_of ends i)) g in
      (ltb-true i (length ends) b.0, rw (← q) (leb-true to (end_of ends i - start_of ends i) b.1))

  from-good : (count i : ℕ) → good_from ends places count i ≡ true → (k at : ℕ) → i ≤ k → k < i + count → place_of places k ≡ At at
      → (k < length ends) × (at ≤ end_of ends k - start_of ends k)
  unfolding good_from
  from-good zero i g k at l m e = absurd (omega arith)
  from-good (suc count) i g k at l m e =
      let b = both_true (good_place ends i (place_of places i)) (good_from ends places count (suc i)) g in
      ⊎_elim (λ (q : k ≡ i). rw q (place-good i (place_of places i) b.0 at (rw q at e)))
      (λ (n : k ≡ i → ⊥). from-good count (suc i) b.1 k at (omega arith) (omega arith) e) (eq-or-ne k i)

  pub check-good : (size : ℕ) → next_check size ends places ≡ Ok tt → (good_runs size ends ≡ true) × Good ends places
  unfolding next_check good_places
  check-good size e =
      let r = asking-fine (good_runs size ends) BadRuns _ e in
      let p = asking-fine (good_places ends places) BadState _ r.1 in
      (r.0, λ i at f q. from-good file_count 0 p.0 i at (omega arith) (omega arith) q)

-- ---- setting a place

good-gone : (ends : List ℕ) (places : List RunPlace) (i : ℕ) → Good ends places → Good ends (set places i gone)
good-gone ends places i h =
    λ k at f p. ⊎_elim (λ e. at-gone (place_of (set places i gone) i) at (rw e at p) (set-gone places i))
    (λ n. h k at f (sym (set_other places i k gone n) ∙ p)) (eq-or-ne k i)

pub good-set : (ends : List ℕ) (places : List RunPlace) (i n : ℕ) → i < length ends → n ≤ end_of ends i - start_of ends i → Good ends places
    → Good ends (set places i (at_place n))
good-set ends places i n b m h =
    λ k at f p.
    ⊎_elim
    (λ e.
    let q : place_of (set places i (at_place n)) i ≡ At at = rw e at p in
    ⊎_elim
    (λ s. let w : At n ≡ At at = sym s ∙ q in let v : n ≡ at = cc in rw e (b, rw (← v) m))
    (λ s. at-gone (place_of (set places i (at_place n)) i) at q s) (set_cases places i (at_place n)))
    (λ d. h k at f (sym (set_other places i k (at_place n) d) ∙ p)) (eq-or-ne k i)

-- ---- passes

module _ (bytes ends : List ℕ) (bound : Bound) (upper : List ℕ) where
  record Both (i : ℕ) (p : Pass) : Type 0 where
    places : Good ends p.places
    stepped : Good ends p.stepped

  next_fits : (i : ℕ) (p : Pass) (at : ℕ) (r : Record) (o : Ordering) → Sees bytes ends bound upper i p at r o
      → r.next ≤ end_of ends i - start_of ends i
  next_fits i p at r o s =
      let l = head-lies (run_of bytes ends i) at r s.head in
      omega (arith, l.end, part-fits bytes (start_of ends i) (end_of ends i))

  kept : Kept bytes ends bound upper Both
  kept = record {
    gone = λ i p few h q. record { places = good-gone ends p.places i h.places; stepped = good-gone ends p.stepped i h.stepped };
    above = λ i p at r few h s. record { places = h.places; stepped = h.stepped };
    level = λ i p at r few h s. record { places = h.places; stepped = good-set ends p.stepped i r.next few (next_fits i p at r _ s) h.stepped };
    below = λ i p at r few h s. record { places = h.places; stepped = good-set ends p.places i r.next few (next_fits i p at r _ s) h.places };
  }

  after-good : (p : Pass) → After bytes ends bound upper Both p → Good ends p.places × Good ends p.stepped
  after-good p (whole h) = (h.places, h.stepped)
  after-good _ (cut i p why m h q) = (h.places, h.stepped)

  pub pass-good : (start : List RunPlace) → Good ends start
      → Good ends (pass_of bytes ends bound upper start).places × Good ends (pass_of bytes ends bound upper start).stepped
  pass-good start g =
      after-good (pass_of bytes ends bound upper start) (pass-rule bytes ends bound upper Both kept start (record { places = g; stepped = g }))

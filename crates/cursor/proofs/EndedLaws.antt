-- When a run is gone (docs/RULES.md, Merge): nothing at its place, or a key past the upper bound, makes it so. Assumes nothing.
use Rattle.std.specs.Prelude.{Ok, Err, Some, None}
use mathlib.Core.Path.{◌≡◌, refl, sym, ◌∙◌}
use mathlib.Core.Bool.{Bool, true, false, cond}
use mathlib.Core.List.{List}
use Prim.Native.Nat.{ℕ}
use native.Mathlib.Omega.{arith}
use Rattle.run.specs.Bounds.{is_past}
use Rattle.run.specs.Records.{head_at, key_in, Head}
use Rattle.run.specs.Kinds.{Bound}
use Rattle.std.specs.declared.cmp.Ordering.{Ordering}
use Rattle.std.specs.declared.cmp.Ordering.TheVariants.{Less, Equal, Greater}
use Rattle.run.specs.declared.record.Record.{Record}
use Rattle.cursor.specs.Pass.{look_by, look_head, look_at, lowest_key, shows}
use Rattle.cursor.specs.Places.{place_of}
use Rattle.cursor.specs.Runs.{run_of}
use Rattle.cursor.specs.declared.look.Look.TheVariants as look
use Rattle.cursor.specs.declared.pass.Pass.{Pass}
use Rattle.cursor.specs.declared.place.Place.{Place}
use Rattle.cursor.specs.declared.place.Place.TheVariants.{At, Gone}
use Rattle.cursor.specs.declared.place.RunPlace.{RunPlace}
use Rattle.cursor.proofs.PassRule.{standing, Sees}
use Rattle.cursor.proofs.PlaceLaws.{at-gone}

module _ (bytes ends : List ℕ) (bound : Bound) (upper : List ℕ) where
  -- run i has no more to show: it was gone, there is nothing at its place, or a key past the upper bound
  pub data Ended (row : List RunPlace) (i : ℕ) : Type 0 where
    was-gone : place_of row i ≡ Gone → Ended row i
    nothing : (at : ℕ) → place_of row i ≡ At at → head_at (run_of bytes ends i) at ≡ Ok None → Ended row i
    past : (at : ℕ) (r : Record) → place_of row i ≡ At at → head_at (run_of bytes ends i) at ≡ Ok (Some r)
        → is_past bound upper (key_in (run_of bytes ends i) r) ≡ true → Ended row i

  -- it goes by the run's place alone
  pub ended_so : (row other : List RunPlace) (i : ℕ) → place_of row i ≡ place_of other i → Ended row i → Ended other i
  ended_so row other i e (was-gone g) = was-gone (sym e ∙ g)
  ended_so row other i e (nothing at a h) = nothing at (sym e ∙ a) h
  ended_so row other i e (past at r a h w) = past at r (sym e ∙ a) h w

  -- ---- a look that ends a run

  not-ended : (o : Ordering) (r : Record) → look_by o r ≡ Ok look.Gone → ⊥
  unfolding look_by
  not-ended Less r q = let z : ◌≡◌ {A = ℕ} 0 1 = cc in omega arith
  not-ended Equal r q = let z : ◌≡◌ {A = ℕ} 0 1 = cc in omega arith
  not-ended Greater r q = let z : ◌≡◌ {A = ℕ} 0 1 = cc in omega arith

  module _ (i : ℕ) (p : Pass) where
    by-past : (at : ℕ) (r : Record) → place_of p.places i ≡ At at → head_at (run_of bytes ends i) at ≡ Ok (Some r)
        → (t : Bool) → is_past bound upper (key_in (run_of bytes ends i) r) ≡ t
        → cond t (Ok look.Gone) (look_by (standing bytes ends bound upper i p r) r) ≡ Ok look.Gone → Ended p.places i
    by-past at r a h true w q = past at r a h w
    by-past at r a h false w q = absurd (not-ended (standing bytes ends bound upper i p r) r q)

    by-head : (at : ℕ) → place_of p.places i ≡ At at → (h : Head) → head_at (run_of bytes ends i) at ≡ h
        → look_head (run_of bytes ends i) bound upper p.lowest (lowest_key bytes ends p.lowest) h ≡ Ok look.Gone → Ended p.places i
    unfolding look_head
    by-head at a (Ok None) h q = nothing at a h
    by-head at a (Ok (Some r)) h q = by-past at r a h _ refl q
    by-head at a (Err why) h q = let z : ◌≡◌ {A = ℕ} 0 1 = cc in absurd (omega arith)

    by_place : (x : Place) → place_of p.places i ≡ x
        → look_at (run_of bytes ends i) x bound upper p.lowest (lowest_key bytes ends p.lowest) ≡ Ok look.Gone → Ended p.places i
    unfolding look_at
    by_place Gone a q = was-gone a
    by_place (At at) a q = by-head at a _ refl q

    pub shows-ended : shows bytes ends bound upper i p ≡ Ok look.Gone → Ended p.places i
    unfolding shows
    shows-ended q = by_place _ refl q

    -- a run that stands at a record within the bound has not ended
    pub sees_more : (at : ℕ) (r : Record) (o : Ordering) → Sees bytes ends bound upper i p at r o → Ended p.places i → ⊥
    sees_more at r o s (was-gone g) = at-gone (place_of p.places i) at s.place g
    sees_more at r o s (nothing at' a h) =
        let e : At at' ≡ At at = sym a ∙ s.place in
        let same : at' ≡ at = cc in
        let g : (Ok None) ≡ Ok (Some r) = sym h ∙ rw same s.head in
        let z : ◌≡◌ {A = ℕ} 0 1 = cc in omega arith
    sees_more at r o s (past at' r' a h w) =
        let e : At at' ≡ At at = sym a ∙ s.place in
        let same : at' ≡ at = cc in
        let g : Ok (Some r') ≡ Ok (Some r) = sym h ∙ rw same s.head in
        let k : r' ≡ r = cc in
        let f : true ≡ false = sym w ∙ rw k s.within in
        let z : ◌≡◌ {A = ℕ} 0 1 = cc in omega arith

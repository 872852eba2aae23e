-- The induction rule of a pass: what holds before it, and again after each look, holds after it. Assumes nothing.
use Rattle.std.specs.Prelude.{Ok, Err, Some, None}
use Rattle.std.specs.declared.result.Result.{Result}
use mathlib.Core.Path.{◌≡◌, refl}
use mathlib.Core.Bool.{Bool, true, false, cond}
use mathlib.Core.List.{List}
use Prim.Native.Nat.{ℕ, zero, suc, ◌+◌, ◌<◌}
use native.Mathlib.Omega.{arith}
use lib.ListN.{length}
use Rattle.types.specs.declared.refusal.Refusal.{Refusal}
use Rattle.run.specs.Bounds.{is_past}
use Rattle.run.specs.Records.{head_at, key_in, Head}
use Rattle.run.specs.Kinds.{Bound}
use Rattle.std.specs.declared.cmp.Ordering.{Ordering}
use Rattle.std.specs.declared.cmp.Ordering.TheVariants.{Less, Equal, Greater}
use Rattle.run.specs.declared.record.Record.{Record}
use Rattle.cursor.specs.Pass.{against_lowest, look_by, look_head, look_at, lowest_key, shows, with_gone, with_holder, with_lowest, with_refusal, change, pass_from, unseen, pass_of}
use Rattle.cursor.specs.Places.{place_of}
use Rattle.cursor.specs.Runs.{run_of}
use Rattle.cursor.specs.declared.look.Look.{Look}
use Rattle.cursor.specs.declared.look.Look.TheVariants as look
use Rattle.cursor.specs.declared.pass.Pass.{Pass}
use Rattle.cursor.specs.declared.place.Place.{Place}
use Rattle.cursor.specs.declared.place.Place.TheVariants.{At, Gone}
use Rattle.cursor.specs.declared.place.RunPlace.{RunPlace}

module _ (bytes ends : List ℕ) (bound : Bound) (upper : List ℕ) where
  -- how a key of run i stands to the lowest so far
  abbrev pub standing : ℕ → Pass → Record → Ordering
  standing i p r = against_lowest p.lowest (lowest_key bytes ends p.lowest) (key_in (run_of bytes ends i) r)

  -- run i stands at a record that is not past the bound
  pub record Sees (i : ℕ) (p : Pass) (at : ℕ) (r : Record) (o : Ordering) : Type 0 where
    pub place : place_of p.places i ≡ At at
    pub head : head_at (run_of bytes ends i) at ≡ Ok (Some r)
    pub within : is_past bound upper (key_in (run_of bytes ends i) r) ≡ false
    pub order : standing i p r ≡ o

  -- ---- a look that is no end and no refusal is at a record

  abbrev Tells : ℕ → Pass → Result Look Refusal → Type 0
  Tells i p (Ok look.Gone) = Unit {0}
  Tells i p (Ok look.Above) = (at : ℕ) × (r : Record) × Sees i p at r Greater
  Tells i p (Ok (look.Level r)) = (at : ℕ) × Sees i p at r Equal
  Tells i p (Ok (look.Below r)) = (at : ℕ) × Sees i p at r Less
  Tells i p (Err why) = Unit {0}

  module _ (i : ℕ) (p : Pass) where
    by_order : (at : ℕ) (r : Record) → place_of p.places i ≡ At at → head_at (run_of bytes ends i) at ≡ Ok (Some r)
        → is_past bound upper (key_in (run_of bytes ends i) r) ≡ false → (o : Ordering) → standing i p r ≡ o → Tells i p (look_by o r)
    unfolding look_by
    by_order at r a h w Less q = (at, record { place = a; head = h; within = w; order = q })
    by_order at r a h w Equal q = (at, record { place = a; head = h; within = w; order = q })
    by_order at r a h w Greater q = (at, r, record { place = a; head = h; within = w; order = q })

    by-past : (at : ℕ) (r : Record) → place_of p.places i ≡ At at → head_at (run_of bytes ends i) at ≡ Ok (Some r)
        → (past : Bool) → is_past bound upper (key_in (run_of bytes ends i) r) ≡ past
        → Tells i p (cond past (Ok look.Gone) (look_by (standing i p r) r))
    by-past at r a h true w = tt
    by-past at r a h false w = by_order at r a h w _ refl

    by-head : (at : ℕ) → place_of p.places i ≡ At at → (h : Head) → head_at (run_of bytes ends i) at ≡ h
        → Tells i p (look_head (run_of bytes ends i) bound upper p.lowest (lowest_key bytes ends p.lowest) h)
    unfolding look_head
    by-head at a (Ok None) h = tt
    by-head at a (Ok (Some r)) h = by-past at r a h _ refl
    by-head at a (Err why) h = tt

    by_place : (x : Place) → place_of p.places i ≡ x
        → Tells i p (look_at (run_of bytes ends i) x bound upper p.lowest (lowest_key bytes ends p.lowest))
    unfolding look_at
    by_place Gone a = tt
    by_place (At at) a = by-head at a _ refl

    shows-tells : (l : Result Look Refusal) → shows bytes ends bound upper i p ≡ l → Tells i p l
    unfolding shows
    shows-tells l q = rw q at (by_place _ refl)

  -- ---- the rule

  module _ (P : ℕ → Pass → Type 0) where
    -- what a pass comes to: all runs seen, or a refusal at one of them
    pub data After : Pass → Type 0 where
      whole : {p : Pass} → P (length ends) p → After p
      cut : (i : ℕ) (p : Pass) (why : Refusal) → i < length ends → P i p → shows bytes ends bound upper i p ≡ Err why → After (with_refusal why p)

    -- each look keeps it
    pub record Kept : Type 0 where
      pub gone : (i : ℕ) (p : Pass) → i < length ends → P i p → shows bytes ends bound upper i p ≡ Ok look.Gone → P (suc i) (with_gone i p)
      pub above : (i : ℕ) (p : Pass) (at : ℕ) (r : Record) → i < length ends → P i p → Sees i p at r Greater → P (suc i) p
      pub level : (i : ℕ) (p : Pass) (at : ℕ) (r : Record) → i < length ends → P i p → Sees i p at r Equal → P (suc i) (with_holder i r p)
      pub below : (i : ℕ) (p : Pass) (at : ℕ) (r : Record) → i < length ends → P i p → Sees i p at r Less → P (suc i) (with_lowest i r p)

    module _ (kept : Kept) where
      looked : (i : ℕ) (p : Pass) → i < length ends → P i p → (later : Pass → Pass) → ((q : Pass) → P (suc i) q → After (later q))
          → (l : Result Look Refusal) → shows bytes ends bound upper i p ≡ l → After (change l i p later)
      unfolding change
      looked i p few h later on (Ok look.Gone) q = on (with_gone i p) (kept.gone i p few h q)
      looked i p few h later on (Ok look.Above) q = let t = shows-tells i p (Ok look.Above) q in on p (kept.above i p t.0 t.1 few h t.2)
      looked i p few h later on (Ok (look.Level r)) q =
          let t = shows-tells i p (Ok (look.Level r)) q in on (with_holder i r p) (kept.level i p t.0 r few h t.1)
      looked i p few h later on (Ok (look.Below r)) q =
          let t = shows-tells i p (Ok (look.Below r)) q in on (with_lowest i r p) (kept.below i p t.0 r few h t.1)
      looked i p few h later on (Err why) q = cut i p why few h q

      from-run : (count i : ℕ) → i + count ≡ length ends → (p : Pass) → P i p → After (pass_from bytes ends bound upper count i p)
      unfolding pass_from
      from-run zero i e p h = let z : i ≡ length ends = omega arith in whole (rw z at h)
      from-run (suc count) i e p h =
          looked i p (omega arith) h (λ q. pass_from bytes ends bound upper count (suc i) q) (λ q k. from-run count (suc i) (omega arith) q k) _ refl

      pub pass-rule : (places : List RunPlace) → P 0 (unseen places) → After (pass_of bytes ends bound upper places)
      unfolding pass_of
      pass-rule places h = from-run (length ends) 0 (omega arith) (unseen places) h

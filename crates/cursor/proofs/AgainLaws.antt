-- A refused call of next, made again with the cursor that came back, is refused again: the last pass begins anew from places of
-- which it had only made some runs gone, and these show it the same. Assumes nothing.
use Rattle.cursor.specs.declared.answers.Entry.{Entry}
use Rattle.std.specs.declared.option.Option.{Option}
use Rattle.std.specs.Prelude.{Ok, Err}
use Rattle.cursor.specs.Answers.{NextAnswer}
use Rattle.std.specs.declared.result.Result.{Result}
use mathlib.Core.Path.{◌≡◌, refl, sym, ◌∙◌, ap}
use mathlib.Core.Bool.{Bool, true, false, cond}
use mathlib.Core.List.{List, [], ◌∷◌}
use Prim.Native.Nat.{ℕ, zero, suc, ◌≤◌, ◌<◌}
use native.Mathlib.Nat.{le_refl}
use native.Mathlib.Omega.{arith}
use lib.ListN.{length, set}
use Rattle.types.specs.Build.{file_count}
use Rattle.types.specs.Checks.{refused_or, Verdict}
use Rattle.types.specs.declared.refusal.Refusal.{Refusal}
use Rattle.run.specs.Kinds.{Bound}
use Rattle.cursor.specs.Checks.{good_runs, next_check}
use Rattle.cursor.specs.Next.{entry_answer, places_by, put_by, moved_by, entry_by, refused_next, next_of, next_key, next_value}
use Rattle.cursor.specs.Pass.{look_at, lowest_key, shows, with_gone, with_holder, with_lowest, change, pass_from, unseen, pass_of, Lowest}
use Rattle.cursor.specs.Places.{gone, place_of}
use Rattle.cursor.specs.Runs.{run_of}
use Rattle.cursor.specs.Settle.{is_hidden, bytes_ahead, settle_from, settled}
use Rattle.cursor.specs.declared.answers.Moved.{Moved}
use Rattle.cursor.specs.declared.look.Look.{Look}
use Rattle.cursor.specs.declared.look.Look.TheVariants as look
use Rattle.cursor.specs.declared.pass.Pass.{Pass}
use Rattle.cursor.specs.declared.place.Cursor.{Cursor}
use Rattle.cursor.specs.declared.place.Place.{Place}
use Rattle.cursor.specs.declared.place.Place.TheVariants.{Gone}
use Rattle.cursor.specs.declared.place.RunPlace.{RunPlace}
use Rattle.cursor.proofs.CheckLaws.{good-few}
use Rattle.cursor.proofs.FallLaws.{falls}
use Rattle.cursor.proofs.GoodLaws.{Good, good-check, check-good, pass-good}
use Rattle.cursor.proofs.PlaceLaws.{set_other, set-gone}

-- a run that is gone stays as it is when it is found gone
set-gone-again : (places : List RunPlace) (i : ℕ) → place_of places i ≡ Gone → set places i gone ≡ places
set-gone-again [] i e = refl
set-gone-again (y ∷ places) zero e = ap (λ (x : Place). record { place = x } ∷ places) (sym e)
set-gone-again (y ∷ places) (suc i) e = ap (λ (l : List RunPlace). y ∷ l) (set-gone-again places i e)

module _ (bytes ends : List ℕ) (bound : Bound) (upper : List ℕ) where
  -- ---- one pass, begun again

  -- a look at run i leaves the place of an earlier one
  look-earlier : (i k : ℕ) → k < i → (p : Pass) (later : Pass → Pass) → ((q : Pass) → place_of (later q).places k ≡ place_of q.places k)
      → (l : Result Look Refusal) → place_of (change l i p later).places k ≡ place_of p.places k
  unfolding change
  look-earlier i k b p later on (Ok look.Gone) = on (with_gone i p) ∙ set_other p.places i k gone (λ e. omega arith)
  look-earlier i k b p later on (Ok look.Above) = on p
  look-earlier i k b p later on (Ok (look.Level r)) = on (with_holder i r p)
  look-earlier i k b p later on (Ok (look.Below r)) = on (with_lowest i r p)
  look-earlier i k b p later on (Err why) = refl

  earlier : (count i k : ℕ) → k < i → (p : Pass) → place_of (pass_from bytes ends bound upper count i p).places k ≡ place_of p.places k
  unfolding pass_from
  earlier zero i k b p = refl
  earlier (suc count) i k b p =
      look-earlier i k b p (λ q. pass_from bytes ends bound upper count (suc i) q) (λ q. earlier count (suc i) k (omega arith) q)
      (shows bytes ends bound upper i p)

  shows_alike : (i : ℕ) (p q : Pass) → q.lowest ≡ p.lowest → place_of q.places i ≡ place_of p.places i
      → shows bytes ends bound upper i q ≡ shows bytes ends bound upper i p
  unfolding shows
  shows_alike i p q l e =
      ap (λ (x : Place). look_at (run_of bytes ends i) x bound upper q.lowest (lowest_key bytes ends q.lowest)) e
      ∙ ap (λ (x : Lowest). look_at (run_of bytes ends i) (place_of p.places i) bound upper x (lowest_key bytes ends x)) l

  pub shows-gone : (i : ℕ) (q : Pass) → place_of q.places i ≡ Gone → shows bytes ends bound upper i q ≡ Ok look.Gone
  unfolding shows look_at
  shows-gone i q e = ap (λ (x : Place). look_at (run_of bytes ends i) x bound upper q.lowest (lowest_key bytes ends q.lowest)) e

  -- two passes that come to the same lowest key and the same places
  record Alike (q p : Pass) : Type 0 where
    lowest : q.lowest ≡ p.lowest
    places : q.places ≡ p.places

  -- one look, where the later looks come to the same again
  module _ (i : ℕ) (p q : Pass) (later : Pass → Pass) (stays : (x : Pass) → place_of (later x).places i ≡ place_of x.places i)
      (on : (x y : Pass) → y.lowest ≡ x.lowest → y.places ≡ (later x).places → Alike (later y) (later x)) (l : q.lowest ≡ p.lowest) where
    same-look : (w : Result Look Refusal) → shows bytes ends bound upper i p ≡ w → place_of q.places i ≡ place_of p.places i → w ≡ shows bytes ends bound upper i q
    same-look w s e = sym (shows_alike i p q l e ∙ s)

    again_by : (w : Result Look Refusal) → shows bytes ends bound upper i p ≡ w → q.places ≡ (change w i p later).places
        → Alike (change (shows bytes ends bound upper i q) i q later) (change w i p later)
    unfolding change
    again_by (Ok look.Gone) s e =
        let g : place_of q.places i ≡ Gone = ap (λ (r : List RunPlace). place_of r i) e ∙ stays (with_gone i p) ∙ set-gone p.places i in
        rw (shows-gone i q g) (on (with_gone i p) (with_gone i q) l (set-gone-again q.places i g ∙ e))
    again_by (Ok look.Above) s e =
        rw (← same-look (Ok look.Above) s (ap (λ (r : List RunPlace). place_of r i) e ∙ stays p)) (on p q l e)
    again_by (Ok (look.Level r)) s e =
        rw (← same-look (Ok (look.Level r)) s (ap (λ (r : List RunPlace). place_of r i) e ∙ stays (with_holder i r p)))
        (on (with_holder i r p) (with_holder i r q) refl e)
    again_by (Ok (look.Below r)) s e =
        rw (← same-look (Ok (look.Below r)) s (ap (λ (r : List RunPlace). place_of r i) e ∙ stays (with_lowest i r p)))
        (on (with_lowest i r p) (with_lowest i r q) refl e)
    again_by (Err why) s e =
        rw (← same-look (Err why) s (ap (λ (r : List RunPlace). place_of r i) e)) (record { lowest = refl; places = e })

  -- from the places that a pass comes to, it comes to them again
  again-from : (count i : ℕ) (p q : Pass) → q.lowest ≡ p.lowest → q.places ≡ (pass_from bytes ends bound upper count i p).places
      → Alike (pass_from bytes ends bound upper count i q) (pass_from bytes ends bound upper count i p)
  unfolding pass_from
  again-from zero i p q l e = record { lowest = l; places = e }
  again-from (suc count) i p q l e =
      again_by i p q (λ x. pass_from bytes ends bound upper count (suc i) x) (λ x. earlier count (suc i) i (omega arith) x)
      (λ x y. again-from count (suc i) x y) l (shows bytes ends bound upper i p) refl e

  pass-again : (start : List RunPlace) → Alike (pass_of bytes ends bound upper (pass_of bytes ends bound upper start).places) (pass_of bytes ends bound upper start)
  unfolding pass_of
  pass-again start =
      again-from (length ends) 0 (unseen start) (unseen (pass_from bytes ends bound upper (length ends) 0 (unseen start)).places) refl refl

  -- ---- the passes of a call

  -- the last of them, which finds no deletion
  record Last (p : Pass) : Type 0 where
    from : List RunPlace
    good : Good ends from
    is : p ≡ pass_of bytes ends bound upper from
    live : is_hidden p.lowest ≡ false

  module _ (few : length ends ≤ file_count) where
    last-by : (start : List RunPlace) → Good ends start → (b : Bool) → is_hidden (pass_of bytes ends bound upper start).lowest ≡ b → (later : Pass)
        → (b ≡ true → Last later) → Last (cond b later (pass_of bytes ends bound upper start))
    last-by start g true h later on = on refl
    last-by start g false h later on = record { from = start; good = g; is = refl; live = h }

    last-only : (start : List RunPlace) → Good ends start → bytes_ahead ends start ≤ 0 → (b : Bool) → is_hidden (pass_of bytes ends bound upper start).lowest ≡ b
        → Last (pass_of bytes ends bound upper start)
    last-only start g m true h = absurd (omega (arith, falls bytes ends bound upper start few h))
    last-only start g m false h = record { from = start; good = g; is = refl; live = h }

    last-from : (more : ℕ) (start : List RunPlace) → Good ends start → bytes_ahead ends start ≤ more → Last (settle_from bytes ends bound upper more start)
    unfolding settle_from
    last-from zero start g m = last-only start g m _ refl
    last-from (suc more) start g m =
        last-by start g _ refl (settle_from bytes ends bound upper more (pass_of bytes ends bound upper start).stepped)
        (λ h. last-from more (pass_of bytes ends bound upper start).stepped (pass-good bytes ends bound upper start g).1
        (omega (arith, falls bytes ends bound upper start few h)))

    settled-last : (start : List RunPlace) → Good ends start → Last (settled bytes ends bound upper start)
    unfolding settled
    settled-last start g = last-from (bytes_ahead ends start) start g (le_refl _)

  pub live-settles : (more : ℕ) (start : List RunPlace) → is_hidden (pass_of bytes ends bound upper start).lowest ≡ false
      → settle_from bytes ends bound upper more start ≡ pass_of bytes ends bound upper start
  unfolding settle_from
  live-settles zero start h = refl
  live-settles (suc more) start h = rw h

  last-again : (p : Pass) → Last p → Alike (settled bytes ends bound upper p.places) p
  unfolding settled
  last-again p k =
      let a : Alike (pass_of bytes ends bound upper p.places) p = rw k.is (pass-again k.from) in
      rw (live-settles (bytes_ahead ends p.places) p.places (ap is_hidden a.lowest ∙ k.live)) a

  -- ---- the call

  module _ (key_room value_room : ℕ) (why : Refusal) where
    -- a refusal keeps the places of the last pass
    refused-moved : (a : NextAnswer) (p : Pass) → a ≡ Err why → moved_by a p ≡ record { cursor = record { places = p.places }; answer = Err why }
    unfolding moved_by places_by
    refused-moved a p e = ap (λ (x : NextAnswer). record { cursor = record { places = places_by x p }; answer = x }) e

    moved-answer : (a : NextAnswer) (p : Pass) → (moved_by a p).answer ≡ Err why → a ≡ Err why
    unfolding moved_by
    moved-answer a p e = e

    fine-next : (c : Cursor) → next_check (length bytes) ends c.places ≡ Ok tt → next_of bytes ends bound upper c key_room value_room
        ≡ moved_by (entry_answer bytes ends (settled bytes ends bound upper c.places).lowest key_room value_room) (settled bytes ends bound upper c.places)
    unfolding next_of
    fine-next c k = rw k

    -- from the places of a last pass that is refused, the call is refused and they stay
    last-refused : good_runs (length bytes) ends ≡ true → (p : Pass) → Last p → entry_answer bytes ends p.lowest key_room value_room ≡ Err why
        → next_of bytes ends bound upper (record { places = p.places }) key_room value_room
        ≡ record { cursor = record { places = p.places }; answer = Err why }
    last-refused g p k e =
        let good : Good ends p.places = rw k.is (pass-good bytes ends bound upper k.from k.good).0 in
        let a = last-again p k in
        let s = settled bytes ends bound upper p.places in
        fine-next (record { places = p.places }) (good-check ends p.places good (length bytes) g)
        ∙ refused-moved (entry_answer bytes ends s.lowest key_room value_room) s
        (ap (λ (x : Lowest). entry_answer bytes ends x key_room value_room) a.lowest ∙ e)
        ∙ ap (λ (r : List RunPlace). record { cursor = record { places = r }; answer = Err why }) a.places

    next-by : (c : Cursor) (v : Verdict) → next_check (length bytes) ends c.places ≡ v
        → let moved = refused_or v (refused_next c) (entry_by bytes ends key_room value_room (settled bytes ends bound upper c.places)) in
        moved.answer ≡ Err why → next_of bytes ends bound upper moved.cursor key_room value_room ≡ moved
    unfolding next_of
    next-by c (Err x) k e = rw k
    next-by c (Ok tt) k e =
        let p = settled bytes ends bound upper c.places in
        let a = entry_answer bytes ends p.lowest key_room value_room in
        let r : a ≡ Err why = moved-answer a p e in
        let g = check-good ends c.places (length bytes) k in
        ap (λ (m : Moved (Option Entry)). next_of bytes ends bound upper m.cursor key_room value_room) (refused-moved a p r)
        ∙ last-refused g.0 p (settled-last (good-few (length bytes) ends g.0) c.places g.1) r ∙ sym (refused-moved a p r)

    -- THE SAME CALL AGAIN gives the same refusal and the same cursor
    pub next-again : (c : Cursor) → (next_of bytes ends bound upper c key_room value_room).answer ≡ Err why
        → next_of bytes ends bound upper (next_of bytes ends bound upper c key_room value_room).cursor key_room value_room
        ≡ next_of bytes ends bound upper c key_room value_room
    unfolding next_of
    next-again c e = next-by c (next_check (length bytes) ends c.places) refl e

  -- a refused call leaves both buffers
  module _ (c : Cursor) (key value : List ℕ) (why : Refusal) (e : (next_of bytes ends bound upper c (length key) (length value)).answer ≡ Err why) where
    pub key-kept : next_key bytes ends bound upper c key value ≡ key
    unfolding next_key put_by
    key-kept = rw e

    pub value-kept : next_value bytes ends bound upper c key value ≡ value
    unfolding next_value put_by
    value-kept = rw e

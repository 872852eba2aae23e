-- A refused call of new hands back a cursor whose runs are all gone, and from there next hands out nothing. Assumes nothing.
use Rattle.std.specs.Prelude.{Ok, Err, Some, None, ⊤}
use Rattle.std.specs.declared.option.Option.{Option}
use Rattle.std.specs.declared.result.Result.{Result}
use mathlib.Core.Path.{◌≡◌, refl, sym, ◌∙◌, ap}
use mathlib.Core.List.{List}
use mathlib.Core.Logic.{⊎_elim}
use Prim.Native.Nat.{ℕ, zero, suc}
use native.Mathlib.Omega.{arith}
use lib.ListN.{length}
use Rattle.types.specs.Build.{file_count}
use Rattle.types.specs.Checks.{refused_or, Verdict}
use Rattle.types.specs.declared.refusal.Refusal.{Refusal}
use Rattle.types.proofs.TestLaws.{eq-or-ne}
use Rattle.run.specs.Search.{search_in}
use Rattle.run.specs.Kinds.{Bound}
use Rattle.cursor.specs.Checks.{new_check, next_check}
use Rattle.cursor.specs.New.{refused_new, after_search, new_from, new_of}
use Rattle.cursor.specs.Next.{entry_answer, answer_by, put_by, moved_by, entry_by, refused_next, next_of, next_key, next_value}
use Rattle.cursor.specs.Pass.{pass_of, Lowest}
use Rattle.cursor.specs.Places.{gone, place_of, all_gone}
use Rattle.cursor.specs.Runs.{run_of}
use Rattle.cursor.specs.Settle.{is_hidden, bytes_ahead, settled}
use Rattle.cursor.specs.declared.answers.Moved.{Moved}
use Rattle.cursor.specs.declared.look.Look.TheVariants as look
use Rattle.cursor.specs.declared.pass.Pass.{Pass}
use Rattle.cursor.specs.declared.place.Cursor.{Cursor}
use Rattle.cursor.specs.declared.place.Place.TheVariants.{Gone}
use Rattle.cursor.specs.declared.place.RunPlace.{RunPlace}
use Rattle.cursor.proofs.AgainLaws.{shows-gone, live-settles}
use Rattle.cursor.proofs.OpenLaws.{replicate-gone}
use Rattle.cursor.proofs.PassRule.{After, whole, cut, Kept, pass-rule}
use Rattle.cursor.proofs.PlaceLaws.{at-gone, set_other, set-gone}

-- ---- a refused cursor

module _ (bytes ends : List ℕ) (bound : Bound) (lower : List ℕ) (why : Refusal) where
  abbrev Empty : Moved ⊤ → Type 0
  Empty n = n.answer ≡ Err why → n.cursor ≡ record { places = all_gone }

  empty-by : (s : Result (Option ℕ) Refusal) (i : ℕ) (places : List RunPlace) (later : List RunPlace → (Moved ⊤)) → ((q : List RunPlace) → Empty (later q)) → Empty (after_search s i places later)
  unfolding after_search
  empty-by (Ok None) i places later on e = on _ e
  empty-by (Ok (Some at)) i places later on e = on _ e
  empty-by (Err x) i places later on e = refl

  empty-from : (count i : ℕ) (places : List RunPlace) → Empty (new_from bytes ends bound lower count i places)
  unfolding new_from
  empty-from zero i places e = let z : ◌≡◌ {A = ℕ} 0 1 = cc in absurd (omega arith)
  empty-from (suc count) i places e =
      empty-by (search_in (run_of bytes ends i) bound lower) i places (λ p. new_from bytes ends bound lower count (suc i) p)
      (λ q. empty-from count (suc i) q) e

  empty-check : (v : Verdict) → Empty (refused_or v refused_new (new_from bytes ends bound lower (length ends) 0 all_gone))
  empty-check (Ok tt) e = empty-from (length ends) 0 all_gone e
  empty-check (Err x) e = refl

  pub new-refused-empty : (new_of bytes ends bound lower).answer ≡ Err why → (new_of bytes ends bound lower).cursor ≡ record { places = all_gone }
  unfolding new_of
  new-refused-empty e = empty-check (new_check (length bytes) ends) e

-- ---- what next finds there

module _ (bytes ends : List ℕ) (bound : Bound) (upper : List ℕ) where
  record Nothing (i : ℕ) (p : Pass) : Type 0 where
    lowest : p.lowest ≡ Ok None
    places : (k : ℕ) → place_of p.places k ≡ Gone

  kept : Kept bytes ends bound upper Nothing
  kept = record {
    gone = λ i p few h q. record {
      lowest = h.lowest;
      places = λ k. ⊎_elim (λ e. rw e (set-gone p.places i)) (λ n. set_other p.places i k gone n ∙ h.places k) (eq-or-ne k i);
    };
    above = λ i p at r few h s. at-gone (place_of p.places i) at s.place (h.places i);
    level = λ i p at r few h s. at-gone (place_of p.places i) at s.place (h.places i);
    below = λ i p at r few h s. at-gone (place_of p.places i) at s.place (h.places i);
  }

  after_none : (p : Pass) → After bytes ends bound upper Nothing p → p.lowest ≡ Ok None
  after_none p (whole h) = h.lowest
  after_none _ (cut i p why b h q) =
      let z : (Ok look.Gone) ≡ Err why = sym (shows-gone bytes ends bound upper i p (h.places i)) ∙ q in
      let y : ◌≡◌ {A = ℕ} 0 1 = cc in
      absurd (omega arith)

  none-there : (settled bytes ends bound upper all_gone).lowest ≡ Ok None
  unfolding settled is_hidden
  none-there =
      let n : (pass_of bytes ends bound upper all_gone).lowest ≡ Ok None
      = after_none _ (pass-rule bytes ends bound upper Nothing kept all_gone (record { lowest = refl; places = λ k. replicate-gone file_count k })) in
      ap (λ (p : Pass). p.lowest) (live-settles bytes ends bound upper (bytes_ahead ends all_gone) all_gone (ap is_hidden n)) ∙ n

  -- whatever the checks say, no buffer is touched
  module _ (found buffer : List ℕ) (key_room value_room : ℕ) where
    still-by : (v : Verdict) (p : Pass) (c : Cursor) → p.lowest ≡ Ok None → put_by (refused_or v (refused_next c) (entry_by bytes ends key_room value_room p)).answer found buffer ≡ buffer
    unfolding moved_by answer_by put_by
    still-by (Ok tt) p c n = ap (λ (l : Lowest). put_by (entry_answer bytes ends l key_room value_room) found buffer) n
    still-by (Err why) p c n = refl

  pub none-handed : (key value : List ℕ)
      → (next_key bytes ends bound upper (record { places = all_gone }) key value ≡ key) × (next_value bytes ends bound upper (record { places = all_gone }) key value ≡ value)
  unfolding next_key next_value next_of
  none-handed key value = (
    still-by _ key (length key) (length value) (next_check (length bytes) ends all_gone) _ _ none-there,
    still-by _ value (length key) (length value) (next_check (length bytes) ends all_gone) _ _ none-there,
  )

-- On runs of rising keys a new cursor stands where each run's items within the lower bound begin. Assumes nothing.
use Rattle.std.specs.Prelude.{Ok, Err, Some, None, ⊤}
use Rattle.std.specs.declared.option.Option.{Option}
use Rattle.std.specs.declared.result.Result.{Result}
use Rattle.types.specs.declared.refusal.Refusal.{Refusal}
use mathlib.Core.Path.{◌≡◌, refl, ◌∙◌, ap}
use mathlib.Core.Bool.{Bool, true, false, cond, ◌&&◌}
use mathlib.Core.List.{List, []}
use mathlib.Core.Logic.{⊎_elim}
use Prim.Native.Nat.{ℕ, zero, suc, ◌+◌, ◌≤◌, ◌<◌}
use native.Mathlib.Omega.{arith}
use lib.ListN.{length, set, replicate, length-set, length-replicate}
use lib.Seq.{get_or-set_same}
use Rattle.types.specs.Build.{file_count}
use Rattle.types.proofs.TestLaws.{eq-or-ne}
use Rattle.run.specs.Items.{Item, Reads, Rising, Said, nothing, said_in}
use Rattle.run.specs.Kinds.{Bound}
use Rattle.slices.proofs.PartLaws.{part-fits}
use Rattle.cursor.specs.Checks.{good_runs, new_check}
use Rattle.cursor.specs.Merged.{or_else, said, between}
use Rattle.cursor.specs.New.{after_search, new_from, new_of}
use Rattle.cursor.specs.Places.{gone, at_place, place_of, all_gone}
use Rattle.cursor.specs.Runs.{start_of, end_of, run_of}
use Rattle.cursor.specs.Union.{kept}
use Rattle.cursor.specs.declared.answers.Moved.{Moved}
use Rattle.cursor.specs.declared.place.Place.TheVariants.{At, Gone}
use Rattle.cursor.specs.declared.place.RunPlace.{RunPlace}
use Rattle.cursor.proofs.BoundLaws.{within, reaches, asked-between}
use Rattle.cursor.proofs.GoodLaws.{Good, good-set}
use Rattle.cursor.proofs.LiveLaws.{rising-kept, said-kept}
use Rattle.cursor.proofs.MergeLaws.{Left}
use Rattle.cursor.proofs.PlaceLaws.{at-gone, set_other}
use Rattle.cursor.proofs.ShowLaws.{Shows, none, reads-shows, Starts, starts}

pub replicate-gone : (n i : ℕ) → place_of (replicate n gone) i ≡ Gone
replicate-gone zero i = refl
replicate-gone (suc n) zero = refl
replicate-gone (suc n) (suc i) = replicate-gone n i

module _ (low : Bound) (lower : List ℕ) (high : Bound) (upper : List ℕ) where
  -- the items of a run that both bounds take
  abbrev pub taken : List Item → List Item
  taken items = kept (within high upper) (kept (reaches low lower) items)

  -- whether both bounds take a key
  abbrev asked : List ℕ → Bool
  asked key = reaches low lower key && within high upper key

  pub rising-taken : (items : List Item) → Rising items → Rising (taken items)
  rising-taken items h = rising-kept (within high upper) (kept (reaches low lower) items) (rising-kept (reaches low lower) items h)

  said-cond : (a b : Bool) (s : Said) → cond b (cond a s nothing) nothing ≡ cond (a && b) s nothing
  said-cond true true s = refl
  said-cond true false s = refl
  said-cond false true s = refl
  said-cond false false s = refl

  said-taken : (key : List ℕ) (items : List Item) → said_in key (taken items) ≡ cond (asked key) (said_in key items) nothing
  said-taken key items =
      said-kept (within high upper) key (kept (reaches low lower) items)
      ∙ rw (said-kept (reaches low lower) key items) (said-cond (reaches low lower key) (within high upper key) (said_in key items))

  or_else-cond : (b : Bool) (s t : Said) → or_else (cond b s nothing) (cond b t nothing) ≡ cond b (or_else s t) nothing
  unfolding or_else
  or_else-cond true s t = refl
  or_else-cond false s t = refl

  said-asked : (key : List ℕ) (n : ℕ) (items : ℕ → List Item)
      → said key n (λ i. taken (items i)) ≡ cond (asked key) (said key n items) nothing
  unfolding said
  said-asked key zero items = by (asked key)
    where
      by : (b : Bool) → nothing ≡ cond b nothing nothing
      by true = refl
      by false = refl
  said-asked key (suc n) items =
      rw (said-taken key (items n), said-asked key n items) (or_else-cond (asked key) (said_in key (items n)) (said key n items))

  -- what the runs together say of a key within the bounds
  pub said-between : (key : List ℕ) (n : ℕ) (items : ℕ → List Item)
      → said key n (λ i. taken (items i)) ≡ cond (between low lower high upper key) (said key n items) nothing
  said-between key n items =
      said-asked key n items ∙ ap (λ (b : Bool). cond b (said key n items) nothing) (asked-between low lower high upper key)

  module _ (bytes ends : List ℕ) (items : ℕ → List Item) (reads : (i : ℕ) → i < length ends → Reads (run_of bytes ends i) 0 (items i))
      (rising : (i : ℕ) → i < length ends → Rising (items i)) (few : length ends ≤ file_count) where
    -- the runs before run i are searched, and the others gone still
    record Opened (i : ℕ) (places : List RunPlace) : Type 0 where
      size : length places ≡ file_count
      done : (k : ℕ) → k < i → Shows (run_of bytes ends k) high upper (place_of places k) (taken (items k))
      todo : (k : ℕ) → i ≤ k → place_of places k ≡ Gone
      good : Good ends places

    abbrev Made : Moved ⊤ → Type 0
    Made n = (n.answer ≡ Ok tt) × Opened (length ends) n.cursor.places

    module _ (i : ℕ) (places : List RunPlace) (b : i < length ends) (h : Opened i places) where
      none_left : kept (reaches low lower) (items i) ≡ [] → taken (items i) ≡ []
      unfolding kept
      none_left e = rw e

      opened-gone : kept (reaches low lower) (items i) ≡ [] → Opened (suc i) places
      opened-gone e = record {
        size = h.size;
        done = λ k m. ⊎_elim (λ q. rw q (rw (h.todo i (omega arith), none_left e) none)) (λ n. h.done k (omega arith)) (eq-or-ne k i);
        todo = λ k m. h.todo k (omega arith);
        good = h.good;
      }

      opened-at : (at : ℕ) → at ≤ length (run_of bytes ends i) → Reads (run_of bytes ends i) at (kept (reaches low lower) (items i))
          → Opened (suc i) (set places i (at_place at))
      opened-at at m r =
          let there : place_of (set places i (at_place at)) i ≡ At at
          = ap (λ (y : RunPlace). y.place) (get_or-set_same places i (at_place at) gone (omega (arith, h.size))) in
          let s = reads-shows (run_of bytes ends i) high upper at _ r (rising-kept (reaches low lower) (items i) (rising i b)) in
          record {
            size = length-set places i (at_place at) ∙ h.size;
            done = λ k n. ⊎_elim (λ q. rw q (rw there s)) (λ d. rw (set_other places i k (at_place at) d) (h.done k (omega arith))) (eq-or-ne k i);
            todo = λ k n. set_other places i k (at_place at) (λ q. omega arith) ∙ h.todo k (omega arith);
            good = good-set ends places i at b (omega (arith, part-fits bytes (start_of ends i) (end_of ends i))) h.good;
          }

      opened-by : (later : List RunPlace → (Moved ⊤)) → ((q : List RunPlace) → Opened (suc i) q → Made (later q))
          → (s : Result (Option ℕ) Refusal) → Starts (run_of bytes ends i) (kept (reaches low lower) (items i)) s → Made (after_search s i places later)
      unfolding after_search
      opened-by later on (Ok None) st = on places (opened-gone st)
      opened-by later on (Ok (Some at)) st = on (set places i (at_place at)) (opened-at at st.0 st.1)
      opened-by later on (Err why) st = absurd st

    opened-from : (count i : ℕ) → i + count ≡ length ends → (places : List RunPlace) → Opened i places → Made (new_from bytes ends low lower count i places)
    unfolding new_from
    opened-from zero i e places h = let z : i ≡ length ends = omega arith in (refl, rw z at h)
    opened-from (suc count) i e places h =
        opened-by i places (omega arith) h (λ q. new_from bytes ends low lower count (suc i) q) (λ q k. opened-from count (suc i) (omega arith) q k) _
        (starts (run_of bytes ends i) lower low (items i) (reads i (omega arith)) (rising i (omega arith)))

    unopened : Opened 0 all_gone
    unopened = record {
      size = length-replicate file_count gone;
      done = λ k m. absurd (omega arith);
      todo = λ k m. replicate-gone file_count k;
      good = λ k at f p. at-gone (place_of all_gone k) at p (replicate-gone file_count k);
    }

    made : good_runs (length bytes) ends ≡ true → Made (new_of bytes ends low lower)
    unfolding new_of new_check
    made g = rw g (opened-from (length ends) 0 (omega arith) all_gone unopened)

    pub opened : good_runs (length bytes) ends ≡ true
        → ((new_of bytes ends low lower).answer ≡ Ok tt) × Good ends (new_of bytes ends low lower).cursor.places
        × Left bytes ends high upper (λ i. taken (items i)) (new_of bytes ends low lower).cursor.places
    opened g = let m = made g in (m.0, m.1.good, m.1.done)

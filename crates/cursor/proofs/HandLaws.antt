-- Calls of next with room for every key and value hand out all pairs that are to come, and then the end. Assumes nothing.
use Rattle.cursor.specs.declared.answers.Entry.{Entry}
use Rattle.std.specs.declared.option.Option.{Option}
use Rattle.std.specs.Prelude.{Ok, Err, Some, None}
use mathlib.Core.Path.{◌≡◌, refl, sym, ◌∙◌, ap, ap₂, subst}
use mathlib.Core.Bool.{true}
use mathlib.Core.List.{List, [], ◌∷◌}
use Prim.Native.Nat.{ℕ, ◌≤◌}
use native.Mathlib.Omega.{arith}
use lib.ListN.{length, take}
use Rattle.types.specs.Build.{max_key_size, max_value_size, file_count}
use Rattle.slices.specs.Patch.{over}
use Rattle.slices.proofs.PatchLaws.{length_over, part-over}
use Rattle.run.specs.Items.{Item}
use Rattle.run.specs.Kinds.{Bound}
use Rattle.run.specs.declared.record.Record.{Record}
use Rattle.cursor.specs.Checks.{good_runs}
use Rattle.cursor.specs.Merged.{Pair, Hands, end, entry}
use Rattle.cursor.specs.Next.{answer_by, entry_answer, places_by, put_by, moved_by, next_of, next_key, next_value}
use Rattle.cursor.specs.Pass.{lowest_key, lowest_value, Lowest}
use Rattle.cursor.specs.Settle.{settled}
use Rattle.cursor.specs.declared.answers.Moved.{Moved}
use Rattle.cursor.specs.declared.pass.Pass.{Pass}
use Rattle.cursor.specs.declared.place.Cursor.{Cursor}
use Rattle.cursor.proofs.CheckLaws.{good-few}
use Rattle.cursor.proofs.GoodLaws.{Good, good-check}
use Rattle.cursor.proofs.ComingLaws.{coming, pair_of, First, Comes, settled-comes}
use Rattle.cursor.proofs.MergeLaws.{Left, Fits}
use Rattle.cursor.proofs.NextLaws.{fitted-whole}

abbrev paired : List ℕ → List ℕ → Pair
paired key value = record { key = key; value = value }

module _ (bytes ends : List ℕ) (bound : Bound) (upper : List ℕ) (good : good_runs (length bytes) ends ≡ true) where
  few : length ends ≤ file_count
  few = good-few (length bytes) ends good

  -- ---- one call

  module _ (c : Cursor) (key value : List ℕ) (g : Good ends c.places) where
    abbrev last : Pass
    last = settled bytes ends bound upper c.places

    moved : next_of bytes ends bound upper c (length key) (length value)
        ≡ moved_by (entry_answer bytes ends (settled bytes ends bound upper c.places).lowest (length key) (length value)) (settled bytes ends bound upper c.places)
    unfolding next_of
    moved = rw (good-check ends c.places g (length bytes) good)

    -- nothing is to come
    none-answer : last.lowest ≡ Ok None → (next_of bytes ends bound upper c (length key) (length value)).answer ≡ Ok None
    unfolding moved_by answer_by
    none-answer e = rw moved (rw e)

    -- an entry
    module _ (j : ℕ) (x : Record) (e : last.lowest ≡ Ok (Some (record { run = j; head = x }))) (f : Fits bytes ends j x)
        (key_room : max_key_size ≤ length key) (value_room : max_value_size ≤ length value) where
      entry-by : entry_answer bytes ends last.lowest (length key) (length value)
          ≡ Ok (Some (record { key_len = length (pair_of bytes ends j x).key; value_len = length (pair_of bytes ends j x).value }))
      unfolding answer_by lowest_key lowest_value
      entry-by = rw e (sym (fitted-whole _ _ _ _ (omega (arith, f.key)) (omega (arith, f.value))))

      entry-moved : next_of bytes ends bound upper c (length key) (length value)
          ≡ record {
            cursor = record { places = last.stepped };
            answer = Ok (Some (record { key_len = length (pair_of bytes ends j x).key; value_len = length (pair_of bytes ends j x).value }));
          }
      unfolding moved_by places_by
      entry-moved = moved ∙ rw entry-by

      entry_key : next_key bytes ends bound upper c key value ≡ over (pair_of bytes ends j x).key key
      unfolding next_key put_by lowest_key
      entry_key = rw (entry-moved, e)

      entry_value : next_value bytes ends bound upper c key value ≡ over (pair_of bytes ends j x).value value
      unfolding next_value put_by lowest_value
      entry_value = rw (entry-moved, e)

  -- ---- all calls

  abbrev next-cursor : Cursor → List ℕ → List ℕ → Cursor
  next-cursor c key value = (next_of bytes ends bound upper c (length key) (length value)).cursor

  module _ (pairs : List Pair)
      (later : (c : Cursor) (key value : List ℕ) (items : ℕ → List Item) → Good ends c.places → Left bytes ends bound upper items c.places
      → max_key_size ≤ length key → max_value_size ≤ length value → coming ends items ≡ pairs → Hands bytes ends bound upper c key value pairs)
      (c : Cursor) (key value : List ℕ) (items : ℕ → List Item) (g : Good ends c.places)
      (key_room : max_key_size ≤ length key) (value_room : max_value_size ≤ length value) where
    -- the first pair is handed out, and the later calls hand out the rest
    first-handed : (j : ℕ) (x : Record) → (settled bytes ends bound upper c.places).lowest ≡ Ok (Some (record { run = j; head = x }))
        → Good ends (settled bytes ends bound upper c.places).stepped
        → (t : First bytes ends bound upper items (settled bytes ends bound upper c.places) j x)
        → coming ends t.rest ≡ pairs
        → Hands bytes ends bound upper c key value (pair_of bytes ends j x ∷ pairs)
    first-handed j x e s t q =
        let k = (pair_of bytes ends j x).key in
        let v = (pair_of bytes ends j x).value in
        let m = entry-moved c key value g j x e t.fits key_room value_room in
        let ek = entry_key c key value g j x e t.fits key_room value_room in
        let ev = entry_value c key value g j x e t.fits key_room value_room in
        let at : next-cursor c key value ≡ record { places = (settled bytes ends bound upper c.places).stepped } = ap (λ (y : Moved (Option Entry)). y.cursor) m in
        let kl : length (over k key) ≡ length key = length_over k key in
        let vl : length (over v value) ≡ length value = length_over v value in
        let rest = later (next-cursor c key value) (next_key bytes ends bound upper c key value) (next_value bytes ends bound upper c key value) t.rest
        (rw at s) (rw at t.left) (rw ek (omega arith)) (rw ev (omega arith)) q in
        let one = ap₂ paired (ap (take (length k)) ek ∙ part-over k key (omega (arith, t.fits.key))) (ap (take (length v)) ev ∙ part-over v value (omega (arith, t.fits.value))) in
        subst (λ (y : Pair). Hands bytes ends bound upper c key value (y ∷ pairs)) one (entry (length k) (length v) (ap (λ (y : Moved (Option Entry)). y.answer) m) rest)

    -- what is to come has a first pair, so the passes find it
    more_by : (y : Pair) → coming ends items ≡ y ∷ pairs → (l : Lowest) → (settled bytes ends bound upper c.places).lowest ≡ l
        → Good ends (settled bytes ends bound upper c.places).stepped
        → Comes bytes ends bound upper items (settled bytes ends bound upper c.places) l
        → Hands bytes ends bound upper c key value (y ∷ pairs)
    more_by y q (Ok None) e s t = let z : [] ≡ y ∷ pairs = sym t ∙ q in let w : ◌≡◌ {A = ℕ} 0 1 = cc in absurd (omega arith)
    more_by y q (Ok (Some held)) e s t =
        let z : pair_of bytes ends held.run held.head ∷ coming ends t.rest ≡ y ∷ pairs = sym t.first ∙ q in
        let one : pair_of bytes ends held.run held.head ≡ y = cc in
        let rest : coming ends t.rest ≡ pairs = cc in
        subst (λ (w : Pair). Hands bytes ends bound upper c key value (w ∷ pairs)) one (first-handed held.run held.head e s t rest)
    more_by y q (Err why) e s t = absurd t

  none-by : (c : Cursor) (key value : List ℕ) (items : ℕ → List Item) → Good ends c.places → coming ends items ≡ []
      → (l : Lowest) → (settled bytes ends bound upper c.places).lowest ≡ l
      → Comes bytes ends bound upper items (settled bytes ends bound upper c.places) l → Hands bytes ends bound upper c key value []
  none-by c key value items g q (Ok None) e t = end (none-answer c key value g e)
  none-by c key value items g q (Ok (Some held)) e t =
      let z : [] ≡ pair_of bytes ends held.run held.head ∷ coming ends t.rest = sym q ∙ t.first in
      let w : ◌≡◌ {A = ℕ} 0 1 = cc in
      absurd (omega arith)
  none-by c key value items g q (Err why) e t = absurd t

  pub hands : (pairs : List Pair) (c : Cursor) (key value : List ℕ) (items : ℕ → List Item) → Good ends c.places → Left bytes ends bound upper items c.places
      → max_key_size ≤ length key → max_value_size ≤ length value → coming ends items ≡ pairs → Hands bytes ends bound upper c key value pairs
  hands [] c key value items g l kr vr q =
      let s = settled-comes bytes ends bound upper few c.places items l g in
      none-by c key value items g q _ refl s.comes
  hands (y ∷ pairs) c key value items g l kr vr q =
      let s = settled-comes bytes ends bound upper few c.places items l g in
      more_by pairs (λ c' key' value' items' g' l' kr' vr' q'. hands pairs c' key' value' items' g' l' kr' vr' q')
      c key value items g kr vr y q _ refl s.stepped s.comes

-- What an entry is on any runs, whatever the calls after it answer. A pass found it: it is a record at the head of its run,
-- no run's head is below it, no newer run holds its key, and its holders have stepped on. It is live, and its key and value
-- stand at the start of their buffers. Assumes nothing.
use Rattle.std.specs.Prelude.{Ok, Err, Some, None}
use Rattle.cursor.specs.Answers.{NextAnswer}
use mathlib.Core.Path.{◌≡◌, refl, sym, ◌∙◌, ap}
use mathlib.Core.Bool.{Bool, true, false, cond}
use mathlib.Core.List.{List}
use Prim.Native.Nat.{ℕ, zero, suc, ◌≤◌}
use native.Mathlib.Nat.{le_refl}
use native.Mathlib.Omega.{arith}
use lib.Dec.{ltb}
use lib.ListN.{length, take}
use borrow.Author.Tests.{ltb-false}
use Rattle.types.specs.Build.{file_count}
use Rattle.types.specs.Checks.{refused_or, Verdict}
use Rattle.types.specs.declared.refusal.Refusal.TheVariants.{KeyBufferTooSmall, ValueBufferTooSmall}
use Rattle.slices.proofs.PatchLaws.{part-over}
use Rattle.run.specs.Records.{key_in, value_in}
use Rattle.run.specs.Kinds.{Bound}
use Rattle.run.specs.declared.record.Record.{Record}
use Rattle.cursor.specs.Checks.{next_check}
use Rattle.cursor.specs.Next.{fitted, answer_by, entry_answer, places_by, put_by, moved_by, entry_by, refused_next, next_of, next_key, next_value}
use Rattle.cursor.specs.Pass.{lowest_key, lowest_value, pass_of, Lowest}
use Rattle.cursor.specs.Runs.{run_of}
use Rattle.cursor.specs.Settle.{is_hidden, bytes_ahead, settle_from, settled}
use Rattle.cursor.specs.declared.answers.Entry.{Entry}
use Rattle.cursor.specs.declared.pass.Pass.{Pass}
use Rattle.cursor.specs.declared.place.Cursor.{Cursor}
use Rattle.cursor.specs.declared.place.RunPlace.{RunPlace}
use Rattle.cursor.proofs.CallLaws.{next-few}
use Rattle.cursor.proofs.FallLaws.{falls}
use Rattle.cursor.proofs.PassClaims.{Finds, pass-finds}

-- an entry is answered only where both have room
room_by : (key_room value_room key_len value_len k v : ℕ) (s t : Bool) → ltb key_room key_len ≡ s → ltb value_room value_len ≡ t
    → cond {A = NextAnswer} s (Err KeyBufferTooSmall) (cond t (Err ValueBufferTooSmall) (Ok (Some (record { key_len = key_len; value_len = value_len }))))
    ≡ Ok (Some (record { key_len = k; value_len = v }))
    → (key_len ≡ k) × (value_len ≡ v) × (key_len ≤ key_room) × (value_len ≤ value_room)
room_by key_room value_room key_len value_len k v true t p q e = let z : ◌≡◌ {A = ℕ} 0 1 = cc in absurd (omega arith)
room_by key_room value_room key_len value_len k v false true p q e = let z : ◌≡◌ {A = ℕ} 0 1 = cc in absurd (omega arith)
room_by key_room value_room key_len value_len k v false false p q e =
    let same : ◌≡◌ {A = Entry} (record { key_len = key_len; value_len = value_len }) (record { key_len = k; value_len = v }) = cc in
    let ek : key_len ≡ k = ap (λ (x : Entry). x.key_len) same in
    let ev : value_len ≡ v = ap (λ (x : Entry). x.value_len) same in
    (ek, ev, ltb-false key_room key_len p, ltb-false value_room value_len q)

module _ (bytes ends : List ℕ) (bound : Bound) (upper : List ℕ) where
  -- ---- the passes settle on one that found no deletion

  abbrev Live : Pass → Type 0
  Live q =
      (start : List RunPlace) × (q ≡ pass_of bytes ends bound upper start) × (is_hidden (pass_of bytes ends bound upper start).lowest ≡ false)

  turn : (places : List RunPlace) (later : Pass) → (is_hidden (pass_of bytes ends bound upper places).lowest ≡ true → Live later)
      → (b : Bool) → is_hidden (pass_of bytes ends bound upper places).lowest ≡ b → Live (cond b later (pass_of bytes ends bound upper places))
  turn places later on true d = on d
  turn places later on false d = (places, refl, d)

  turn_last : length ends ≤ file_count → (places : List RunPlace) → bytes_ahead ends places ≤ 0
      → (b : Bool) → is_hidden (pass_of bytes ends bound upper places).lowest ≡ b → Live (pass_of bytes ends bound upper places)
  turn_last few places m true d = absurd (omega (arith, falls bytes ends bound upper places few d))
  turn_last few places m false d = (places, refl, d)

  settle-live : length ends ≤ file_count → (more : ℕ) (places : List RunPlace) → bytes_ahead ends places ≤ more
      → Live (settle_from bytes ends bound upper more places)
  unfolding settle_from
  settle-live few zero places m = turn_last few places m _ refl
  settle-live few (suc more) places m =
      turn places (settle_from bytes ends bound upper more (pass_of bytes ends bound upper places).stepped)
      (λ d. settle-live few more (pass_of bytes ends bound upper places).stepped (omega (arith, falls bytes ends bound upper places few d))) _ refl

  settled-live : length ends ≤ file_count → (places : List RunPlace) → Live (settled bytes ends bound upper places)
  unfolding settled
  settled-live few places = settle-live few (bytes_ahead ends places) places (le_refl _)

  -- ---- the entry

  module _ (c : Cursor) (key value : List ℕ) (k v : ℕ) where
    abbrev last : Pass
    last = settled bytes ends bound upper c.places

    -- what an entry is
    pub record IsEntry : Type 0 where
      pub start : List RunPlace
      pub run : ℕ
      pub held : Record
      pub found : Finds bytes ends bound upper start (pass_of bytes ends bound upper start) run held
      pub live : held.deleted ≡ false
      pub key-is : take k (next_key bytes ends bound upper c key value) ≡ key_in (run_of bytes ends run) held
      pub value-is : take v (next_value bytes ends bound upper c key value) ≡ value_in (run_of bytes ends run) held
      pub steps : (next_of bytes ends bound upper c (length key) (length value)).cursor.places ≡ (pass_of bytes ends bound upper start).stepped

    fine-by : (ch : Verdict) (p : Pass) → (refused_or ch (refused_next c) (entry_by bytes ends (length key) (length value) p)).answer ≡ Ok (Some (record { key_len = k; value_len = v }))
        → (ch ≡ Ok tt) × (entry_answer bytes ends p.lowest (length key) (length value) ≡ Ok (Some (record { key_len = k; value_len = v })))
        × ((refused_or ch (refused_next c) (entry_by bytes ends (length key) (length value) p)).cursor.places ≡ p.stepped)
    unfolding moved_by places_by
    fine-by (Ok tt) p e = (refl, e, ap (λ (a : NextAnswer). places_by a p) e)
    fine-by (Err why) p e = let z : ◌≡◌ {A = ℕ} 0 1 = cc in absurd (omega arith)

    found-by : (l : Lowest) → entry_answer bytes ends l (length key) (length value) ≡ Ok (Some (record { key_len = k; value_len = v }))
        → (j : ℕ) × (x : Record) × (l ≡ Ok (Some (record { run = j; head = x }))) × (length (key_in (run_of bytes ends j) x) ≡ k)
        × (length (value_in (run_of bytes ends j) x) ≡ v) × (length (key_in (run_of bytes ends j) x) ≤ length key)
        × (length (value_in (run_of bytes ends j) x) ≤ length value)
    unfolding answer_by fitted lowest_key lowest_value
    found-by (Ok None) e = let z : ◌≡◌ {A = ℕ} 0 1 = cc in absurd (omega arith)
    found-by (Ok (Some held)) e = let room = room_by _ _ _ _ k v _ _ refl refl e in (held.run, held.head, refl, room.0, room.1, room.2, room.3)
    found-by (Err why) e = let z : ◌≡◌ {A = ℕ} 0 1 = cc in absurd (omega arith)

    module _ (e : (next_of bytes ends bound upper c (length key) (length value)).answer ≡ Ok (Some (record { key_len = k; value_len = v }))) where
      fine : (next_check (length bytes) ends c.places ≡ Ok tt)
          × (entry_answer bytes ends last.lowest (length key) (length value) ≡ Ok (Some (record { key_len = k; value_len = v })))
          × ((next_of bytes ends bound upper c (length key) (length value)).cursor.places ≡ last.stepped)
      unfolding next_of
      fine = fine-by (next_check (length bytes) ends c.places) last e

      module _ (j : ℕ) (x : Record) (f : last.lowest ≡ Ok (Some (record { run = j; head = x }))) where
        key-put : length (key_in (run_of bytes ends j) x) ≡ k → length (key_in (run_of bytes ends j) x) ≤ length key
            → take k (next_key bytes ends bound upper c key value) ≡ key_in (run_of bytes ends j) x
        unfolding next_key put_by lowest_key
        key-put n room = rw (e, f, ← n) (part-over (key_in (run_of bytes ends j) x) key room)

        value-put : length (value_in (run_of bytes ends j) x) ≡ v → length (value_in (run_of bytes ends j) x) ≤ length value
            → take v (next_value bytes ends bound upper c key value) ≡ value_in (run_of bytes ends j) x
        unfolding next_value put_by lowest_value
        value-put n room = rw (e, f, ← n) (part-over (value_in (run_of bytes ends j) x) value room)

        is_live : is_hidden last.lowest ≡ false → x.deleted ≡ false
        unfolding is_hidden
        is_live d = rw f at d

      pub entry-is : IsEntry
      entry-is =
          let few : length ends ≤ file_count = next-few (length bytes) ends c.places fine.0 in
          let l = settled-live few c.places in
          let w = found-by last.lowest fine.1 in
          let f : last.lowest ≡ Ok (Some (record { run = w.0; head = w.1 })) = w.2 in
          let same : last.lowest ≡ (pass_of bytes ends bound upper l.0).lowest = ap (λ (p : Pass). p.lowest) l.1 in
          record {
            start = l.0;
            run = w.0;
            held = w.1;
            found = pass-finds bytes ends bound upper l.0 w.0 w.1 (sym same ∙ f);
            live = is_live w.0 w.1 f (ap is_hidden same ∙ l.2);
            key-is = key-put w.0 w.1 f w.3 w.5;
            value-is = value-put w.0 w.1 f w.4 w.6;
            steps = fine.2 ∙ ap (λ (p : Pass). p.stepped) l.1;
          }

-- What passes over deletions come to: the first live pair of all runs together, or that there is none. Assumes nothing.
use Rattle.std.specs.Prelude.{Ok, Err, Some, None}
use mathlib.Core.Path.{◌≡◌, refl, ◌∙◌, ap}
use mathlib.Core.Bool.{Bool, true, false, cond}
use mathlib.Core.List.{List, [], ◌∷◌}
use Prim.Native.Nat.{ℕ, zero, suc, ◌≤◌}
use native.Mathlib.Nat.{le_refl}
use native.Mathlib.Omega.{arith}
use lib.ListN.{length}
use Rattle.types.specs.Build.{file_count}
use Rattle.run.specs.Items.{Item}
use Rattle.run.specs.Records.{key_in, value_in}
use Rattle.run.specs.Kinds.{Bound}
use Rattle.run.specs.declared.record.Record.{Record}
use Rattle.cursor.specs.Merged.{Pair}
use Rattle.cursor.specs.Pass.{pass_of, Lowest}
use Rattle.cursor.specs.Runs.{run_of}
use Rattle.cursor.specs.Settle.{is_hidden, bytes_ahead, settle_from, settled}
use Rattle.cursor.specs.Union.{union, lives}
use Rattle.cursor.specs.declared.pass.Pass.{Pass}
use Rattle.cursor.specs.declared.place.RunPlace.{RunPlace}
use Rattle.cursor.proofs.FallLaws.{falls}
use Rattle.cursor.proofs.GoodLaws.{Good, pass-good}
use Rattle.cursor.proofs.LiveLaws.{lives-live, lives-hidden, lives-none}
use Rattle.cursor.proofs.MergeLaws.{Left, Fits, Tops, Takes, item_of, pass-takes}

-- all pairs that are to come
abbrev pub coming : List ℕ → (ℕ → List Item) → List Pair
coming ends items = lives (union (length ends) items)

abbrev pub pair_of : List ℕ → List ℕ → ℕ → Record → Pair
pair_of bytes ends i r = record { key = key_in (run_of bytes ends i) r; value = value_in (run_of bytes ends i) r }

module _ (bytes ends : List ℕ) (bound : Bound) (upper : List ℕ) where
  -- ---- what the passes come to

  module _ (items : ℕ → List Item) where
    -- the record found is the first pair, and the places stepped on to have the rest
    pub record First (p : Pass) (j : ℕ) (x : Record) : Type 0 where
      pub fits : Fits bytes ends j x
      pub rest : ℕ → List Item
      pub left : Left bytes ends bound upper rest p.stepped
      pub first : coming ends items ≡ pair_of bytes ends j x ∷ coming ends rest

    abbrev pub Comes : Pass → Lowest → Type 0
    Comes p (Ok None) = coming ends items ≡ []
    Comes p (Ok (Some held)) = First p held.run held.head
    Comes p (Err why) = ⊥

    -- a pass that found no deletion
    live-comes : (p : Pass) (l : Lowest) → Tops bytes ends bound upper items (length ends) p l → is_hidden l ≡ false → Comes p l
    unfolding is_hidden
    live-comes p (Ok None) t d = lives-none (union (length ends) items) t
    live-comes p (Ok (Some held)) t d = record {
      fits = t.fits;
      rest = t.rest;
      left = t.left;
      first = ap lives t.first ∙ lives-live (item_of bytes ends held.run held.head) (union (length ends) t.rest) d;
    }
    live-comes p (Err why) t d = t

    -- one that found a deletion
    hidden-rest : (p : Pass) (l : Lowest) → Tops bytes ends bound upper items (length ends) p l → is_hidden l ≡ true
        → (rest : ℕ → List Item) × Left bytes ends bound upper rest p.stepped × (coming ends items ≡ coming ends rest)
    unfolding is_hidden
    hidden-rest p (Ok None) t d = let z : false ≡ true = d in let y : ◌≡◌ {A = ℕ} 0 1 = cc in absurd (omega arith)
    hidden-rest p (Ok (Some held)) t d =
        (t.rest, t.left, ap lives t.first ∙ lives-hidden (item_of bytes ends held.run held.head) (union (length ends) t.rest) d)
    hidden-rest p (Err why) t d = absurd t

    pub record Settled (p : Pass) : Type 0 where
      pub comes : Comes p p.lowest
      pub places : Good ends p.places
      pub stepped : Good ends p.stepped

  comes-same : (items rest : ℕ → List Item) (p : Pass) (l : Lowest) → coming ends items ≡ coming ends rest → Comes rest p l → Comes items p l
  comes-same items rest p (Ok None) e c = e ∙ c
  comes-same items rest p (Ok (Some held)) e c = record { fits = c.fits; rest = c.rest; left = c.left; first = e ∙ c.first }
  comes-same items rest p (Err why) e c = c

  module _ (few : length ends ≤ file_count) (start : List RunPlace) (items : ℕ → List Item) (l : Left bytes ends bound upper items start) (g : Good ends start) where
    found : Takes bytes ends bound upper items (length ends) (pass_of bytes ends bound upper start)
    found = pass-takes bytes ends bound upper items start l

    live-settled : is_hidden (pass_of bytes ends bound upper start).lowest ≡ false → Settled items (pass_of bytes ends bound upper start)
    live-settled d = record {
      comes = live-comes items (pass_of bytes ends bound upper start) (pass_of bytes ends bound upper start).lowest found.top d;
      places = (pass-good bytes ends bound upper start g).0;
      stepped = (pass-good bytes ends bound upper start g).1;
    }

    -- a deletion is passed over, and what is to come is the same without it
    hidden-next : is_hidden (pass_of bytes ends bound upper start).lowest ≡ true
        → (rest : ℕ → List Item) × Left bytes ends bound upper rest (pass_of bytes ends bound upper start).stepped × (coming ends items ≡ coming ends rest)
    hidden-next d = hidden-rest items (pass_of bytes ends bound upper start) (pass_of bytes ends bound upper start).lowest found.top d

    turn : (later : Pass) → (is_hidden (pass_of bytes ends bound upper start).lowest ≡ true → Settled items later)
        → (b : Bool) → is_hidden (pass_of bytes ends bound upper start).lowest ≡ b → Settled items (cond b later (pass_of bytes ends bound upper start))
    turn later on true d = on d
    turn later on false d = live-settled d

    turn_last : bytes_ahead ends start ≤ 0 → (b : Bool) → is_hidden (pass_of bytes ends bound upper start).lowest ≡ b → Settled items (pass_of bytes ends bound upper start)
    turn_last m true d = absurd (omega (arith, falls bytes ends bound upper start few d))
    turn_last m false d = live-settled d

  carried : (items rest : ℕ → List Item) (p : Pass) → coming ends items ≡ coming ends rest → Settled rest p → Settled items p
  carried items rest p e s = record { comes = comes-same items rest p p.lowest e s.comes; places = s.places; stepped = s.stepped }

  settle-by : length ends ≤ file_count → (more : ℕ) (start : List RunPlace) (items : ℕ → List Item) → Left bytes ends bound upper items start → Good ends start → bytes_ahead ends start ≤ more
      → Settled items (settle_from bytes ends bound upper more start)
  unfolding settle_from
  settle-by few zero start items l g m = turn_last few start items l g m _ refl
  settle-by few (suc more) start items l g m =
      turn few start items l g (settle_from bytes ends bound upper more (pass_of bytes ends bound upper start).stepped)
      (λ d.
      let h = hidden-next few start items l g d in
      carried items h.0 _ h.2
      (settle-by few more (pass_of bytes ends bound upper start).stepped h.0 h.1 (pass-good bytes ends bound upper start g).1
      (omega (arith, falls bytes ends bound upper start few d))))
      _ refl

  -- the passes find the first pair that is to come, or that there is none
  pub settled-comes : length ends ≤ file_count → (start : List RunPlace) (items : ℕ → List Item) → Left bytes ends bound upper items start → Good ends start
      → Settled items (settled bytes ends bound upper start)
  unfolding settled
  settled-comes few start items l g = settle-by few (bytes_ahead ends start) start items l g (le_refl _)

-- A pass takes the first item off all runs together, and steps on to the rest. Assumes nothing.
use Rattle.std.specs.Prelude.{Ok, Err, Some, None}
use mathlib.Core.Path.{◌≡◌, refl, sym, ◌∙◌, ap}
use mathlib.Core.Bool.{cond}
use mathlib.Core.List.{List, [], ◌∷◌}
use mathlib.Core.Logic.{⊎_elim}
use Prim.Native.Nat.{ℕ, suc, ◌≤◌, ◌<◌}
use native.Mathlib.Nat.{le_refl}
use native.Mathlib.Omega.{arith}
use lib.Dec.{eqb}
use lib.ListN.{length, set}
use borrow.Author.Tests.{eq-eqb, ne_eqb}
use Rattle.types.specs.Build.{max_key_size, max_value_size}
use Rattle.types.specs.declared.refusal.Refusal.{Refusal}
use Rattle.types.proofs.TestLaws.{eq-or-ne}
use Rattle.run.specs.Items.{Item, item_in}
use Rattle.run.specs.Records.{head_at, key_in, value_in}
use Rattle.run.specs.Kinds.{Bound}
use Rattle.std.specs.declared.cmp.Ordering.{Ordering}
use Rattle.std.specs.declared.cmp.Ordering.TheVariants.{Less, Equal, Greater}
use Rattle.run.specs.declared.record.Record.{Record}
use Rattle.run.proofs.FitLaws.{head-lies}
use Rattle.slices.proofs.PartLaws.{part-fits}
use Rattle.cursor.specs.Pass.{against_lowest, lowest_key, shows, with_gone, with_holder, with_lowest, pass_of, Lowest}
use Rattle.cursor.specs.Places.{gone, at_place, place_of}
use Rattle.cursor.specs.Runs.{run_of}
use Rattle.cursor.specs.Union.{laid, union}
use Rattle.cursor.specs.declared.look.Look.TheVariants as look
use Rattle.cursor.specs.declared.pass.Pass.{Pass}
use Rattle.cursor.specs.declared.place.Place.TheVariants.{At}
use Rattle.cursor.specs.declared.place.RunPlace.{RunPlace}
use Rattle.cursor.proofs.PassRule.{standing, Sees, After, whole, cut, Kept, pass-rule}
use Rattle.cursor.proofs.PlaceLaws.{set_other, set-gone, set_there}
use Rattle.cursor.proofs.ShowLaws.{Shows, none, shows-item, shows-at, shows-none, shows-fine}
use Rattle.cursor.proofs.UnionLaws.{laid-less, laid-equal, laid-greater, laid_none, laid-empty, union-same}

-- ---- one run's items instead of others

abbrev instead : (ℕ → List Item) → ℕ → List Item → ℕ → List Item
instead f i items k = cond (eqb k i) items (f k)

instead-same : (f : ℕ → List Item) (i : ℕ) (items : List Item) (k : ℕ) → k ≡ i → instead f i items k ≡ items
instead-same f i items k e = rw (eq-eqb k i e)

instead-other : (f : ℕ → List Item) (i : ℕ) (items : List Item) (k : ℕ) → (k ≡ i → ⊥) → instead f i items k ≡ f k
instead-other f i items k n = rw (ne_eqb k i n)

union-instead : (i : ℕ) (f : ℕ → List Item) (items : List Item) → union (suc i) (instead f i items) ≡ laid items (union i f)
unfolding union
union-instead i f items =
    rw (instead-same f i items i refl, union-same i (instead f i items) f (λ k b. instead-other f i items k (λ e. omega arith)))

union-nothing : (items : ℕ → List Item) → union 0 items ≡ []
unfolding union
union-nothing items = refl

-- ---- a record of a run

abbrev pub item_of : List ℕ → List ℕ → ℕ → Record → Item
item_of bytes ends i r = item_in (run_of bytes ends i) r

module _ (bytes ends : List ℕ) where
  -- a record's key and value are within their limits
  pub record Fits (i : ℕ) (r : Record) : Type 0 where
    pub key : length (key_in (run_of bytes ends i) r) ≤ max_key_size
    pub value : length (value_in (run_of bytes ends i) r) ≤ max_value_size

  fits : (i at : ℕ) (r : Record) → head_at (run_of bytes ends i) at ≡ Ok (Some r) → Fits i r
  fits i at r h =
      let run = run_of bytes ends i in
      let l = head-lies run at r h in
      record {
        key = omega (arith, l.key_limit, part-fits run r.key r.value);
        value = omega (arith, l.value_limit, part-fits run r.value r.next);
      }

module _ (bytes ends : List ℕ) (bound : Bound) (upper : List ℕ) where
  -- from these places on the runs show these items
  abbrev pub Left : (ℕ → List Item) → List RunPlace → Type 0
  Left items places = (i : ℕ) → i < length ends → Shows (run_of bytes ends i) bound upper (place_of places i) (items i)

  left-gone : (items : ℕ → List Item) (places : List RunPlace) (i : ℕ) → items i ≡ [] → Left items places → Left items (set places i gone)
  left-gone items places i e h =
      λ k b. ⊎_elim (λ q. rw q (rw (set-gone places i, e) none)) (λ n. rw (set_other places i k gone n) (h k b)) (eq-or-ne k i)

  left-set : (items : ℕ → List Item) (places : List RunPlace) (i at n : ℕ) (rest : List Item) → place_of places i ≡ At at
      → Shows (run_of bytes ends i) bound upper (At n) rest → Left items places → Left (instead items i rest) (set places i (at_place n))
  left-set items places i at n rest p s h =
      λ k b. ⊎_elim (λ q. rw q (rw (set_there places i at (at_place n) p, instead-same items i rest i refl) s))
      (λ d. rw (set_other places i k (at_place n) d, instead-other items i rest k d) (h k b)) (eq-or-ne k i)

  -- ---- what a pass keeps

  module _ (items : ℕ → List Item) where
    -- the record found is the first item of the runs seen, and the places stepped on to show the rest
    pub record Top (i : ℕ) (p : Pass) (j : ℕ) (x : Record) : Type 0 where
      pub fits : Fits bytes ends j x
      pub rest : ℕ → List Item
      pub left : Left rest p.stepped
      pub ahead : (k : ℕ) → i ≤ k → rest k ≡ items k
      pub first : union i items ≡ item_of bytes ends j x ∷ union i rest

    abbrev pub Tops : ℕ → Pass → Lowest → Type 0
    Tops i p (Ok None) = union i items ≡ []
    Tops i p (Ok (Some held)) = Top i p held.run held.head
    Tops i p (Err why) = ⊥

    pub record Takes (i : ℕ) (p : Pass) : Type 0 where
      pub left : Left items p.places
      pub top : Tops i p p.lowest

    module _ (i : ℕ) (p : Pass) (few : i < length ends) (h : Takes i p) where
      -- ---- run i has no items left

      module _ (e : items i ≡ []) where
        union-gone : (f : ℕ → List Item) → f i ≡ [] → union (suc i) f ≡ union i f
        unfolding union
        union-gone f q = rw q (laid-empty (union i f))

        gone-top : (l : Lowest) → Tops i p l → Tops (suc i) (with_gone i p) l
        gone-top (Ok None) t = union-gone items e ∙ t
        gone-top (Ok (Some held)) t =
            let z : t.rest i ≡ [] = t.ahead i (le_refl i) ∙ e in
            record {
              fits = t.fits;
              rest = t.rest;
              left = left-gone t.rest p.stepped i z t.left;
              ahead = λ k b. t.ahead k (omega arith);
              first = union-gone items e ∙ t.first ∙ ap (λ (l : List Item). item_of bytes ends held.run held.head ∷ l) (sym (union-gone t.rest z));
            }
        gone-top (Err why) t = t

        takes-gone : Takes (suc i) (with_gone i p)
        takes-gone = record { left = left-gone items p.places i e h.left; top = gone-top p.lowest h.top }

      -- ---- run i stands at an item

      module _ (at : ℕ) (r : Record) (o : Ordering) (s : Sees bytes ends bound upper i p at r o) (mine : List Item)
          (e : items i ≡ item_of bytes ends i r ∷ mine) (g : Shows (run_of bytes ends i) bound upper (At r.next) mine) where
        union-here : (f : ℕ → List Item) → f i ≡ item_of bytes ends i r ∷ mine → union (suc i) f ≡ laid (item_of bytes ends i r ∷ mine) (union i f)
        unfolding union
        union-here f q = rw q

        below-first : (l : Lowest) → Tops i p l → against_lowest l (lowest_key bytes ends l) (key_in (run_of bytes ends i) r) ≡ Less
            → laid (item_of bytes ends i r ∷ mine) (union i items) ≡ item_of bytes ends i r ∷ laid mine (union i items)
        unfolding against_lowest lowest_key
        below-first (Ok None) t q = rw t (laid_none (item_of bytes ends i r ∷ mine) ∙ ap (λ (l : List Item). item_of bytes ends i r ∷ l) (sym (laid_none mine)))
        below-first (Ok (Some held)) t q = rw t.first (laid-less (item_of bytes ends i r) (item_of bytes ends held.run held.head) mine (union i t.rest) q)
        below-first (Err why) t q = absurd t

        takes-below : standing bytes ends bound upper i p r ≡ Less → Takes (suc i) (with_lowest i r p)
        takes-below q = record {
          left = h.left;
          top = record {
            fits = fits bytes ends i at r s.head;
            rest = instead items i mine;
            left = left-set items p.places i at r.next mine s.place g h.left;
            ahead = λ k b. instead-other items i mine k (λ z. omega arith);
            first = union-here items e ∙ below-first p.lowest h.top q ∙ ap (λ (l : List Item). item_of bytes ends i r ∷ l) (sym (union-instead i items mine));
          };
        }

        level-top : (l : Lowest) → Tops i p l → against_lowest l (lowest_key bytes ends l) (key_in (run_of bytes ends i) r) ≡ Equal → Top (suc i) (with_holder i r p) i r
        unfolding against_lowest lowest_key
        level-top (Ok None) t q = let z : ◌≡◌ {A = ℕ} 0 1 = cc in absurd (omega arith)
        level-top (Ok (Some held)) t q =
            let w : t.rest i ≡ item_of bytes ends i r ∷ mine = t.ahead i (le_refl i) ∙ e in
            let a = shows-at (run_of bytes ends i) bound upper (place_of p.stepped i) (item_of bytes ends i r) mine (rw w at (t.left i few)) in
            record {
              fits = fits bytes ends i at r s.head;
              rest = instead t.rest i mine;
              left = left-set t.rest p.stepped i a.0 r.next mine a.1 g t.left;
              ahead = λ k b. instead-other t.rest i mine k (λ z. omega arith) ∙ t.ahead k (omega arith);
              first = union-here items e
                  ∙ rw t.first (laid-equal (item_of bytes ends i r) (item_of bytes ends held.run held.head) mine (union i t.rest) q)
                  ∙ ap (λ (l : List Item). item_of bytes ends i r ∷ l) (sym (union-instead i t.rest mine));
            }
        level-top (Err why) t q = absurd t

        takes_level : standing bytes ends bound upper i p r ≡ Equal → Takes (suc i) (with_holder i r p)
        takes_level q = record { left = h.left; top = level-top p.lowest h.top q }

        above-top : (l : Lowest) → Tops i p l → against_lowest l (lowest_key bytes ends l) (key_in (run_of bytes ends i) r) ≡ Greater → Tops (suc i) p l
        unfolding against_lowest lowest_key
        above-top (Ok None) t q = let z : ◌≡◌ {A = ℕ} 0 1 = cc in absurd (omega arith)
        above-top (Ok (Some held)) t q = record {
          fits = t.fits;
          rest = t.rest;
          left = t.left;
          ahead = λ k b. t.ahead k (omega arith);
          first = union-here items e
              ∙ rw t.first (laid-greater (item_of bytes ends i r) (item_of bytes ends held.run held.head) mine (union i t.rest) q)
              ∙ ap (λ (l : List Item). item_of bytes ends held.run held.head ∷ l) (sym (union-here t.rest (t.ahead i (le_refl i) ∙ e)));
        }
        above-top (Err why) t q = absurd t

        takes-above : standing bytes ends bound upper i p r ≡ Greater → Takes (suc i) p
        takes-above q = record { left = h.left; top = above-top p.lowest h.top q }

    -- ---- the pass

    looked : (i : ℕ) (p : Pass) (at : ℕ) (r : Record) (o : Ordering) → i < length ends → Takes i p → Sees bytes ends bound upper i p at r o
        → (mine : List Item) × (items i ≡ item_of bytes ends i r ∷ mine) × Shows (run_of bytes ends i) bound upper (At r.next) mine
    looked i p at r o few h s =
        shows-item (run_of bytes ends i) bound upper (place_of p.places i) (items i) (h.left i few) at s.place r s.head s.within

    nothing_left : (i : ℕ) (p : Pass) → i < length ends → Takes i p → shows bytes ends bound upper i p ≡ Ok look.Gone → items i ≡ []
    unfolding shows
    nothing_left i p few h q =
        shows-none (run_of bytes ends i) bound upper p.lowest (lowest_key bytes ends p.lowest) (place_of p.places i) (items i) (h.left i few) q

    kept : Kept bytes ends bound upper Takes
    kept = record {
      gone = λ i p few h q. takes-gone i p few h (nothing_left i p few h q);
      above = λ i p at r few h s. let m = looked i p at r Greater few h s in takes-above i p few h at r Greater s m.0 m.1 m.2 s.order;
      level = λ i p at r few h s. let m = looked i p at r Equal few h s in takes_level i p few h at r Equal s m.0 m.1 m.2 s.order;
      below = λ i p at r few h s. let m = looked i p at r Less few h s in takes-below i p few h at r Less s m.0 m.1 m.2 s.order;
    }

    refused-never : (i : ℕ) (p : Pass) (why : Refusal) → i < length ends → Takes i p → shows bytes ends bound upper i p ≡ Err why → ⊥
    unfolding shows
    refused-never i p why few h q =
        shows-fine (run_of bytes ends i) bound upper p.lowest (lowest_key bytes ends p.lowest) (place_of p.places i) (items i) (h.left i few) why q

    after : (p : Pass) → After bytes ends bound upper Takes p → Takes (length ends) p
    after p (whole h) = h
    after _ (cut i p why m h q) = absurd (refused-never i p why m h q)

    pub pass-takes : (start : List RunPlace) → Left items start → Takes (length ends) (pass_of bytes ends bound upper start)
    pass-takes start l =
        after _ (pass-rule bytes ends bound upper Takes kept start (record { left = l; top = union-nothing items }))

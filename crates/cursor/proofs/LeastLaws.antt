-- What a pass finds, as docs/RULES.md, Merge has it: of the lowest key the highest run decides, all runs holding it step on, and
-- no other run moves. Assumes nothing.
use Rattle.std.specs.Prelude.{Ok, Err, Some, None}
use mathlib.Core.Path.{◌≡◌, refl, sym, ◌∙◌}
use mathlib.Core.Bool.{false}
use mathlib.Core.List.{List}
use mathlib.Core.Logic.{◌⊎◌, inl, inr, ⊎_elim}
use Prim.Native.Nat.{ℕ, suc, ◌≤◌, ◌<◌}
use native.Mathlib.Nat.{le_refl}
use native.Mathlib.Omega.{arith}
use lib.ListN.{set}
use Rattle.types.proofs.TestLaws.{eq-or-ne}
use Rattle.run.specs.Bounds.{is_past}
use Rattle.keys.specs.Keys.{compare_keys}
use Rattle.run.specs.Records.{head_at, key_in}
use Rattle.run.specs.Kinds.{Bound}
use Rattle.std.specs.declared.cmp.Ordering.{Ordering}
use Rattle.std.specs.declared.cmp.Ordering.TheVariants.{Less, Equal, Greater}
use Rattle.run.specs.declared.record.Record.{Record}
use Rattle.keys.proofs.OrderLaws.{compare-itself, compare-equal, less-less, greater-less, less-greater}
use Rattle.cursor.specs.Pass.{against_lowest, lowest_key, with_gone, with_holder, with_lowest, pass_of, Lowest}
use Rattle.cursor.specs.Places.{gone, at_place, place_of}
use Rattle.cursor.specs.Runs.{run_of}
use Rattle.cursor.specs.declared.pass.Pass.{Pass}
use Rattle.cursor.specs.declared.place.Place.{Place}
use Rattle.cursor.specs.declared.place.Place.TheVariants.{At, Gone}
use Rattle.cursor.specs.declared.place.RunPlace.{RunPlace}
use Rattle.cursor.proofs.EndedLaws.{Ended, ended_so, shows-ended, sees_more}
use Rattle.cursor.proofs.PassRule.{standing, Sees, After, Kept, pass-rule}
use Rattle.cursor.proofs.PlaceLaws.{at-gone, set_other, set-gone, set_there}

-- a key that is not below one stands above whatever is below that one
not-below : (a b c : List ℕ) → compare_keys c b ≡ Less → (o : Ordering) → compare_keys a b ≡ o → (o ≡ Less → ⊥) → compare_keys a c ≡ Greater
not-below a b c q Less p n = absurd (n refl)
not-below a b c q Equal p n = rw (compare-equal a b p) (less-greater c b q)
not-below a b c q Greater p n = less-greater c a (less-less c b a q (greater-less a b p))

module _ (bytes ends : List ℕ) (bound : Bound) (upper : List ℕ) where
  abbrev pub key_of : ℕ → Record → List ℕ
  key_of i r = key_in (run_of bytes ends i) r

  -- run i has a head: a record that is not past the bound
  pub record Has (row : List RunPlace) (i at : ℕ) (r : Record) : Type 0 where
    pub place : place_of row i ≡ At at
    pub head : head_at (run_of bytes ends i) at ≡ Ok (Some r)
    pub within : is_past bound upper (key_of i r) ≡ false

  -- how run i fares beside run j that decides, by the order of its key to the lowest
  abbrev pub Beside : ℕ → ℕ → Record → Pass → Ordering → Type 0
  Beside i j r p Less = ⊥
  Beside i j r p Equal = (i ≤ j) × (place_of p.stepped i ≡ At r.next)
  Beside i j r p Greater = place_of p.stepped i ≡ place_of p.places i

  -- run j decides among the runs before run n, with its record x
  pub record Decides (n : ℕ) (p : Pass) (j : ℕ) (x : Record) : Type 0 where
    pub below : j < n
    pub at : ℕ
    pub holds : Has p.places j at x
    pub others : (i at : ℕ) (r : Record) → i < n → Has p.places i at r → Beside i j r p (compare_keys (key_of i r) (key_of j x))

  abbrev pub Stands : ℕ → Pass → Lowest → Type 0
  Stands n p (Ok None) = (i : ℕ) → i < n → place_of p.places i ≡ Gone
  Stands n p (Ok (Some held)) = Decides n p held.run held.head
  Stands n p (Err why) = ⊥

  pub record Least (start : List RunPlace) (n : ℕ) (p : Pass) : Type 0 where
    -- a run is where it was, or it had ended and is gone
    pub found : (i : ℕ) → (place_of p.places i ≡ place_of start i) ⊎ (Ended bytes ends bound upper start i × (place_of p.places i ≡ Gone))
    -- every run seen that had ended is gone
    pub ends-gone : (i : ℕ) → i < n → Ended bytes ends bound upper start i → place_of p.places i ≡ Gone
    -- a run that is gone, or not seen yet, does not step on
    pub ahead : (i : ℕ) → n ≤ i → place_of p.stepped i ≡ place_of p.places i
    pub still : (i : ℕ) → place_of p.places i ≡ Gone → place_of p.stepped i ≡ Gone
    pub stands : Stands n p p.lowest

  -- ---- one run

  -- one place has one head
  one-head : (row : List RunPlace) (i at at' : ℕ) (r r' : Record) → Has row i at r → Has row i at' r' → r' ≡ r
  one-head row i at at' r r' h k =
      let a : At at' ≡ At at = sym k.place ∙ h.place in
      let e : at' ≡ at = cc in
      let g : Ok (Some r') ≡ Ok (Some r) = sym k.head ∙ rw e h.head in
      cc

  not-less : (i j : ℕ) (r : Record) (p : Pass) (o : Ordering) → Beside i j r p o → o ≡ Less → ⊥
  not-less i j r p Less h q = h
  not-less i j r p Equal h q = let z : ◌≡◌ {A = ℕ} 0 1 = cc in omega arith
  not-less i j r p Greater h q = let z : ◌≡◌ {A = ℕ} 0 1 = cc in omega arith

  -- a head in a row of places of which run i was set to gone
  has-still : (row : List RunPlace) (i k at : ℕ) (r : Record) → Has (set row i gone) k at r → (k ≡ i → ⊥) × Has row k at r
  has-still row i k at r h =
      let n : k ≡ i → ⊥ = λ e. at-gone (place_of (set row i gone) i) at (rw e at h.place) (set-gone row i) in
      (n, record { place = sym (set_other row i k gone n) ∙ h.place; head = h.head; within = h.within })

  still-has : (row : List RunPlace) (i k at : ℕ) (r : Record) → (k ≡ i → ⊥) → Has row k at r → Has (set row i gone) k at r
  still-has row i k at r n h = record { place = set_other row i k gone n ∙ h.place; head = h.head; within = h.within }

  module _ (start : List RunPlace) (i : ℕ) (p : Pass) (h : Least start i p) where
    -- ---- run i is gone

    gone-beside : (k j : ℕ) (r : Record) (o : Ordering) → (k ≡ i → ⊥) → Beside k j r p o → Beside k j r (with_gone i p) o
    gone-beside k j r Less n b = b
    gone-beside k j r Equal n b = (b.0, set_other p.stepped i k gone n ∙ b.1)
    gone-beside k j r Greater n b = set_other p.stepped i k gone n ∙ b ∙ sym (set_other p.places i k gone n)

    gone-stands : (l : Lowest) → Stands i p l → Stands (suc i) (with_gone i p) l
    gone-stands (Ok None) s =
        λ k b. ⊎_elim (λ e. rw e (set-gone p.places i)) (λ n. set_other p.places i k gone n ∙ s k (omega arith)) (eq-or-ne k i)
    gone-stands (Ok (Some held)) s = record {
      below = omega (arith, s.below);
      at = s.at;
      holds = still-has p.places i held.run s.at held.head (λ e. omega (arith, s.below)) s.holds;
      others = λ k at r b g.
          let w = has-still p.places i k at r g in
          let n : k ≡ i → ⊥ = w.0 in
          gone-beside k held.run r (compare_keys (key_of k r) (key_of held.run held.head)) n (s.others k at r (omega arith) w.1);
    }
    gone-stands (Err why) s = s

    gone-row : (row : List RunPlace) (k : ℕ) (x : Place) → place_of row k ≡ x → (k ≡ i → ⊥) → place_of (set row i gone) k ≡ x
    gone-row row k x e n = set_other row i k gone n ∙ e

    -- run i had ended before the pass, since no look before has moved it
    ended-before : Ended bytes ends bound upper p.places i → Ended bytes ends bound upper start i
    ended-before g = ⊎_elim (λ f. ended_so bytes ends bound upper p.places start i f g) (λ f. f.0) (h.found i)

    least-gone : Ended bytes ends bound upper p.places i → Least start (suc i) (with_gone i p)
    least-gone ended = record {
      found = λ k. ⊎_elim (λ e. inr (rw e (ended-before ended, set-gone p.places i)))
          (λ n. ⊎_elim (λ f. inl (gone-row p.places k _ f n)) (λ f. inr (f.0, gone-row p.places k Gone f.1 n)) (h.found k)) (eq-or-ne k i);
      ends-gone = λ k b g. ⊎_elim (λ e. rw e (set-gone p.places i)) (λ n. gone-row p.places k Gone (h.ends-gone k (omega arith) g) n) (eq-or-ne k i);
      ahead = λ k b. let n : k ≡ i → ⊥ = λ e. omega arith in
          set_other p.stepped i k gone n ∙ h.ahead k (omega arith) ∙ sym (set_other p.places i k gone n);
      still = λ k g. ⊎_elim (λ e. rw e (set-gone p.stepped i))
          (λ n. gone-row p.stepped k Gone (h.still k (sym (set_other p.places i k gone n) ∙ g)) n) (eq-or-ne k i);
      stands = gone-stands p.lowest h.stands;
    }

    -- ---- run i has a head

    module _ (at : ℕ) (r : Record) (o : Ordering) (s : Sees bytes ends bound upper i p at r o) where
      here : Has p.places i at r
      here = record { place = s.place; head = s.head; within = s.within }

      -- run i decides: it steps on, in a row in which the other runs fare as they did
      decides : (row : List RunPlace) → place_of row i ≡ At at
          → ((k at' : ℕ) (r' : Record) → k < i → Has p.places k at' r'
          → Beside k i r' (record { places = p.places; stepped = set row i (at_place r.next); lowest = Ok (Some (record { run = i; head = r })) }) (compare_keys (key_of k r') (key_of i r)))
          → Decides (suc i) (record { places = p.places; stepped = set row i (at_place r.next); lowest = Ok (Some (record { run = i; head = r })) }) i r
      decides row a others = record {
        below = omega arith;
        at = at;
        holds = here;
        others = λ k at' r' b g.
            ⊎_elim
            (λ e.
            let same : r' ≡ r = one-head p.places i at at' r r' here (rw e at g) in
            rw e (rw same (rw (compare-itself (key_of i r)) (le_refl i, set_there row i at (at_place r.next) a))))
            (λ n. others k at' r' (omega arith) g) (eq-or-ne k i);
      }

      -- a lower key: the runs before it stand above it and stay
      below-others : (l : Lowest) → Stands i p l → against_lowest l (lowest_key bytes ends l) (key_of i r) ≡ Less
          → (k at' : ℕ) (r' : Record) → k < i → Has p.places k at' r' → Beside k i r' (with_lowest i r p) (compare_keys (key_of k r') (key_of i r))
      unfolding against_lowest lowest_key
      below-others (Ok None) st q = λ k at' r' b g. at-gone (place_of p.places k) at' g.place (st k b)
      below-others (Ok (Some held)) st q =
          λ k at' r' b g.
          rw (not-below (key_of k r') (key_of held.run held.head) (key_of i r) q _ refl
          (not-less k held.run r' p (compare_keys (key_of k r') (key_of held.run held.head)) (st.others k at' r' b g)))
          (set_other p.places i k (at_place r.next) (λ e. omega arith))
      below-others (Err why) st q = absurd st

      -- the lowest key again: the holders before it keep their step
      level-beside : (k j : ℕ) (r' : Record) (w : Ordering) → k < i → Beside k j r' p w → Beside k i r' (with_holder i r p) w
      level-beside k j r' Less b g = g
      level-beside k j r' Equal b g = (omega arith, set_other p.stepped i k (at_place r.next) (λ e. omega arith) ∙ g.1)
      level-beside k j r' Greater b g = set_other p.stepped i k (at_place r.next) (λ e. omega arith) ∙ g

      level-others : (l : Lowest) → Stands i p l → against_lowest l (lowest_key bytes ends l) (key_of i r) ≡ Equal
          → (k at' : ℕ) (r' : Record) → k < i → Has p.places k at' r' → Beside k i r' (with_holder i r p) (compare_keys (key_of k r') (key_of i r))
      unfolding against_lowest lowest_key
      level-others (Ok None) st q = let z : ◌≡◌ {A = ℕ} 0 1 = cc in absurd (omega arith)
      level-others (Ok (Some held)) st q =
          λ k at' r' b g.
          rw (compare-equal (key_of i r) (key_of held.run held.head) q)
          (level-beside k held.run r' (compare_keys (key_of k r') (key_of held.run held.head)) b (st.others k at' r' b g))
      level-others (Err why) st q = absurd st

      -- a key above the lowest: nothing changes
      above-stands : (l : Lowest) → Stands i p l → against_lowest l (lowest_key bytes ends l) (key_of i r) ≡ Greater → Stands (suc i) p l
      unfolding against_lowest lowest_key
      above-stands (Ok None) st q = let z : ◌≡◌ {A = ℕ} 0 1 = cc in absurd (omega arith)
      above-stands (Ok (Some held)) st q = record {
        below = omega (arith, st.below);
        at = st.at;
        holds = st.holds;
        others = λ k at' r' b g.
            ⊎_elim
            (λ e.
            let same : r' ≡ r = one-head p.places i at at' r r' here (rw e at g) in
            rw e (rw same (rw q (h.ahead i (le_refl i)))))
            (λ n. st.others k at' r' (omega arith) g) (eq-or-ne k i);
      }
      above-stands (Err why) st q = st

      -- a run that had ended is another one, or is gone
      seen-gone : (k : ℕ) → k < suc i → Ended bytes ends bound upper start k → place_of p.places k ≡ Gone
      seen-gone k b g =
          ⊎_elim (λ e. ⊎_elim (λ f. absurd (sees_more bytes ends bound upper i p at r o s (ended_so bytes ends bound upper start p.places i (sym f) (rw e at g))))
          (λ f. rw e f.1) (h.found i))
          (λ n. h.ends-gone k (omega arith) g) (eq-or-ne k i)

      -- a run that is gone is another one
      other-gone : (k : ℕ) → place_of p.places k ≡ Gone → k ≡ i → ⊥
      other-gone k g e = at-gone (place_of p.places i) at s.place (rw e at g)

      least_above : standing bytes ends bound upper i p r ≡ Greater → Least start (suc i) p
      least_above q = record {
        found = h.found;
        ends-gone = seen-gone;
        ahead = λ k b. h.ahead k (omega arith);
        still = h.still;
        stands = above-stands p.lowest h.stands q;
      }

      least-level : standing bytes ends bound upper i p r ≡ Equal → Least start (suc i) (with_holder i r p)
      least-level q = record {
        found = h.found;
        ends-gone = seen-gone;
        ahead = λ k b. set_other p.stepped i k (at_place r.next) (λ e. omega arith) ∙ h.ahead k (omega arith);
        still = λ k g. set_other p.stepped i k (at_place r.next) (other-gone k g) ∙ h.still k g;
        stands = decides p.stepped (h.ahead i (le_refl i) ∙ s.place) (level-others p.lowest h.stands q);
      }

      least-below : standing bytes ends bound upper i p r ≡ Less → Least start (suc i) (with_lowest i r p)
      least-below q = record {
        found = h.found;
        ends-gone = seen-gone;
        ahead = λ k b. set_other p.places i k (at_place r.next) (λ e. omega arith);
        still = λ k g. set_other p.places i k (at_place r.next) (other-gone k g) ∙ g;
        stands = decides p.places s.place (below-others p.lowest h.stands q);
      }

  -- ---- the pass

  kept : (start : List RunPlace) → Kept bytes ends bound upper (Least start)
  kept start = record {
    gone = λ i p few h q. least-gone start i p h (shows-ended bytes ends bound upper i p q);
    above = λ i p at r few h s. least_above start i p h at r Greater s s.order;
    level = λ i p at r few h s. least-level start i p h at r Equal s s.order;
    below = λ i p at r few h s. least-below start i p h at r Less s s.order;
  }

  -- a pass over all runs, unless it is cut off by a refusal
  pub least : (start : List RunPlace) → After bytes ends bound upper (Least start) (pass_of bytes ends bound upper start)
  least start =
      pass-rule bytes ends bound upper (Least start) (kept start) start
      (record { found = λ i. inl refl; ends-gone = λ i b g. absurd (omega arith); ahead = λ i b. refl; still = λ i g. g; stands = λ i b. absurd (omega arith) })

-- The claim on one pass, as docs/RULES.md, Merge has it. Where a pass finds a lowest key: no head is below it; no run above the
-- one that decides holds it; every holder steps on to its next record; and no other run moves. A run is gone after it that was
-- gone, has nothing at its place or a key past the upper bound there, and no other. A pass that finds none leaves every run gone.
-- Assumes nothing.
use Rattle.std.specs.Prelude.{Ok, Some, None}
use mathlib.Core.Path.{◌≡◌, refl, sym, subst, ◌∙◌}
use mathlib.Core.List.{List}
use mathlib.Core.Logic.{◌⊎◌, ⊎_elim}
use Prim.Native.Nat.{ℕ, ◌≤◌, ◌<◌}
use native.Mathlib.Omega.{arith}
use lib.ListN.{length}
use Rattle.keys.specs.Keys.{compare_keys}
use Rattle.run.specs.Kinds.{Bound}
use Rattle.std.specs.declared.cmp.Ordering.{Ordering}
use Rattle.std.specs.declared.cmp.Ordering.TheVariants.{Less, Equal, Greater}
use Rattle.run.specs.declared.record.Record.{Record}
use Rattle.keys.proofs.OrderLaws.{compare-itself, compare-equal}
use Rattle.cursor.specs.Pass.{pass_of, Lowest}
use Rattle.cursor.specs.Places.{place_of}
use Rattle.cursor.specs.declared.pass.Pass.{Pass}
use Rattle.cursor.specs.declared.place.Place.TheVariants.{At, Gone}
use Rattle.cursor.specs.declared.place.RunPlace.{RunPlace}
use Rattle.cursor.proofs.EndedLaws.{Ended, was-gone}
use Rattle.cursor.proofs.LeastLaws.{key_of, Has, Beside, Decides, Stands, Least, least}
use Rattle.cursor.proofs.PassRule.{After, whole, cut}

module _ (bytes ends : List ℕ) (bound : Bound) (upper : List ℕ) where
  -- the pass p from these places found record x of run j
  pub record Finds (start : List RunPlace) (p : Pass) (j : ℕ) (x : Record) : Type 0 where
    pub run : j < length ends
    pub decides : (at : ℕ) × Has bytes ends bound upper p.places j at x
    pub lowest : (i at : ℕ) (r : Record) → i < length ends → Has bytes ends bound upper p.places i at r
        → compare_keys (key_of bytes ends bound upper i r) (key_of bytes ends bound upper j x) ≡ Less → ⊥
    pub highest : (i at : ℕ) (r : Record) → i < length ends → Has bytes ends bound upper p.places i at r
        → key_of bytes ends bound upper i r ≡ key_of bytes ends bound upper j x → i ≤ j
    pub holder : (i at : ℕ) (r : Record) → i < length ends → Has bytes ends bound upper p.places i at r
        → key_of bytes ends bound upper i r ≡ key_of bytes ends bound upper j x → place_of p.stepped i ≡ At r.next
    pub other : (i at : ℕ) (r : Record) → i < length ends → Has bytes ends bound upper p.places i at r
        → (key_of bytes ends bound upper i r ≡ key_of bytes ends bound upper j x → ⊥) → place_of p.stepped i ≡ place_of p.places i
    pub found : (i : ℕ) → (place_of p.places i ≡ place_of start i) ⊎ (Ended bytes ends bound upper start i × (place_of p.places i ≡ Gone))
    pub ends-gone : (i : ℕ) → i < length ends → Ended bytes ends bound upper start i → place_of p.places i ≡ Gone
    pub still : (i : ℕ) → place_of p.places i ≡ Gone → place_of p.stepped i ≡ Gone

  module _ (p : Pass) (i j : ℕ) (r : Record) where
    not-below : (o : Ordering) → Beside bytes ends bound upper i j r p o → o ≡ Less → ⊥
    not-below Less b q = b
    not-below Equal b q = let z : ◌≡◌ {A = ℕ} 0 1 = cc in omega arith
    not-below Greater b q = let z : ◌≡◌ {A = ℕ} 0 1 = cc in omega arith

    level : (o : Ordering) → Beside bytes ends bound upper i j r p o → o ≡ Equal → (i ≤ j) × (place_of p.stepped i ≡ At r.next)
    level Less b q = absurd b
    level Equal b q = b
    level Greater b q = let z : ◌≡◌ {A = ℕ} 0 1 = cc in absurd (omega arith)

    apart : (o : Ordering) → Beside bytes ends bound upper i j r p o → (o ≡ Equal → ⊥) → place_of p.stepped i ≡ place_of p.places i
    apart Less b n = absurd b
    apart Equal b n = absurd (n refl)
    apart Greater b n = b

  same : (a b : List ℕ) → a ≡ b → compare_keys a b ≡ Equal
  same a b e = rw e (compare-itself b)

  finds : (start : List RunPlace) (p : Pass) (j : ℕ) (x : Record) → Least bytes ends bound upper start (length ends) p → p.lowest ≡ Ok (Some (record { run = j; head = x }))
      → Finds start p j x
  finds start p j x l e =
      let d : Decides bytes ends bound upper (length ends) p j x
      = subst (λ (y : Lowest). Stands bytes ends bound upper (length ends) p y) e l.stands in
      record {
        run = d.below;
        decides = (d.at, d.holds);
        lowest = λ i at r b h. not-below p i j r _ (d.others i at r b h);
        highest = λ i at r b h q. (level p i j r _ (d.others i at r b h) (same _ _ q)).0;
        holder = λ i at r b h q. (level p i j r _ (d.others i at r b h) (same _ _ q)).1;
        other = λ i at r b h n. apart p i j r _ (d.others i at r b h) (λ q. n (compare-equal _ _ q));
        found = l.found;
        ends-gone = l.ends-gone;
        still = l.still;
      }

  after-finds : (start : List RunPlace) (p : Pass) (j : ℕ) (x : Record) → After bytes ends bound upper (Least bytes ends bound upper start) p
      → p.lowest ≡ Ok (Some (record { run = j; head = x })) → Finds start p j x
  after-finds start p j x (whole l) e = finds start p j x l e
  after-finds start _ j x (cut i q why m l s) e = let z : ◌≡◌ {A = ℕ} 0 1 = cc in absurd (omega arith)

  pub pass-finds : (start : List RunPlace) (j : ℕ) (x : Record) → (pass_of bytes ends bound upper start).lowest ≡ Ok (Some (record { run = j; head = x }))
      → Finds start (pass_of bytes ends bound upper start) j x
  pass-finds start j x e = after-finds start _ j x (least bytes ends bound upper start) e

  -- where a pass finds no lowest key, every run is gone, and each was to be
  none_found : (start : List RunPlace) (p : Pass) → After bytes ends bound upper (Least bytes ends bound upper start) p → p.lowest ≡ Ok None
      → (i : ℕ) → i < length ends → Ended bytes ends bound upper start i × (place_of p.places i ≡ Gone)
  none_found start p (whole l) e i b =
      let g : place_of p.places i ≡ Gone = subst (λ (y : Lowest). Stands bytes ends bound upper (length ends) p y) e l.stands i b in
      (⊎_elim (λ f. was-gone (sym f ∙ g)) (λ f. f.0) (l.found i), g)
  none_found start _ (cut i q why m l s) e k b = let z : ◌≡◌ {A = ℕ} 0 1 = cc in absurd (omega arith)

  pub pass-ends : (start : List RunPlace) → (pass_of bytes ends bound upper start).lowest ≡ Ok None
      → (i : ℕ) → i < length ends → Ended bytes ends bound upper start i × (place_of (pass_of bytes ends bound upper start).places i ≡ Gone)
  pass-ends start e = none_found start _ (least bytes ends bound upper start) e

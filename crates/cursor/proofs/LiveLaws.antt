-- Items that are taken, and those that are live: what is left rises, and says what was said of the keys that are left.
-- Assumes nothing.
use mathlib.Core.Path.{◌≡◌, refl, sym, ◌∙◌, ap, ap₂}
use mathlib.Core.Bool.{Bool, true, false, cond}
use mathlib.Core.List.{List, [], ◌∷◌}
use mathlib.Core.Logic.{inl, inr, ⊎_elim}
use Prim.Native.Nat.{ℕ}
use native.Mathlib.Omega.{arith}
use Rattle.run.specs.Items.{Item, Below, Rising, nothing, deleted, live, said_by, said_in}
use Rattle.keys.specs.Keys.{compare_keys}
use Rattle.std.specs.declared.cmp.Ordering.{Ordering}
use Rattle.std.specs.declared.cmp.Ordering.TheVariants.{Less, Equal, Greater}
use Rattle.keys.proofs.OrderLaws.{compare-itself, compare-equal, less-greater}
use Rattle.run.proofs.ItemLaws.{below_more, below-first, below_rest, rising-more, rising-first, rising-rest}
use Rattle.run.proofs.ItemLaws.{said_in-none, said_in-less, said_in-equal, said_in-greater}
use Rattle.cursor.specs.Merged.{Pair, Among, BelowPairs, RisingPairs}
use Rattle.cursor.specs.Union.{kept, lives}

-- ---- the keys that are taken

module _ (taken : List ℕ → Bool) where
  pub below-kept : (key : List ℕ) (items : List Item) → Below key items → Below key (kept taken items)
  unfolding kept
  below-kept key [] h = h
  below-kept key (x ∷ items) h = by (taken x.key) (below-kept key items (below_rest key x items h))
    where
      by : (t : Bool) → Below key (kept taken items) → Below key (cond t (x ∷ kept taken items) (kept taken items))
      by true r = below_more key x (kept taken items) (below-first key x items h) r
      by false r = r

  pub rising-kept : (items : List Item) → Rising items → Rising (kept taken items)
  unfolding kept
  rising-kept [] h = h
  rising-kept (x ∷ items) h = by (taken x.key) (rising-kept items (rising-rest x items h))
    where
      by : (t : Bool) → Rising (kept taken items) → Rising (cond t (x ∷ kept taken items) (kept taken items))
      by true r = rising-more x (kept taken items) (below-kept x.key items (rising-first x items h)) r
      by false r = r

  pub said-kept : (key : List ℕ) (items : List Item) → said_in key (kept taken items) ≡ cond (taken key) (said_in key items) nothing
  unfolding kept
  said-kept key [] = rw (said_in-none key) (by (taken key))
    where
      by : (t : Bool) → nothing ≡ cond t nothing nothing
      by true = refl
      by false = refl
  said-kept key (x ∷ items) = by (taken x.key) (compare_keys key x.key) refl refl (said-kept key items)
    where
      by : (t : Bool) (o : Ordering) → taken x.key ≡ t → compare_keys key x.key ≡ o
          → said_in key (kept taken items) ≡ cond (taken key) (said_in key items) nothing
          → said_in key (cond t (x ∷ kept taken items) (kept taken items)) ≡ cond (taken key) (said_in key (x ∷ items)) nothing
      by true Less p q r = rw (said_in-less key x (kept taken items) q, said_in-less key x items q) r
      by true Equal p q r =
          rw (said_in-equal key x (kept taken items) q, said_in-equal key x items q, ap taken (compare-equal key x.key q) ∙ p)
      by true Greater p q r = rw (said_in-greater key x (kept taken items) q, said_in-greater key x items q) r
      by false Less p q r = rw (said_in-less key x items q) r
      by false Equal p q r = r ∙ rw (ap taken (compare-equal key x.key q) ∙ p)
      by false Greater p q r = rw (said_in-greater key x items q) r

-- ---- the live ones

pub lives-live : (x : Item) (items : List Item) → x.deleted ≡ false → lives (x ∷ items) ≡ record { key = x.key; value = x.value } ∷ lives items
unfolding lives
lives-live x items d = rw d

pub lives-hidden : (x : Item) (items : List Item) → x.deleted ≡ true → lives (x ∷ items) ≡ lives items
unfolding lives
lives-hidden x items d = rw d

pub lives-none : (items : List Item) → items ≡ [] → lives items ≡ []
unfolding lives
lives-none items e = rw e

pub below-lives : (key : List ℕ) (items : List Item) → Below key items → BelowPairs key (lives items)
unfolding BelowPairs lives
below-lives key [] h = tt
below-lives key (x ∷ items) h = by x.deleted (below-lives key items (below_rest key x items h))
  where
    by : (d : Bool) → BelowPairs key (lives items) → BelowPairs key (cond d (lives items) (record { key = x.key; value = x.value } ∷ lives items))
    by true r = r
    by false r = (below-first key x items h, r)

pub rising-lives : (items : List Item) → Rising items → RisingPairs (lives items)
unfolding RisingPairs lives
rising-lives [] h = tt
rising-lives (x ∷ items) h = by x.deleted (rising-lives items (rising-rest x items h))
  where
    by : (d : Bool) → RisingPairs (lives items) → RisingPairs (cond d (lives items) (record { key = x.key; value = x.value } ∷ lives items))
    by true r = r
    by false r = (below-lives x.key items (rising-first x items h), r)

pub among_below : (key : List ℕ) (x : Pair) (pairs : List Pair) → BelowPairs key pairs → Among x pairs → compare_keys key x.key ≡ Less
unfolding BelowPairs Among
among_below key x [] h m = absurd m
among_below key x (y ∷ pairs) h m =
    ⊎_elim (λ e. let k : x.key ≡ y.key = ap (λ (z : Pair). z.key) e in rw k h.0) (λ n. among_below key x pairs h.1 n) m

pub lives-sound : (items : List Item) → Rising items → (x : Pair) → Among x (lives items) → said_in x.key items ≡ live x.value
unfolding Among lives
lives-sound [] h x m = absurd m
lives-sound (y ∷ items) h x m = by y.deleted refl (lives-sound items (rising-rest y items h) x) m
  where
    later : (Among x (lives items) → said_in x.key items ≡ live x.value) → Among x (lives items) → said_in x.key (y ∷ items) ≡ live x.value
    later r n =
        let b = below-lives y.key items (rising-first y items h) in
        said_in-greater x.key y items (less-greater y.key x.key (among_below y.key x (lives items) b n)) ∙ r n

    by : (d : Bool) → y.deleted ≡ d → (Among x (lives items) → said_in x.key items ≡ live x.value)
        → Among x (cond d (lives items) (record { key = y.key; value = y.value } ∷ lives items)) → said_in x.key (y ∷ items) ≡ live x.value
    by true q r n = later r n
    by false q r n = ⊎_elim (λ e. rw e (said_in-equal y.key y items (compare-itself y.key) ∙ rw q)) (λ n'. later r n') n

abbrev paired : List ℕ → List ℕ → Pair
paired key value = record { key = key; value = value }

pub lives-complete : (items : List Item) (x : Pair) → said_in x.key items ≡ live x.value → Among x (lives items)
unfolding Among lives
lives-complete [] x e = let n : nothing ≡ live x.value = sym (said_in-none x.key) ∙ e in let z : ◌≡◌ {A = ℕ} 0 1 = cc in absurd (omega arith)
lives-complete (y ∷ items) x e = by y.deleted (compare_keys x.key y.key) refl refl (lives-complete items x) e
  where
    by : (d : Bool) (o : Ordering) → y.deleted ≡ d → compare_keys x.key y.key ≡ o
        → (said_in x.key items ≡ live x.value → Among x (lives items))
        → said_in x.key (y ∷ items) ≡ live x.value
        → Among x (cond d (lives items) (record { key = y.key; value = y.value } ∷ lives items))
    by true Less q p r s = r (sym (said_in-less x.key y items p) ∙ s)
    by true Equal q p r s =
        let t : said_by y ≡ live x.value = sym (said_in-equal x.key y items p) ∙ s in
        let z : deleted ≡ live x.value = rw q at t in
        let w : ◌≡◌ {A = ℕ} 0 1 = cc in absurd (omega arith)
    by true Greater q p r s = r (sym (said_in-greater x.key y items p) ∙ s)
    by false Less q p r s = inr (r (sym (said_in-less x.key y items p) ∙ s))
    by false Equal q p r s =
        let t : said_by y ≡ live x.value = sym (said_in-equal x.key y items p) ∙ s in
        let v : live y.value ≡ live x.value = rw q at t in
        let k : x.key ≡ y.key = compare-equal x.key y.key p in
        let w : x.value ≡ y.value = cc in
        inl (ap₂ paired k w)
    by false Greater q p r s = inr (r (sym (said_in-greater x.key y items p) ∙ s))

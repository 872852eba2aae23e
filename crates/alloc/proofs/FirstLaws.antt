-- The first free page of a search, by its place in the order, and that order by numbers. Assumes nothing.
use Rattle.std.specs.Prelude.{Some, None}
use mathlib.Core.Path.{◌≡◌, refl, sym, ap, ◌∙◌}
use mathlib.Core.Bool.{Bool, true, false}
use mathlib.Core.List.{List, [], ◌∷◌, ◌++◌}
use mathlib.Core.Logic.{⊎_elim}
use Prim.Native.Nat.{ℕ, zero, suc, ◌+◌, ◌-◌, ◌%◌, ◌≤◌, ◌<◌}
use native.Mathlib.Nat.{add-mod_left, mod-eq_of_lt, mod-lt}
use native.Mathlib.Omega.{arith}
use lib.ListN.{length, get_or, length-append, get_or-append}
use lib.Seq.{get_or-append-add}
use Rattle.types.specs.declared.page_id.PageID.{PageID}
use Rattle.types.proofs.TestLaws.{decided, le-or-lt}
use Rattle.alloc.specs.Search.{up_from, round_from, first_free}

-- ---- the first free one

-- p is free, and every page before it in the order is used
pub record First (ms : List Bool) (ps : List ℕ) (p : ℕ) : Type 0 where
  pub at : ℕ
  pub inside : at < length ps
  pub is : get_or ps at 0 ≡ p
  pub free : get_or ms p false ≡ false
  pub passed : (j : ℕ) → j < at → get_or ms (get_or ps j 0) false ≡ true

pub first_says : (ms : List Bool) (ps : List ℕ) (page : PageID) → first_free ms ps ≡ Some page → First ms ps page.0
unfolding first_free
first_says ms [] page e = let z : ◌≡◌ {A = ℕ} 0 1 = cc in absurd (omega arith)
first_says ms (q ∷ ps) page e = ⊎_elim (λ m. later m (first_says ms ps page)) here (decided (get_or ms q false))
  where
    here : get_or ms q false ≡ false → First ms (q ∷ ps) page.0
    here f =
        let g : Some (record { 0 = q }) ≡ Some page = rw f at e in
        let same : ◌≡◌ {A = PageID} (record { 0 = q }) page = cc in
        let h : q ≡ page.0 = ap (λ (x : PageID). x.0) same in
        record { at = 0; inside = omega arith; is = h; free = rw h at f; passed = λ j l. absurd (omega arith) }

    later : get_or ms q false ≡ true → (first_free ms ps ≡ Some page → First ms ps page.0) → First ms (q ∷ ps) page.0
    later m rest =
        let r : First ms ps page.0 = rest (rw m at e) in
        record { at = suc r.at; inside = omega (arith, r.inside); is = r.is; free = r.free; passed = next m r }
      where
        next : get_or ms q false ≡ true → (r : First ms ps page.0) → (j : ℕ) → j < suc r.at → get_or ms (get_or (q ∷ ps) j 0) false ≡ true
        next m r zero l = m
        next m r (suc j) l = r.passed j (omega arith)

pub says_first : (ms : List Bool) (ps : List ℕ) (p : ℕ) → First ms ps p → first_free ms ps ≡ Some (record { 0 = p })
unfolding first_free
says_first ms ps p f = found ps f.at f.inside f.is f.passed
  where
    found : (ps : List ℕ) (k : ℕ) → k < length ps → get_or ps k 0 ≡ p → ((j : ℕ) → j < k → get_or ms (get_or ps j 0) false ≡ true) → first_free ms ps ≡ Some (record { 0 = p })
    found [] k l e h = absurd (omega arith)
    found (q ∷ ps) zero l e h = rw (e, f.free)
    found (q ∷ ps) (suc k) l e h = rw (h 0 (omega arith)) (found ps k (omega arith) e (λ j m. h (suc j) (omega arith)))

-- none is free exactly where every one is used
pub none-says : (ms : List Bool) (ps : List ℕ) → first_free ms ps ≡ None → (j : ℕ) → j < length ps → get_or ms (get_or ps j 0) false ≡ true
unfolding first_free
none-says ms [] e j l = absurd (omega arith)
none-says ms (q ∷ ps) e j l = ⊎_elim (λ m. used m (none-says ms ps (rw m at e)) j l) here (decided (get_or ms q false))
  where
    here : get_or ms q false ≡ false → get_or ms (get_or (q ∷ ps) j 0) false ≡ true
    here f = let g : Some (record { 0 = q }) ≡ None = rw f at e in let z : ◌≡◌ {A = ℕ} 0 1 = cc in absurd (omega arith)

    used : get_or ms q false ≡ true → ((j : ℕ) → j < length ps → get_or ms (get_or ps j 0) false ≡ true)
        → (j : ℕ) → j < suc (length ps) → get_or ms (get_or (q ∷ ps) j 0) false ≡ true
    used m rest zero l = m
    used m rest (suc j) l = rest j (omega arith)

pub says_none : (ms : List Bool) (ps : List ℕ) → ((j : ℕ) → j < length ps → get_or ms (get_or ps j 0) false ≡ true) → first_free ms ps ≡ None
unfolding first_free
says_none ms [] h = refl
says_none ms (q ∷ ps) h = rw (h 0 (omega arith)) (says_none ms ps (λ j l. h (suc j) (omega arith)))

-- ---- the order

pub length-up_from : (n k : ℕ) → length (up_from n k) ≡ k
unfolding up_from
length-up_from n zero = refl
length-up_from n (suc k) = ap suc (length-up_from (suc n) k)

pub up_from-at : (n k i : ℕ) → i < k → get_or (up_from n k) i 0 ≡ n + i
unfolding up_from
up_from-at n zero i h = absurd (omega arith)
up_from-at n (suc k) zero h = omega arith
up_from-at n (suc k) (suc i) h = up_from-at (suc n) k i (omega arith) ∙ (let e : suc n + i ≡ n + suc i = omega arith in e)

module _ (next count : ℕ) (fits : next ≤ count) where
  -- every page is looked at once
  pub length-round_from : length (round_from next count) ≡ count
  unfolding round_from
  length-round_from = length-append (up_from next (count - next)) (up_from 0 next) ∙ rw (length-up_from next (count - next), length-up_from 0 next) (omega arith)

  -- the i-th page of a round is i pages on from the first, modulo the count
  pub round_from-at : (i : ℕ) → i < count → get_or (round_from next count) i 0 ≡ (next + i) % count
  unfolding round_from
  round_from-at i h = ⊎_elim wrapped ahead (le-or-lt (count - next) i)
    where
      long : length (up_from next (count - next)) ≡ count - next
      long = length-up_from next (count - next)

      ahead : i < count - next → get_or (up_from next (count - next) ++ up_from 0 next) i 0 ≡ (next + i) % count
      ahead l =
          let m : i < length (up_from next (count - next)) = rw long l in
          get_or-append (up_from next (count - next)) (up_from 0 next) 0 i m ∙ up_from-at next (count - next) i l ∙ sym (mod-eq_of_lt (omega arith))

      wrapped : count - next ≤ i → get_or (up_from next (count - next) ++ up_from 0 next) i 0 ≡ (next + i) % count
      wrapped l =
          let k = i - (count - next) in
          let e : i ≡ length (up_from next (count - next)) + k = rw long (omega arith) in
          let f : next + i ≡ count + k = omega arith in
          let g : 0 + k ≡ k = omega arith in
          ap (λ (x : ℕ). get_or (up_from next (count - next) ++ up_from 0 next) x 0) e
          ∙ get_or-append-add (up_from next (count - next)) (up_from 0 next) k 0
          ∙ up_from-at 0 next k (omega arith)
          ∙ g
          ∙ sym (ap (λ (x : ℕ). x % count) f ∙ add-mod_left count k ∙ mod-eq_of_lt (omega arith))

  -- so what is found is a page
  pub found_below : (ms : List Bool) (p : ℕ) → First ms (round_from next count) p → p < count
  found_below ms p f =
      let l : f.at < count = rw length-round_from at f.inside in
      let e : p ≡ (next + f.at) % count = sym f.is ∙ round_from-at f.at l in
      rw e (mod-lt (next + f.at) (omega arith))

-- After a reset pages are handed out in turn: each once, and all of them. Assumes nothing.
use Rattle.std.specs.Prelude.{Ok, Some, None, ⊤}
use mathlib.Core.Path.{◌≡◌, refl, sym, ap, ap₂, ◌∙◌}
use mathlib.Core.Bool.{true, false}
use mathlib.Core.List.{List, [], ◌∷◌, map}
use mathlib.Core.Logic.{inl, inr, ⊎_elim}
use Prim.Native.Nat.{ℕ, zero, suc, ◌+◌, ◌%◌, ◌/◌, ◌^◌, ◌≤◌, ◌<◌}
use native.Mathlib.Nat.{mod-lt, mod-add-mod, mod-eq_of_lt, zero-div}
use native.Mathlib.Numerals.{add-one}
use native.Mathlib.Omega.{arith}
use lib.Dec.{ltb}
use lib.ListN.{get_or, replicate}
use borrow.Author.Tests.{lt-ltb, le-ltb}
use Rattle.types.specs.Build.{max_page_count}
use Rattle.types.proofs.HistoryLaws.{left_after-none, left_after-more, told_by_each-none, told_by_each-more}
use Rattle.types.proofs.TestLaws.{eq-or-ne, leb-iff}
use Rattle.types.specs.Answers.{Told, answered, outcome_told}
use Rattle.alloc.specs.Answers.{allocated_told}
use Rattle.alloc.specs.Calls as calls
use Rattle.alloc.specs.History.{reset, try_allocate, answer_to, left_by, answers_to, left_after}
use Rattle.alloc.specs.Marks.{is_marked}
use Rattle.alloc.specs.Search.{up_from}
use Rattle.alloc.specs.State.{all_free}
use Rattle.alloc.specs.declared.allocator.Allocator.{Allocator}
use Rattle.alloc.specs.declared.answers.Change.{Change}
use Rattle.alloc.proofs.HandedLaws.{HandedOut, handed_out, hands_out}
use Rattle.alloc.proofs.KeptLaws.{kept, all_free-in}
use Rattle.alloc.proofs.MarksLaws.{mark-is}
use Rattle.alloc.proofs.NoneLaws.{none-exactly, says-full}
use Rattle.alloc.proofs.RoundLaws.{round-different, round-every, round-next}
use Rattle.alloc.proofs.StateLaws.{Sound, count-fine}

-- i pages after the first one are handed out: those are marked, and the next one is next
record Turned (count first i : ℕ) (a : Allocator) : Type 0 where
  pub sound : Sound a
  pub same : a.page_count ≡ count
  pub next : a.next_page_id ≡ (first + i) % count
  pub marks : (j : ℕ) → j < count → is_marked a.pages ((first + j) % count) ≡ ltb j i

zeros-at : (k i : ℕ) → ◌≡◌ {A = ℕ} (get_or (replicate k 0) i 0) 0
zeros-at zero i = refl
zeros-at (suc k) zero = refl
zeros-at (suc k) (suc i) = zeros-at k i

-- a byte of 0 marks no page
unmarked : (k p : ℕ) → is_marked (replicate k 0) p ≡ false
unmarked k p = mark-is (replicate k 0) p ∙ rw (zeros-at k (p / 8), zero-div (2 ^ (p % 8)))

module _ (count first : ℕ) (few : count ≤ max_page_count) (fits : first < count) where
  turned_none : Turned count first 0 (all_free count first)
  turned_none =
      record {
        sound = (refl, all_free-in count first few (inl fits));
        same = refl;
        next = sym (let e : first + 0 ≡ first = omega arith in ap (λ (x : ℕ). x % count) e ∙ mod-eq_of_lt fits);
        marks = λ j l. unmarked 32 ((first + j) % count) ∙ sym (le-ltb j 0 (omega arith));
      }

  module _ (i : ℕ) (more : i < count) (a : Allocator) (t : Turned count first i a) where
    turned-page : (calls.try_allocate a).answer ≡ Ok (Some (record { 0 = (first + i) % count }))
    turned-page =
        let z : first + i + 0 ≡ first + i = omega arith in
        let e : (first + i) % count ≡ (a.next_page_id + 0) % a.page_count = rw (t.same, t.next, mod-add-mod (first + i) count 0, z) in
        hands_out a ((first + i) % count) 0 t.sound.1 (omega (arith, t.same)) e (t.marks i more ∙ le-ltb i i (omega arith)) (λ j l. absurd (omega arith))

    turned_more : Turned count first (i + 1) (calls.try_allocate a).allocator
    unfolding left_by
    turned_more =
        let h : HandedOut a ((first + i) % count) (calls.try_allocate a).allocator = handed_out a (record { 0 = (first + i) % count }) t.sound.0 turned-page in
        record {
          sound = kept a try_allocate t.sound;
          same = h.same ∙ t.same;
          next = h.next ∙ rw t.same (round-next first i count);
          marks = λ j l.
              ⊎_elim
              (λ e. rw e (h.used ∙ sym (lt-ltb i (i + 1) (omega arith))))
              (λ n.
              h.others ((first + j) % count) (λ q. n (round-different first count fits j i l more q))
              ∙ t.marks j l
              ∙ leb-iff (suc j) i (suc j) (i + 1) (λ m. omega arith) (λ m. omega arith))
              (eq-or-ne j i);
        }

  -- from there on pages go out one by one
  turns : (n i : ℕ) (a : Allocator) → Turned count first i a → i + n ≤ count
      → answers_to a (replicate n try_allocate) ≡ map (λ (j : ℕ). answered ((first + j) % count ∷ [])) (up_from i n)
  unfolding answer_to left_by up_from
  turns zero i a t h = told_by_each-none left_by answer_to a
  turns (suc n) i a t h =
      told_by_each-more left_by answer_to a try_allocate (replicate n try_allocate)
      ∙ ap₂ (λ (x : Told) (l : List Told). x ∷ l) (ap allocated_told (turned-page i (omega arith) a t))
      (turns n (suc i) (calls.try_allocate a).allocator (rw (add-one i) at (turned_more i (omega arith) a t)) (omega arith))

  turns-left : (n i : ℕ) (a : Allocator) → Turned count first i a → i + n ≤ count → Turned count first (i + n) (left_after a (replicate n try_allocate))
  unfolding left_by
  turns-left zero i a t h = let e : i + 0 ≡ i = omega arith in rw (e, left_after-none left_by a) t
  turns-left (suc n) i a t h =
      let e : i + suc n ≡ i + 1 + n = omega arith in
      rw (e, left_after-more left_by a try_allocate (replicate n try_allocate))
      (turns-left n (i + 1) (calls.try_allocate a).allocator (turned_more i (omega arith) a t) (omega arith))

  turned-all : (a : Allocator) → Turned count first count a → (calls.try_allocate a).answer ≡ Ok None
  turned-all a t = (none-exactly a t.sound.0 t.sound.1).1 (inr (says-full a t.sound.0 t.sound.1 each))
    where
      each : (p : ℕ) → p < a.page_count → is_marked a.pages p ≡ true
      each p l =
          let i = round-every first count fits p (omega (arith, t.same)) in
          rw i.1.1 at (t.marks i.0 i.1.0 ∙ lt-ltb i.0 count i.1.0)

-- ---- after a reset

reset-done : (a : Allocator) (count seed : ℕ) → 1 ≤ count → count ≤ max_page_count → calls.reset a count seed ≡ calls.done (all_free count (seed % count))
unfolding calls.reset
reset-done a count seed some few = rw (count-fine count some few)

-- the i-th page is the seed's page and i on
pub in-turn : (a : Allocator) (count seed n : ℕ) → 1 ≤ count → count ≤ max_page_count → n ≤ count
    → answers_to a (reset count seed ∷ replicate n try_allocate) ≡ answered [] ∷ map (λ (i : ℕ). answered ((seed + i) % count ∷ [])) (up_from 0 n)
unfolding answer_to left_by
in-turn a count seed n some few h =
    let first = seed % count in
    let t : Turned count first 0 (all_free count first) = turned_none count first few (mod-lt seed some) in
    let seeds : map (λ (j : ℕ). answered ((first + j) % count ∷ [])) (up_from 0 n) ≡ map (λ (i : ℕ). answered ((seed + i) % count ∷ [])) (up_from 0 n) = simp mod-add-mod in
    told_by_each-more left_by answer_to a (reset count seed) (replicate n try_allocate)
    ∙ ap (λ (c : Change ⊤). outcome_told c.answer ∷ answers_to c.allocator (replicate n try_allocate)) (reset-done a count seed some few)
    ∙ ap (λ (l : List Told). answered [] ∷ l) (turns count first few (mod-lt seed some) n 0 (all_free count first) t (omega arith) ∙ seeds)

-- the pages handed out are different
pub turns-different : (count seed i j : ℕ) → i < count → j < count → (seed + i) % count ≡ (seed + j) % count → i ≡ j
turns-different count seed i j hi hj e =
    round-different (seed % count) count (mod-lt seed (omega arith)) i j hi hj (mod-add-mod seed count i ∙ e ∙ sym (mod-add-mod seed count j))

-- every page is among the first count of them
pub turns-every : (count seed p : ℕ) → p < count → (i : ℕ) × ((i < count) × ((seed + i) % count ≡ p))
turns-every count seed p h =
    let r = round-every (seed % count) count (mod-lt seed (omega arith)) p h in (r.0, (r.1.0, sym (mod-add-mod seed count r.0) ∙ r.1.1))

-- after the first count of them there is none
pub then-none : (a : Allocator) (count seed : ℕ) → 1 ≤ count → count ≤ max_page_count → (calls.try_allocate (left_after a (reset count seed ∷ replicate count try_allocate))).answer ≡ Ok None
unfolding left_by
then-none a count seed some few =
    let first = seed % count in
    let t : Turned count first 0 (all_free count first) = turned_none count first few (mod-lt seed some) in
    let z : 0 + count ≡ count = omega arith in
    ap (λ (b : Allocator). (calls.try_allocate b).answer) (left_after-more left_by a (reset count seed) (replicate count try_allocate))
    ∙ ap (λ (c : Change ⊤). (calls.try_allocate (left_after c.allocator (replicate count try_allocate))).answer) (reset-done a count seed some few)
    ∙ turned-all count first few (mod-lt seed some) (left_after (all_free count first) (replicate count try_allocate))
    (rw z at (turns-left count first few (mod-lt seed some) count 0 (all_free count first) t (omega arith)))

-- When try_allocate hands out nothing: exactly where there is no page or all are used. Assumes nothing.
use Rattle.std.specs.Prelude.{Ok, Err, Some, None}
use Rattle.std.specs.declared.option.Option.{Option}
use Rattle.types.specs.declared.page_id.PageID.{PageID}
use mathlib.Core.Path.{◌≡◌, refl, sym, ◌∙◌}
use mathlib.Core.Bool.{Bool, true, false}
use mathlib.Core.List.{List, [], ◌∷◌}
use mathlib.Core.Logic.{◌⊎◌, inr, ⊎_elim, ◌↔◌}
use Prim.Native.Nat.{ℕ, zero, suc, ◌+◌, ◌%◌, ◌≤◌, ◌<◌}
use native.Mathlib.Nat.{mod-lt}
use native.Mathlib.Omega.{arith}
use lib.ListN.{length, get_or, take}
use lib.Seq.{get_or-take, length-take-le}
use Rattle.types.specs.Checks.{refused_or, Verdict}
use Rattle.alloc.specs.Calls.{next_free, try_allocate, handing_out, refused_allocation}
use Rattle.alloc.specs.Checks.{state_check}
use Rattle.alloc.specs.Marks.{marks_of, is_marked, count_of}
use Rattle.alloc.specs.Search.{round_from}
use Rattle.alloc.specs.State.{Sized}
use Rattle.alloc.specs.declared.allocator.Allocator.{Allocator}
use Rattle.alloc.proofs.FirstLaws.{none-says, says_none, length-round_from, round_from-at}
use Rattle.alloc.proofs.MarksLaws.{count_of-split, count_of-le, length-marks_of}
use Rattle.alloc.proofs.RoundLaws.{round-every}
use Rattle.alloc.proofs.StateLaws.{InRange, state-fine, next_le, used_le}

-- ---- all pages used

all-used : (ms : List Bool) → ((i : ℕ) → i < length ms → get_or ms i false ≡ true) → count_of ms ≡ length ms
unfolding count_of
all-used [] h = refl
all-used (m ∷ ms) h = rw (h 0 (omega arith), all-used ms (λ i l. h (suc i) (omega arith))) (omega arith)

used_all : (ms : List Bool) → count_of ms ≡ length ms → (i : ℕ) → i < length ms → get_or ms i false ≡ true
unfolding count_of
used_all [] e i l = absurd (omega arith)
used_all (true ∷ ms) e zero l = refl
used_all (true ∷ ms) e (suc i) l = used_all ms (omega arith) i (omega arith)
used_all (false ∷ ms) e i l = let h : count_of ms ≤ length ms = count_of-le ms in absurd (omega arith)

-- of an allocator in range: its marks are those below the count
module _ (a : Allocator) (size : Sized a) (r : InRange a) where
  low : List Bool
  low = take a.page_count (marks_of a.pages)

  length-low : length low ≡ a.page_count
  unfolding low
  length-low = length-take-le a.page_count (marks_of a.pages) (omega (arith, length-marks_of a.pages, r.few))

  count_low : count_of low ≡ a.used
  unfolding low
  count_low = omega (arith, count_of-split a.page_count (marks_of a.pages), r.counted, r.above)

  low-at : (p : ℕ) → p < a.page_count → get_or low p false ≡ is_marked a.pages p
  unfolding low
  low-at p h = get_or-take a.page_count (marks_of a.pages) p false h

  pub full-says : a.used ≡ a.page_count → (p : ℕ) → p < a.page_count → is_marked a.pages p ≡ true
  full-says e p h = sym (low-at p h) ∙ used_all low (count_low ∙ e ∙ sym length-low) p (omega (arith, length-low))

  pub says-full : ((p : ℕ) → p < a.page_count → is_marked a.pages p ≡ true) → a.used ≡ a.page_count
  says-full h = sym count_low ∙ all-used low (λ i l. let m : i < a.page_count = omega (arith, length-low) in low-at i m ∙ h i m) ∙ length-low

-- ---- the search finds none

none-used : (a : Allocator) → InRange a → next_free a ≡ None → (p : ℕ) → p < a.page_count → is_marked a.pages p ≡ true
none-used a r e p h = ⊎_elim on (λ z. absurd (omega arith)) r.next
  where
    on : a.next_page_id < a.page_count → is_marked a.pages p ≡ true
    on l =
        let next = a.next_page_id in
        let count = a.page_count in
        let i = round-every next count l p h in
        let at : get_or (round_from next count) i.0 0 ≡ p = round_from-at next count (next_le a r) i.0 i.1.0 ∙ i.1.1 in
        let long : length (round_from next count) ≡ count = length-round_from next count (next_le a r) in
        rw at at (none-says (marks_of a.pages) (round_from next count) e i.0 (omega (arith, i.1.0)))

used-none : (a : Allocator) → InRange a → ((p : ℕ) → p < a.page_count → is_marked a.pages p ≡ true) → next_free a ≡ None
used-none a r h = says_none (marks_of a.pages) (round_from a.next_page_id a.page_count) each
  where
    each : (j : ℕ) → j < length (round_from a.next_page_id a.page_count) → is_marked a.pages (get_or (round_from a.next_page_id a.page_count) j 0) ≡ true
    each j l =
        let next = a.next_page_id in
        let count = a.page_count in
        let m : j < count = rw (length-round_from next count (next_le a r)) at l in
        rw (round_from-at next count (next_le a r) j m) (h ((next + j) % count) (mod-lt (next + j) (omega arith)))

none_after : (k : Verdict) (a : Allocator) (m : Option PageID) → (refused_or k (refused_allocation a) (handing_out a m)).answer ≡ Ok None → (k ≡ Ok tt) × (m ≡ None)
none_after (Err why) a m e = let z : ◌≡◌ {A = ℕ} 0 1 = cc in absurd (omega arith)
none_after (Ok tt) a None e = (refl, refl)
none_after (Ok tt) a (Some q) e = let z : ◌≡◌ {A = ℕ} 0 1 = cc in absurd (omega arith)

-- none exactly where the count is 0 or all pages are used
pub none-exactly : (a : Allocator) → Sized a → InRange a → ((try_allocate a).answer ≡ Ok None) ↔ ((a.page_count ≡ 0) ⊎ (a.used ≡ a.page_count))
unfolding try_allocate
none-exactly a size r = (forth, back)
  where
    forth : (try_allocate a).answer ≡ Ok None → (a.page_count ≡ 0) ⊎ (a.used ≡ a.page_count)
    forth e = inr (says-full a size r (none-used a r (none_after (state_check a) a (next_free a) e).1))

    back : (a.page_count ≡ 0) ⊎ (a.used ≡ a.page_count) → (try_allocate a).answer ≡ Ok None
    back h =
        let full : a.used ≡ a.page_count = ⊎_elim (λ z. omega (arith, used_le a r)) (λ e. e) h in
        rw (state-fine a r, used-none a r (full-says a size r full))

-- where the answer is none, nothing changes
pub none-changes-nothing : (a : Allocator) → (try_allocate a).answer ≡ Ok None → (try_allocate a).allocator ≡ a
unfolding try_allocate
none-changes-nothing a e = let s = none_after (state_check a) a (next_free a) e in rw (s.0, s.1)

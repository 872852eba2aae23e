-- What try_allocate hands out. Assumes nothing.
use Rattle.std.specs.Prelude.{Ok, Err, Some, None}
use Rattle.std.specs.declared.option.Option.{Option}
use mathlib.Core.Path.{◌≡◌, refl, sym, ap, ◌∙◌}
use mathlib.Core.Bool.{true, false}
use Prim.Native.Nat.{ℕ, ◌+◌, ◌*◌, ◌%◌, ◌≤◌, ◌<◌}
use native.Mathlib.Omega.{arith}
use lib.ListN.{length, get_or, set}
use lib.Seq.{get_or-set_same, get_or-set_other}
use Rattle.types.specs.Checks.{refused_or, Verdict}
use Rattle.types.specs.declared.page_id.PageID.{PageID}
use Rattle.alloc.specs.Calls.{next_free, try_allocate, handing_out, refused_allocation}
use Rattle.alloc.specs.Checks.{state_check}
use Rattle.alloc.specs.Marks.{marks_of, is_marked, marking}
use Rattle.alloc.specs.Search.{round_from}
use Rattle.alloc.specs.State.{marked, moved_past, Sized}
use Rattle.alloc.specs.declared.allocator.Allocator.{Allocator}
use Rattle.alloc.proofs.FirstLaws.{First, first_says, says_first, length-round_from, round_from-at, found_below}
use Rattle.alloc.proofs.MarksLaws.{length-marks_of, marks_of-marking}
use Rattle.alloc.proofs.StateLaws.{InRange, fine-state, fine-range, state-fine, next_le}

page-after : (k : Verdict) (a : Allocator) (m : Option PageID) (page : PageID) → (refused_or k (refused_allocation a) (handing_out a m)).answer ≡ Ok (Some page)
    → (k ≡ Ok tt) × (m ≡ Some page)
page-after (Err why) a m page e = let z : ◌≡◌ {A = ℕ} 0 1 = cc in absurd (omega arith)
page-after (Ok tt) a None page e = let z : ◌≡◌ {A = ℕ} 0 1 = cc in absurd (omega arith)
page-after (Ok tt) a (Some q) page e = let f : q ≡ page = cc in (refl, ap Some f)

-- what is handed out is what the search found, with the allocator that this leaves
pub handed_whole : (a : Allocator) (m : Option PageID) → record { answer = Ok m; allocator = (handing_out a m).allocator } ≡ handing_out a m
handed_whole a None = refl
handed_whole a (Some page) = refl

-- what the search finds is a page, and free
pub found-free : (a : Allocator) (page : PageID) (p : ℕ) → InRange a → next_free a ≡ Some page → p ≡ page.0
    → (p < a.page_count) × (is_marked a.pages p ≡ false)
found-free a page p r e is =
    let f = first_says (marks_of a.pages) (round_from a.next_page_id a.page_count) page e in
    rw is (found_below a.next_page_id a.page_count (next_le a r) (marks_of a.pages) page.0 f, f.free)

-- b is a once a page is handed out: it was free and is marked, it is the first free one, and nothing else moved
pub record HandedOut (a : Allocator) (p : ℕ) (b : Allocator) : Type 0 where
  pub below : p < a.page_count
  pub free : is_marked a.pages p ≡ false
  pub used : is_marked b.pages p ≡ true
  pub others : (q : ℕ) → (q ≡ p → ⊥) → is_marked b.pages q ≡ is_marked a.pages q
  pub same : b.page_count ≡ a.page_count
  pub counted : b.used ≡ a.used + 1
  pub next : b.next_page_id ≡ (p + 1) % a.page_count
  -- how many pages on from the next one it lies; each page before it is used
  pub steps : ℕ
  pub within : steps < a.page_count
  pub is : p ≡ (a.next_page_id + steps) % a.page_count
  pub first : (j : ℕ) → j < steps → is_marked a.pages ((a.next_page_id + j) % a.page_count) ≡ true

pub handed_out : (a : Allocator) (page : PageID) → Sized a → (try_allocate a).answer ≡ Ok (Some page) → HandedOut a page.0 (try_allocate a).allocator
unfolding try_allocate
handed_out a page size e = rw (s.0, s.1) (made (fine-state a s.0) (first_says (marks_of a.pages) (round_from a.next_page_id a.page_count) page s.1))
  where
    s : (state_check a ≡ Ok tt) × (next_free a ≡ Some page)
    s = page-after (state_check a) a (next_free a) page e

    made : InRange a → First (marks_of a.pages) (round_from a.next_page_id a.page_count) page.0 → HandedOut a page.0 (moved_past (marked a page.0) page.0)
    made r f =
        let next = a.next_page_id in
        let count = a.page_count in
        let le : next ≤ count = next_le a r in
        let long : length (round_from next count) ≡ count = length-round_from next count le in
        let below : page.0 < count = found_below next count le (marks_of a.pages) page.0 f in
        let inside : page.0 < length a.pages * 8 = omega (arith, r.few) in
        let room : page.0 < length (marks_of a.pages) = omega (arith, length-marks_of a.pages) in
        let m : marks_of (marking a.pages page.0) ≡ set (marks_of a.pages) page.0 true = marks_of-marking a.pages page.0 inside f.free in
        record {
          below = below;
          free = f.free;
          used = rw m (get_or-set_same (marks_of a.pages) page.0 true false room);
          others = λ q n. rw m (get_or-set_other (marks_of a.pages) page.0 q true false n);
          same = refl;
          counted = refl;
          next = refl;
          steps = f.at;
          within = omega (arith, f.inside);
          is = sym f.is ∙ round_from-at next count le f.at (omega (arith, f.inside));
          first = λ j l. rw (← round_from-at next count le j (omega (arith, f.inside))) (f.passed j l);
        }

-- the other way round: the first free page is handed out
pub hands_out : (a : Allocator) (p steps : ℕ) → InRange a → steps < a.page_count → p ≡ (a.next_page_id + steps) % a.page_count
    → is_marked a.pages p ≡ false
    → ((j : ℕ) → j < steps → is_marked a.pages ((a.next_page_id + j) % a.page_count) ≡ true)
    → (try_allocate a).answer ≡ Ok (Some (record { 0 = p }))
unfolding try_allocate
hands_out a p steps r within is free first =
    rw (state-fine a r, says_first (marks_of a.pages) (round_from a.next_page_id a.page_count) p found_first)
  where
    at : (j : ℕ) → j < a.page_count → get_or (round_from a.next_page_id a.page_count) j 0 ≡ (a.next_page_id + j) % a.page_count
    at j l = round_from-at a.next_page_id a.page_count (next_le a r) j l

    found_first : First (marks_of a.pages) (round_from a.next_page_id a.page_count) p
    found_first =
        record {
          at = steps;
          inside = rw (length-round_from a.next_page_id a.page_count (next_le a r)) within;
          is = at steps within ∙ sym is;
          free = free;
          passed = λ j l. rw (at j (omega arith)) (first j l);
        }

-- a page handed out, of an allocator in range
pub ruleset handed = (fine-range, handed_whole)

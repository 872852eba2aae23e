-- A freed page is found again when the search comes round. Assumes nothing.
use Rattle.std.specs.Prelude.{Ok, Some, None}
use Rattle.std.specs.declared.option.Option.{Option}
use mathlib.Core.Path.{◌≡◌, refl, sym, ap, ◌∙◌}
use mathlib.Core.Bool.{true, false, false≢true}
use mathlib.Core.Logic.{◌⊎◌, inl, inr, ⊎_elim}
use Prim.Native.Nat.{ℕ, zero, suc, ◌+◌, ◌-◌, ◌%◌, ◌≤◌, ◌<◌}
use native.Mathlib.Nat.{mod-lt}
use native.Mathlib.Omega.{arith}
use lib.ListN.{set, replicate}
use lib.Seq.{get_or-set_same, get_or-set_other}
use borrow.Author.Tests.{lt-ltb}
use Rattle.types.specs.declared.page_id.PageID.{PageID}
use Rattle.types.proofs.HistoryLaws.{left_after-none, left_after-more}
use Rattle.types.proofs.TestLaws.{eq-or-ne}
use Rattle.alloc.specs.Calls as calls
use Rattle.alloc.specs.Calls.{next_free, handing_out}
use Rattle.alloc.specs.Checks.{own_page_check}
use Rattle.alloc.specs.History.{try_allocate, left_by, left_after}
use Rattle.alloc.specs.Marks.{marks_of, is_marked, freeing}
use Rattle.alloc.specs.State.{freed}
use Rattle.alloc.specs.declared.allocator.Allocator.{Allocator}
use Rattle.alloc.proofs.HandedLaws.{HandedOut, handed_out, hands_out}
use Rattle.alloc.proofs.KeptLaws.{kept, freed-in, freed-sized}
use Rattle.alloc.proofs.MarksLaws.{length-marks_of, marks_of-freeing}
use Rattle.alloc.proofs.NoneLaws.{none-exactly, full-says}
use Rattle.alloc.proofs.RoundLaws.{round-different, round-every}
use Rattle.alloc.proofs.StateLaws.{Sound, is_in_range, state-fine, used_le, used_pos}

-- ---- what free leaves

module _ (a : Allocator) (p : ℕ) (sound : Sound a) (below : p < a.page_count) (used : is_marked a.pages p ≡ true) where
  pub free-done : calls.free a (record { 0 = p }) ≡ calls.done (freed a p)
  unfolding calls.free own_page_check
  free-done = rw (is_in_range a sound.1, lt-ltb p a.page_count below, used)

  marks : marks_of (freeing a.pages p) ≡ set (marks_of a.pages) p false
  marks = marks_of-freeing a.pages p (omega (arith, sound.0, sound.1.few)) used

  pub freed-free : is_marked (freed a p).pages p ≡ false
  freed-free = rw marks (get_or-set_same (marks_of a.pages) p false false (omega (arith, length-marks_of a.pages, sound.0, sound.1.few)))

  pub freed-others : (q : ℕ) → (q ≡ p → ⊥) → is_marked (freed a p).pages q ≡ is_marked a.pages q
  freed-others q n = rw marks (get_or-set_other (marks_of a.pages) p q false false n)

  some_next : a.next_page_id < a.page_count
  some_next = ⊎_elim (λ h. h) (λ z. absurd (omega arith)) sound.1.next

  -- where every page on the way to it is used, a freed page is the next to go out
  pub freed-first : (steps : ℕ) → steps < a.page_count → p ≡ (a.next_page_id + steps) % a.page_count
      → ((j : ℕ) → j < steps → is_marked a.pages ((a.next_page_id + j) % a.page_count) ≡ true)
      → (calls.try_allocate (calls.free a (record { 0 = p })).allocator).answer ≡ Ok (Some (record { 0 = p }))
  freed-first steps within is first =
      rw free-done
      (hands_out (freed a p) p steps (freed-in a p sound.0 sound.1 below used) within is freed-free
      (λ j l. freed-others ((a.next_page_id + j) % a.page_count)
      (λ e. let same : j ≡ steps = round-different a.next_page_id a.page_count some_next j steps (omega arith) within (e ∙ is) in omega arith)
      ∙ first j l))

  -- so it is where all pages were used
  pub freed-last : a.used ≡ a.page_count → (calls.try_allocate (calls.free a (record { 0 = p })).allocator).answer ≡ Ok (Some (record { 0 = p }))
  freed-last full =
      let i = round-every a.next_page_id a.page_count some_next p below in
      freed-first i.0 i.1.0 (sym i.1.1)
      (λ j l. full-says a sound.0 sound.1 full ((a.next_page_id + j) % a.page_count) (mod-lt (a.next_page_id + j) (omega arith)))

-- ---- the search comes round

page-or-none : (a : Allocator) → Sound a → ((calls.try_allocate a).answer ≡ Ok None) ⊎ ((page : PageID) × ((calls.try_allocate a).answer ≡ Ok (Some page)))
unfolding calls.try_allocate
page-or-none a s = rw (state-fine a s.1) (case (next_free a))
  where
    case : (m : Option PageID) → ((handing_out a m).answer ≡ Ok None) ⊎ ((page : PageID) × ((handing_out a m).answer ≡ Ok (Some page)))
    case None = inl refl
    case (Some page) = inr (page, refl)

-- where a page is free, not all are used
not_full : (a : Allocator) (p : ℕ) → Sound a → p < a.page_count → is_marked a.pages p ≡ false → a.used ≡ a.page_count → ⊥
not_full a p s below f full = false≢true (sym f ∙ full-says a s.0 s.1 full p below)

-- a page that is free is handed out before the free pages have run out
pub comes-round : (m : ℕ) (a : Allocator) (p : ℕ) → Sound a → p < a.page_count → is_marked a.pages p ≡ false → a.page_count ≤ a.used + m
    → (k : ℕ) × ((k < m) × ((calls.try_allocate (left_after a (replicate k try_allocate))).answer ≡ Ok (Some (record { 0 = p }))))
unfolding left_by
comes-round zero a p s below f h = absurd (not_full a p s below f (omega (arith, used_le a s.1)))
comes-round (suc m) a p s below f h = ⊎_elim (λ e. absurd (never e)) (λ q. out q.0 q.1 (comes-round m b p (kept a try_allocate s))) (page-or-none a s)
  where
    b : Allocator
    b = (calls.try_allocate a).allocator

    never : (calls.try_allocate a).answer ≡ Ok None → ⊥
    never e = ⊎_elim (λ z. omega arith) (not_full a p s below f) ((none-exactly a s.0 s.1).0 e)

    out : (page : PageID) → (calls.try_allocate a).answer ≡ Ok (Some page)
        → (p < b.page_count → is_marked b.pages p ≡ false → b.page_count ≤ b.used + m
        → (k : ℕ) × ((k < m) × ((calls.try_allocate (left_after b (replicate k try_allocate))).answer ≡ Ok (Some (record { 0 = p })))))
        → (k : ℕ) × ((k < suc m) × ((calls.try_allocate (left_after a (replicate k try_allocate))).answer ≡ Ok (Some (record { 0 = p }))))
    out page e rest =
        let o : HandedOut a page.0 b = handed_out a page s.0 e in
        ⊎_elim
        (λ same. (0, (omega arith, rw (left_after-none left_by a) (e ∙ ap (λ (x : ℕ). Ok (Some (record { 0 = x }))) same))))
        (λ n.
        let r = rest (omega (arith, o.same)) (o.others p (λ q. n (sym q)) ∙ f) (omega (arith, o.same, o.counted)) in
        (suc r.0, (omega (arith, r.1.0), rw (left_after-more left_by a try_allocate (replicate r.0 try_allocate)) r.1.1)))
        (eq-or-ne page.0 p)

-- a page that was freed is handed out again too
pub found-again : (a : Allocator) (p : ℕ) → Sound a → p < a.page_count → is_marked a.pages p ≡ true
    → (k : ℕ) × ((k < a.page_count - a.used + 1)
    × ((calls.try_allocate (left_after (calls.free a (record { 0 = p })).allocator (replicate k try_allocate))).answer ≡ Ok (Some (record { 0 = p }))))
found-again a p s below used =
    let fewer : a.page_count ≤ a.used - 1 + (a.page_count - a.used + 1) = enough a.used a.page_count (used_pos a p s.1 used) (used_le a s.1) in
    rw (free-done a p s below used)
    (comes-round (a.page_count - a.used + 1) (freed a p) p (freed-sized a p s.0, freed-in a p s.0 s.1 below used) below (freed-free a p s below used) fewer)
  where
    enough : (u n : ℕ) → 1 ≤ u → u ≤ n → n ≤ u - 1 + (n - u + 1)
    enough u n h l = omega arith

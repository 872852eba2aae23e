-- What the checks say, as facts. Assumes nothing.
use Rattle.std.specs.Prelude.{Ok, Err}
use mathlib.Core.Path.{◌≡◌, refl}
use mathlib.Core.Bool.{Bool, true, false, ◌&&◌, ◌||◌}
use mathlib.Core.Logic.{◌⊎◌, inl, inr, ⊎_elim}
use Prim.Native.Nat.{ℕ, ◌≤◌, ◌<◌}
use native.Mathlib.Nat.{mod_self, mod-eq_of_lt}
use native.Mathlib.Omega.{arith}
use lib.Dec.{ltb, leb, eqb}
use lib.ListN.{length, take, drop, length-take}
use borrow.Author.Tests.{ltb-true, leb-true, eqb-true, lt-ltb, le-leb, eq-eqb}
use Rattle.types.specs.Build.{max_page_count}
use Rattle.types.specs.Checks.{asking, refused_or, Verdict}
use Rattle.types.specs.declared.page_id.PageID.{PageID}
use Rattle.types.specs.declared.refusal.Refusal.{Refusal}
use Rattle.types.specs.declared.refusal.Refusal.TheVariants.{OutOfRange, BadCount, BadState}
use Rattle.types.proofs.CheckLaws.{asking-fine}
use Rattle.types.proofs.TestLaws.{both_true}
use Rattle.alloc.specs.Checks.{state_check, there_check, own_page_check, wanted_check, count_check}
use Rattle.alloc.specs.Marks.{marks_of, is_marked, count_of}
use Rattle.alloc.specs.State.{Sized, next_fits, in_range}
use Rattle.alloc.specs.declared.allocator.Allocator.{Allocator}
use Rattle.alloc.proofs.MarksLaws.{count_of-split, count_of-le, count_of-free}

-- ---- the range

-- an allocator in range, fact by fact
pub record InRange (a : Allocator) : Type 0 where
  pub few : a.page_count ≤ max_page_count
  pub next : (a.next_page_id < a.page_count) ⊎ ((a.page_count ≡ 0) × (a.next_page_id ≡ 0))
  pub counted : a.used ≡ count_of (marks_of a.pages)
  pub above : count_of (drop a.page_count (marks_of a.pages)) ≡ 0

-- a value of the type that is in range
abbrev pub Sound : Allocator → Type 0
Sound a = Sized a × InRange a

next-says : (next count : ℕ) → next_fits next count ≡ true → (next < count) ⊎ ((count ≡ 0) × (next ≡ 0))
next-says next count h = either (ltb next count) (eqb count 0 && eqb next 0) (ltb-true next count) zeros h
  where
    zeros : (eqb count 0 && eqb next 0) ≡ true → (count ≡ 0) × (next ≡ 0)
    zeros e = let b = both_true (eqb count 0) (eqb next 0) e in (eqb-true count 0 b.0, eqb-true next 0 b.1)

    either : (s t : Bool) → (s ≡ true → next < count) → (t ≡ true → (count ≡ 0) × (next ≡ 0)) → (s || t) ≡ true → (next < count) ⊎ ((count ≡ 0) × (next ≡ 0))
    either true t f g e = inl (f refl)
    either false t f g e = inr (g e)

says-next : (next count : ℕ) → (next < count) ⊎ ((count ≡ 0) × (next ≡ 0)) → next_fits next count ≡ true
says-next next count (inl h) = rw (lt-ltb next count h)
says-next next count (inr h) = rw (h.0, h.1)

pub in-range : (a : Allocator) → in_range a ≡ true → InRange a
unfolding in_range
in-range a h =
    let s = both_true _ _ h in
    let t = both_true _ _ s.0 in
    let u = both_true _ _ t.0 in
    record {
      few = leb-true a.page_count max_page_count u.0;
      next = next-says a.next_page_id a.page_count u.1;
      counted = eqb-true a.used (count_of (marks_of a.pages)) t.1;
      above = eqb-true (count_of (drop a.page_count (marks_of a.pages))) 0 s.1;
    }

pub is_in_range : (a : Allocator) → InRange a → in_range a ≡ true
unfolding in_range
is_in_range a r =
    rw (le-leb a.page_count max_page_count r.few, says-next a.next_page_id a.page_count r.next, eq-eqb a.used (count_of (marks_of a.pages)) r.counted, r.above)

-- the pages in use are among the pages
pub used_le : (a : Allocator) → InRange a → a.used ≤ a.page_count
used_le a r =
    let ms = marks_of a.pages in
    let n = a.page_count in
    let l : count_of (take n ms) ≤ length (take n ms) = count_of-le (take n ms) in
    let m : length (take n ms) ≤ n = rw (length-take n ms) (omega arith) in
    omega (arith, count_of-split n ms, r.counted, r.above)

pub next_le : (a : Allocator) → InRange a → a.next_page_id ≤ a.page_count
next_le a r = ⊎_elim (λ h. omega arith) (λ h. omega arith) r.next

-- where a page is in use, there is one
pub used_pos : (a : Allocator) (p : ℕ) → InRange a → is_marked a.pages p ≡ true → 1 ≤ a.used
used_pos a p r m = omega (arith, r.counted, count_of-free (marks_of a.pages) p m)

-- ---- the checks that let a call go on

-- what holds of each refusal, and of the work where the check is fine, holds of the checked call
pub refused_or-either : {A : Type 0} (P : A → Type 0) (check : Verdict) (refused : Refusal → A) (work : A)
    → ((why : Refusal) → P (refused why)) → (check ≡ Ok tt → P work) → P (refused_or check refused work)
refused_or-either P (Err why) refused work p f = p why
refused_or-either P (Ok tt) refused work p f = f refl

pub fine-state : (a : Allocator) → state_check a ≡ Ok tt → InRange a
unfolding state_check
fine-state a e = in-range a (asking-fine (in_range a) BadState (Ok tt) e).0

pub fine-range : (a : Allocator) → state_check a ≡ Ok tt → in_range a ≡ true
unfolding state_check
fine-range a e = (asking-fine (in_range a) BadState (Ok tt) e).0

pub state-fine : (a : Allocator) → InRange a → state_check a ≡ Ok tt
unfolding state_check
state-fine a r = rw (is_in_range a r)

pub fine-page : (a : Allocator) (page : PageID) → own_page_check a page ≡ Ok tt → InRange a × (page.0 < a.page_count)
unfolding own_page_check
fine-page a page e =
    let s = asking-fine (in_range a) BadState (asking (ltb page.0 a.page_count) OutOfRange (Ok tt)) e in
    let t = asking-fine (ltb page.0 a.page_count) OutOfRange (Ok tt) s.1 in
    (in-range a s.0, ltb-true page.0 a.page_count t.0)

pub own-page : (a : Allocator) (page : PageID) → in_range a ≡ true → there_check a page ≡ Ok tt → own_page_check a page ≡ Ok tt
unfolding own_page_check
own-page a page r e = rw r e

-- so the page has a mark
pub page-below : (a : Allocator) (page : PageID) (p : ℕ) → own_page_check a page ≡ Ok tt → p ≡ page.0 → p < max_page_count
page-below a page p e is = omega (arith, (fine-page a page e).0.few, (fine-page a page e).1)

pub fine-wanted : (a : Allocator) (wanted : ℕ) → wanted_check a wanted ≡ Ok tt → (wanted ≤ max_page_count) × InRange a
unfolding wanted_check
fine-wanted a wanted e =
    let s = asking-fine (leb wanted max_page_count) BadCount (asking (in_range a) BadState (Ok tt)) e in
    let t = asking-fine (in_range a) BadState (Ok tt) s.1 in
    (leb-true wanted max_page_count s.0, in-range a t.0)

pub fine-count : (count : ℕ) → count_check count ≡ Ok tt → (1 ≤ count) × (count ≤ max_page_count)
unfolding count_check
fine-count count e =
    let b = both_true (leb 1 count) (leb count max_page_count) (asking-fine (leb 1 count && leb count max_page_count) BadCount (Ok tt) e).0 in
    (leb-true 1 count b.0, leb-true count max_page_count b.1)

pub count-fine : (count : ℕ) → 1 ≤ count → count ≤ max_page_count → count_check count ≡ Ok tt
unfolding count_check
count-fine count some few = rw (le-leb 1 count some, le-leb count max_page_count few)

-- what checks say that were passed
pub ruleset ranges = (in-range, own-page, fine-state, fine-range, fine-page, page-below, fine-count, used_le, used_pos, mod_self, mod-eq_of_lt)

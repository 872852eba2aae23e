-- An allocator in range stays in range, whatever is called. Assumes nothing.
use Rattle.std.specs.Prelude.{Ok, Err, Some, None, ⊤}
use Rattle.std.specs.declared.option.Option.{Option}
use Rattle.std.specs.declared.result.Result.{Result}
use Rattle.types.specs.declared.refusal.Refusal.{Refusal}
use mathlib.Core.Path.{◌≡◌, refl, sym, ◌∙◌}
use mathlib.Core.Bool.{Bool, true, false, cond}
use mathlib.Core.List.{List, [], ◌∷◌}
use mathlib.Core.Logic.{◌⊎◌, inl, inr}
use Prim.Native.Nat.{ℕ, zero, suc, ◌+◌, ◌*◌, ◌%◌, ◌≤◌, ◌<◌}
use native.Mathlib.Nat.{mod-lt}
use native.Mathlib.Omega.{arith}
use lib.ListN.{length, set, drop, replicate, length-set}
use lib.Seq.{drop-set-lt}
use Rattle.types.specs.Build.{max_page_count}
use Rattle.types.specs.declared.page_id.PageID.{PageID}
use Rattle.alloc.specs.Calls as calls
use Rattle.alloc.specs.Calls.{next_free, handing_out}
use Rattle.alloc.specs.Checks.{state_check, own_page_check, count_check}
use Rattle.alloc.specs.History.{Call, reset, try_allocate, mark_used, free, is_used, used_pages, free_pages, page_count, margin, try_allocate_each, free_each, left_by, left_after}
use Rattle.alloc.specs.Marks.{bits_of, marks_of, is_marked, count_of, marking, freeing}
use Rattle.alloc.specs.Several as several
use Rattle.alloc.specs.Several.{Handed, then_further, handed_by, then_freeing, free_on}
use Rattle.alloc.specs.State.{all_free, marked, freed, moved_past, Sized, in_range}
use Rattle.alloc.specs.declared.allocator.Allocator.{Allocator}
use Rattle.alloc.specs.declared.answers.Change.{Change}
use Rattle.types.proofs.HistoryLaws.{left_after-keeps}
use Rattle.alloc.proofs.HandedLaws.{found-free}
use Rattle.alloc.proofs.MarksLaws.{no-bits-of-zero, count_of-append, count_of-split, count_of-mark, count_of-free, length-marks_of, marks_of-marking, marks_of-freeing}
use Rattle.alloc.proofs.StateLaws.{InRange, Sound, in-range, is_in_range, refused_or-either, fine-page, fine-count}

-- ---- states

-- bytes of 0 have no mark, from any page on
zeros-none : (k : ℕ) → count_of (marks_of (replicate k 0)) ≡ 0
unfolding marks_of count_of
zeros-none zero = refl
zeros-none (suc k) = count_of-append (bits_of 8 0) (marks_of (replicate k 0)) ∙ rw (no-bits-of-zero 8, zeros-none k)

drop-none : (n : ℕ) (ms : List Bool) → count_of ms ≡ 0 → count_of (drop n ms) ≡ 0
drop-none n ms e = omega (arith, count_of-split n ms)

pub all_free-in : (count next : ℕ) → count ≤ max_page_count → (next < count) ⊎ ((count ≡ 0) × (next ≡ 0)) → InRange (all_free count next)
all_free-in count next few n = record { few = few; next = n; counted = sym (zeros-none 32); above = drop-none count (marks_of (replicate 32 0)) (zeros-none 32) }

module _ (a : Allocator) (p : ℕ) (size : Sized a) (r : InRange a) (below : p < a.page_count) where
  inside : p < length a.pages * 8
  inside = omega (arith, r.few)

  inside-marks : p < length (marks_of a.pages)
  inside-marks = omega (arith, length-marks_of a.pages, inside)

  pub marked-in : is_marked a.pages p ≡ false → InRange (marked a p)
  marked-in f =
      let e : marks_of (marking a.pages p) ≡ set (marks_of a.pages) p true = marks_of-marking a.pages p inside f in
      record {
        few = r.few;
        next = r.next;
        counted = rw (e, count_of-mark (marks_of a.pages) p inside-marks f, r.counted);
        above = rw (e, drop-set-lt a.page_count (marks_of a.pages) p true below) r.above;
      }

  pub freed-in : is_marked a.pages p ≡ true → InRange (freed a p)
  freed-in f =
      let e : marks_of (freeing a.pages p) ≡ set (marks_of a.pages) p false = marks_of-freeing a.pages p inside f in
      let c : count_of (marks_of a.pages) ≡ count_of (set (marks_of a.pages) p false) + 1 = count_of-free (marks_of a.pages) p f in
      record {
        few = r.few;
        next = r.next;
        counted = rw e (omega (arith, r.counted));
        above = rw (e, drop-set-lt a.page_count (marks_of a.pages) p false below) r.above;
      }

  pub moved_past-in : InRange (moved_past a p)
  moved_past-in = record { few = r.few; next = inl (mod-lt (p + 1) (omega arith)); counted = r.counted; above = r.above }

pub marked-sized : (a : Allocator) (p : ℕ) → Sized a → Sized (marked a p)
unfolding marking
marked-sized a p s = simp length-set s

pub freed-sized : (a : Allocator) (p : ℕ) → Sized a → Sized (freed a p)
unfolding freeing
freed-sized a p s = simp length-set s

-- ---- calls

either : (P : Allocator → Type 0) (t : Bool) (x y : Change ⊤) → (t ≡ true → P x.allocator) → (t ≡ false → P y.allocator) → P (cond t x y).allocator
either P true x y f g = f refl
either P false x y f g = g refl

handed : (P : Allocator → Type 0) (a : Allocator) (next_free : Option PageID) → P a
    → ((page : PageID) → next_free ≡ Some page → P (moved_past (marked a page.0) page.0)) → P (handing_out a next_free).allocator
handed P a None p f = p
handed P a (Some page) p f = f page refl

allocated-kept : (a : Allocator) → Sound a → Sound (calls.try_allocate a).allocator
unfolding calls.try_allocate
allocated-kept a s = refused_or-either (λ (x : Change (Option PageID)). Sound x.allocator) (state_check a) _ _ (λ why. s) (λ e. handed Sound a (next_free a) s (λ page f.
    let p = page.0 in
    let here = found-free a page p s.1 f refl in
    let size = marked-sized a p s.0 in
    (size, moved_past-in (marked a p) p size (marked-in a p s.0 s.1 here.0 here.1) here.0)))

pub freed-kept : (a : Allocator) (p : ℕ) → Sound a → Sound (calls.free a (record { 0 = p })).allocator
unfolding calls.free
freed-kept a p s = refused_or-either (λ (x : Change ⊤). Sound x.allocator) (own_page_check a (record { 0 = p })) _ _ (λ why. s) (λ e.
    let below = (fine-page a (record { 0 = p }) e).1 in
    either Sound (is_marked a.pages p) _ _ (λ m. (freed-sized a p s.0, freed-in a p s.0 s.1 below m)) (λ m. s))

-- ---- calls for several pages

further-kept : (x : Result (Option PageID) Refusal) (a : Allocator) (h : Handed) → Sound a → Sound h.allocator → Sound (then_further x a h).allocator
further-kept (Ok (Some page)) a h s t = t
further-kept (Ok None) a h s t = s
further-kept (Err why) a h s t = s

handed-kept : (n : ℕ) (a : Allocator) → Sound a → Sound (handed_by n a).allocator
unfolding handed_by
handed-kept zero a s = s
handed-kept (suc n) a s =
    further-kept (calls.try_allocate a).answer a _ s (handed-kept n (calls.try_allocate a).allocator (allocated-kept a s))

onward-kept : (x : Result ⊤ Refusal) (start : Allocator) (c : Change ⊤) → Sound start → Sound c.allocator → Sound (then_freeing x start c).allocator
onward-kept (Ok tt) start c s t = t
onward-kept (Err why) start c s t = s

free_on-kept : (start : Allocator) (pages : List ℕ) (a : Allocator) → Sound start → Sound a → Sound (free_on start pages a).allocator
unfolding free_on
free_on-kept start [] a s t = t
free_on-kept start (p ∷ ps) a s t =
    onward-kept (calls.free a (record { 0 = p })).answer start _ s (free_on-kept start ps (calls.free a (record { 0 = p })).allocator s (freed-kept a p t))

-- ---- any call

-- whatever is called, used stays the number of marks, and none comes to lie at or past the count
pub kept : (a : Allocator) (c : Call) → Sound a → Sound (left_by a c)
unfolding left_by calls.reset calls.mark_used several.try_allocate_each several.free_each
kept a (reset count seed) s =
    refused_or-either (λ (x : Change ⊤). Sound x.allocator) (count_check count) _ _ (λ why. s)
    (λ e. let f = fine-count count e in (refl, all_free-in count (seed % count) f.1 (inl (mod-lt seed f.0))))
kept a try_allocate s = allocated-kept a s
kept a (mark_used p) s = refused_or-either (λ (x : Change ⊤). Sound x.allocator) (own_page_check a (record { 0 = p })) _ _ (λ why. s) (λ e.
    let below = (fine-page a (record { 0 = p }) e).1 in
    either Sound (is_marked a.pages p) _ _ (λ m. s) (λ m. (marked-sized a p s.0, marked-in a p s.0 s.1 below m)))
kept a (free p) s = freed-kept a p s
kept a (is_used p) s = s
kept a used_pages s = s
kept a free_pages s = s
kept a page_count s = s
kept a (margin wanted) s = s
kept a (try_allocate_each n) s = refused_or-either (λ (x : Change ℕ). Sound x.allocator) (state_check a) _ _ (λ why. s) (λ e. handed-kept n a s)
kept a (free_each pages) s = refused_or-either (λ (x : Change ⊤). Sound x.allocator) (state_check a) _ _ (λ why. s) (λ e. free_on-kept a pages a s s)

-- the same, of the test that the code makes
pub range-kept : (a : Allocator) (c : Call) → Sized a → in_range a ≡ true → in_range (left_by a c) ≡ true
range-kept a c size r = is_in_range (left_by a c) (kept a c (size, in-range a r)).1

-- ---- histories

pub new-sound : Sound (all_free 0 0)
new-sound = (refl, all_free-in 0 0 (omega arith) (inr (refl, refl)))

pub history-kept : (cs : List Call) (a : Allocator) → Sound a → Sound (left_after a cs)
history-kept cs a s = left_after-keeps left_by Sound kept a cs s

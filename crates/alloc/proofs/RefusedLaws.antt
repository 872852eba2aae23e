-- A refused call leaves the allocator as it was. Assumes nothing.
use Rattle.std.specs.Prelude.{Ok, Err, Some, None, ⊤}
use Rattle.std.specs.declared.option.Option.{Option}
use Rattle.std.specs.declared.result.Result.{Result}
use Rattle.types.specs.declared.page_id.PageID.{PageID}
use mathlib.Core.Path.{◌≡◌, refl}
use mathlib.Core.Bool.{Bool, true, false, cond}
use mathlib.Core.List.{List, [], ◌∷◌}
use Prim.Native.Nat.{ℕ, ◌%◌}
use Rattle.types.specs.Checks.{refused_or, Verdict}
use Rattle.types.specs.Answers.{outcome_told}
use Rattle.alloc.specs.Answers.{allocated_told, pages_told}
use Rattle.alloc.specs.Calls as calls
use Rattle.alloc.specs.Calls.{next_free, done, refused_change, refused_allocation, handing_out}
use Rattle.alloc.specs.Checks.{state_check, own_page_check, count_check}
use Rattle.alloc.specs.History.{Call, reset, try_allocate, mark_used, free, is_used, used_pages, free_pages, page_count, margin, try_allocate_each, free_each, answer_to, left_by}
use Rattle.alloc.specs.Marks.{is_marked}
use Rattle.alloc.specs.Several as several
use Rattle.alloc.specs.Several.{Handed, handed_by, refused_allocations, allocations_of, then_freeing, free_on}
use Rattle.alloc.specs.State.{all_free, marked, freed}
use Rattle.alloc.specs.declared.allocator.Allocator.{Allocator}
use Rattle.alloc.specs.declared.answers.Change.{Change}
use Rattle.types.specs.declared.refusal.Refusal.{Refusal}
use Rattle.types.specs.declared.refusal.Refusal.TheVariants.{Corrupted}
use Rattle.alloc.proofs.StateLaws.{refused_or-either}

-- a change that leaves another allocator is no refusal
Honest : Allocator → Change ⊤ → Type 0
Honest a w = ((outcome_told w.answer).number ≡ 0 → ⊥) → w.allocator ≡ a

picked : (t : Bool) (a : Allocator) (x y : Change ⊤) → Honest a x → Honest a y → Honest a (cond t x y)
picked true a x y f g = f
picked false a x y f g = g

done-honest : (a b : Allocator) → Honest a (done b)
unfolding Honest
done-honest a b n = absurd (n refl)

refused-honest : (a : Allocator) (why : Refusal) → Honest a (refused_change a why)
unfolding Honest
refused-honest a why n = refl

checked : (k : Verdict) (a : Allocator) (w : Change ⊤) → Honest a w → Honest a (refused_or k (refused_change a) w)
checked k a w h = refused_or-either (Honest a) k (refused_change a) w (refused-honest a) (λ e. h)

handed-honest : (k : Verdict) (a : Allocator) (m : Option PageID) → ((allocated_told (refused_or k (refused_allocation a) (handing_out a m)).answer).number ≡ 0 → ⊥)
    → (refused_or k (refused_allocation a) (handing_out a m)).allocator ≡ a
handed-honest (Err why) a m n = refl
handed-honest (Ok tt) a None n = refl
handed-honest (Ok tt) a (Some page) n = absurd (n refl)

each-honest : (k : Verdict) (a : Allocator) (h : Handed) (pages : List ℕ)
    → ((pages_told (refused_or k (refused_allocations a) (allocations_of h)).answer pages).number ≡ 0 → ⊥)
    → (refused_or k (refused_allocations a) (allocations_of h)).allocator ≡ a
each-honest (Err why) a h pages n = refl
each-honest (Ok tt) a h pages n = absurd (n refl)

onward-honest : (x : Result ⊤ Refusal) (start : Allocator) (c : Change ⊤) → Honest start c → Honest start (then_freeing x start c)
unfolding Honest
onward-honest (Ok tt) start c h = h
onward-honest (Err why) start c h = λ n. refl

free_on-honest : (start : Allocator) (pages : List ℕ) (a : Allocator) → Honest start (free_on start pages a)
unfolding free_on
free_on-honest start [] a = done-honest start a
free_on-honest start (p ∷ ps) a =
    onward-honest (calls.free a (record { 0 = p })).answer start _ (free_on-honest start ps (calls.free a (record { 0 = p })).allocator)

pub refused-kept : (a : Allocator) (c : Call) → ((answer_to a c).number ≡ 0 → ⊥) → left_by a c ≡ a
unfolding answer_to left_by calls.reset calls.try_allocate calls.mark_used calls.free several.try_allocate_each several.free_each Honest
refused-kept a (reset count seed) n = checked (count_check count) a _ (done-honest a (all_free count (seed % count))) n
refused-kept a try_allocate n = handed-honest (state_check a) a (next_free a) n
refused-kept a (mark_used p) n =
    checked (own_page_check a (record { 0 = p })) a _ (picked (is_marked a.pages p) a _ _ (refused-honest a Corrupted) (done-honest a (marked a p))) n
refused-kept a (free p) n =
    checked (own_page_check a (record { 0 = p })) a _ (picked (is_marked a.pages p) a _ _ (done-honest a (freed a p)) (refused-honest a Corrupted)) n
refused-kept a (is_used p) n = refl
refused-kept a used_pages n = refl
refused-kept a free_pages n = refl
refused-kept a page_count n = refl
refused-kept a (margin wanted) n = refl
refused-kept a (try_allocate_each k) n = each-honest (state_check a) a (handed_by k a) (handed_by k a).pages n
refused-kept a (free_each pages) n = checked (state_check a) a _ (free_on-honest a pages a) n

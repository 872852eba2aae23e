-- Turn by turn, the loops of several.rt make what their definitions make of calls one after the other. Assumes nothing.
use Rattle.std.specs.Prelude.{Ok, Err, Some, None, ⊤, true}
use mathlib.Core.Path.{◌≡◌, refl, sym, ap, ◌∙◌}
use mathlib.Core.List.{List, [], ◌∷◌, ◌++◌, append-nil}
use Prim.Native.Nat.{ℕ, zero, suc, ◌+◌, ◌-◌, ◌%◌, ◌≤◌, ◌<◌}
use native.Mathlib.Nat.{sub-zero}
use native.Mathlib.Numerals.{add-one}
use native.Mathlib.Omega.{arith}
use lib.ListN.{length, get_or, set, take, drop, length-set, take-append-drop, drop_of_length-le}
use lib.Seq.{take-suc-set, append_snoc, length-take-le, drop-set-lt, drop-cons, drop-drop}
use borrow.Author.Tests.{lt-ltb}
use Rattle.types.specs.declared.page_id.PageID.{PageID}
use Rattle.types.specs.declared.refusal.Refusal.{Refusal}
use Rattle.alloc.specs.Calls.{next_free, try_allocate, free, done, refused_change}
use Rattle.alloc.specs.Checks.{own_page_check, state_check}
use Rattle.alloc.specs.Marks.{is_marked, marking, freeing}
use Rattle.alloc.specs.Several.{Handed, nothing_handed, handed_by, refused_allocations, try_allocate_each, places_after, free_on, free_each}
use Rattle.alloc.specs.State.{marked, freed, moved_past}
use Rattle.alloc.specs.declared.allocator.Allocator.{Allocator}
use Rattle.alloc.specs.declared.answers.Change.{Change}
use Rattle.alloc.proofs.HandedLaws.{found-free}
use Rattle.alloc.proofs.KeptLaws.{marked-in, moved_past-in, marked-sized, freed-kept}
use Rattle.alloc.proofs.StateLaws.{InRange, Sound, is_in_range, state-fine}

-- a loop's variables as one allocator
abbrev pub state_of : ℕ → List ℕ → ℕ → ℕ → Allocator
state_of count pages used next = record { page_count = count; pages = pages; used = used; next_page_id = next }

-- ---- pages handed out

abbrev behind : List ℕ → Handed → Handed
behind pages further = record { pages = pages ++ further.pages; allocator = further.allocator }

hand-none : (n : ℕ) (a : Allocator) → InRange a → next_free a ≡ None → handed_by n a ≡ nothing_handed a
unfolding handed_by try_allocate
hand-none zero a r none = refl
hand-none (suc n) a r none = rw (state-fine a r, none)

hand-refused : (n : ℕ) (a : Allocator) (why : Refusal) → state_check a ≡ Err why → handed_by n a ≡ nothing_handed a
unfolding handed_by try_allocate
hand-refused zero a why e = refl
hand-refused (suc n) a why e = rw e

hand-page : (n : ℕ) (a : Allocator) (page : PageID) → InRange a → next_free a ≡ Some page
    → handed_by (suc n) a ≡ behind (page.0 ∷ []) (handed_by n (moved_past (marked a page.0) page.0))
unfolding handed_by try_allocate
hand-page n a page r is = rw (state-fine a r, is)

pub refused-each : (a : Allocator) (places : List ℕ) (why : Refusal) → state_check a ≡ Err why
    → (refused_allocations a why ≡ try_allocate_each a (length places)) × (places ≡ places_after a places)
unfolding try_allocate_each places_after
refused-each a places why e = (rw e, rw (hand-refused (length places) a why e))

-- i places have got a page, and a is left
pub record Handing (start : Allocator) (places₀ places : List ℕ) (i : ℕ) (a : Allocator) : Type 0 where
  pub sound : Sound a
  pub within : i ≤ length places
  pub long : length places ≡ length places₀
  pub so_far : handed_by (length places₀) start ≡ behind (take i places) (handed_by (length places₀ - i) a)
  pub rest : drop i places ≡ drop i places₀

pub hand-begun : (start : Allocator) (places : List ℕ) → Sound start → Handing start places places 0 start
hand-begun start places s = record { sound = s; within = omega arith; long = refl; so_far = simp sub-zero; rest = refl }

module _ (start : Allocator) (places₀ places : List ℕ) (i : ℕ) (a : Allocator) (h : Handing start places₀ places i a) where
  -- one more
  one_more : (page : PageID) → i < length places → next_free a ≡ Some page
      → Handing start places₀ (set places i page.0) (i + 1) (moved_past (marked a page.0) page.0)
  one_more page below is =
      let free = found-free a page p h.sound.1 is refl in
      let size = marked-sized a p h.sound.0 in
      record {
        sound = (size, moved_past-in (marked a p) p size (marked-in a p h.sound.0 h.sound.1 free.0 free.1) free.0);
        within = rw (length-set places i p) (omega arith);
        long = length-set places i p ∙ h.long;
        so_far =
            h.so_far
            ∙ ap (λ (k : ℕ). behind (take i places) (handed_by k a)) more
            ∙ ap (behind (take i places)) (hand-page k a page h.sound.1 is)
            ∙ ap (λ (l : List ℕ). record { pages = l; allocator = further.allocator }) moved;
        rest = drop-set-lt (i + 1) places i p (omega arith) ∙ sym (drop-drop 1 i places) ∙ ap (drop 1) h.rest ∙ drop-drop 1 i places₀;
      }
    where
      p : ℕ
      p = page.0

      k : ℕ
      k = length places₀ - (i + 1)

      further : Handed
      further = handed_by k (moved_past (marked a p) p)

      more : length places₀ - i ≡ suc k
      more = omega (arith, h.long)

      moved : take i places ++ (p ∷ further.pages) ≡ take (i + 1) (set places i p) ++ further.pages
      moved =
          sym (append_snoc (take i places) p further.pages)
          ∙ ap (λ (l : List ℕ). l ++ further.pages) (sym (take-suc-set places i p below))
          ∙ ap (λ (n : ℕ). take n (set places i p) ++ further.pages) (sym (add-one i))

  -- the same, of a turn's variables
  pub hand_on : (page : PageID) (p next : ℕ) (pages : List ℕ) → i < length places → next_free a ≡ Some page → p ≡ page.0
      → pages ≡ marking a.pages p → next ≡ (p + 1) % a.page_count
      → Handing start places₀ (set places i page.0) (i + 1) (state_of a.page_count pages (a.used + 1) next)
  hand_on page p next pages below is same put past = rw (past, put, same) (one_more page below is)

  -- no place is left, or no page
  handed : handed_by (length places₀ - i) a ≡ nothing_handed a → handed_by (length places₀) start ≡ record { pages = take i places; allocator = a }
  handed e = h.so_far ∙ ap (behind (take i places)) e ∙ ap (λ (l : List ℕ). record { pages = l; allocator = a }) (append-nil (take i places))

  ended : state_check start ≡ Ok tt → handed_by (length places₀ - i) a ≡ nothing_handed a
      → (record { answer = Ok i; allocator = a } ≡ try_allocate_each start (length places₀)) × (places ≡ places_after start places₀)
  unfolding try_allocate_each places_after
  ended fine e =
      let counted : length (take i places) ≡ i = length-take-le i places h.within in
      (rw (fine, handed e, counted), rw (handed e, counted) (sym (take-append-drop i places) ∙ ap (λ (l : List ℕ). take i places ++ l) h.rest))

  pub no-page : state_check start ≡ Ok tt → next_free a ≡ None
      → (record { answer = Ok i; allocator = a } ≡ try_allocate_each start (length places₀)) × (places ≡ places_after start places₀)
  no-page fine none = ended fine (hand-none (length places₀ - i) a h.sound.1 none)

  pub no_place : state_check start ≡ Ok tt → length places ≤ i
      → (record { answer = Ok (length places); allocator = a } ≡ try_allocate_each start (length places₀)) × (places ≡ places_after start places₀)
  unfolding handed_by
  no_place fine full =
      let z : length places₀ - i ≡ 0 = omega (arith, h.long) in
      let all : length places ≡ i = omega (arith, h.within) in
      rw all (ended fine (ap (λ (n : ℕ). handed_by n a) z))

-- ---- pages freed

-- i pages are free again, and a is left
pub record Freeing (start : Allocator) (pages : List ℕ) (i : ℕ) (a : Allocator) : Type 0 where
  pub sound : Sound a
  pub within : i ≤ length pages
  pub to-come : free_on start (drop i pages) a ≡ free_on start pages start

pub free-begun : (start : Allocator) (pages : List ℕ) → Sound start → Freeing start pages 0 start
free-begun start pages s = record { sound = s; within = omega arith; to-come = refl }

-- the first page of some, freed or refused
module _ (start a : Allocator) (p : ℕ) (rest : List ℕ) where
  first-freed : (left : Allocator) → Ok tt ≡ (free a (record { 0 = p })).answer → left ≡ (free a (record { 0 = p })).allocator
      → free_on start (p ∷ rest) a ≡ free_on start rest left
  unfolding free_on
  first-freed left e l = rw (← e, ← l)

  first-refused : (why : Refusal) → Err why ≡ (free a (record { 0 = p })).answer → free_on start (p ∷ rest) a ≡ refused_change start why
  unfolding free_on
  first-refused why e = rw (← e)

free-done : (a : Allocator) (p : ℕ) → InRange a → p < a.page_count → is_marked a.pages p ≡ true → free a (record { 0 = p }) ≡ done (freed a p)
unfolding free own_page_check
free-done a p r below used = rw (is_in_range a r, lt-ltb p a.page_count below, used)

module _ (start : Allocator) (pages : List ℕ) (i : ℕ) (a : Allocator) (h : Freeing start pages i a) where
  one : i < length pages → free_on start pages start ≡ free_on start (get_or pages i 0 ∷ drop (i + 1) pages) a
  one below = sym h.to-come ∙ ap (λ (l : List ℕ). free_on start l a) (rw (add-one i) (drop-cons pages i 0 below))

  -- one fewer is used: what a call on one page leaves
  pub freed-on : (left : Allocator) → i < length pages → Ok tt ≡ (free a (record { 0 = get_or pages i 0 })).answer
      → left ≡ (free a (record { 0 = get_or pages i 0 })).allocator → Freeing start pages (i + 1) left
  freed-on left below e l =
      let p = get_or pages i 0 in
      record {
        sound = rw l (freed-kept a p h.sound);
        within = omega arith;
        to-come = sym (one below ∙ first-freed start a p (drop (i + 1) pages) left e l);
      }

  -- the same, of a turn's variables
  pub free-on : (marks : List ℕ) → i < length pages → get_or pages i 0 < a.page_count → is_marked a.pages (get_or pages i 0) ≡ true
      → marks ≡ freeing a.pages (get_or pages i 0)
      → Freeing start pages (i + 1) (state_of a.page_count marks (a.used - 1) a.next_page_id)
  free-on marks below there used put =
      let p = get_or pages i 0 in
      let all = free-done a p h.sound.1 there used in
      rw put (freed-on (freed a p) below (sym (ap (λ (c : Change ⊤). c.answer) all)) (sym (ap (λ (c : Change ⊤). c.allocator) all)))

  module _ (fine : state_check start ≡ Ok tt) where
    each : (c : Change ⊤) → free_on start pages start ≡ c → c ≡ free_each start pages
    unfolding free_each
    each c e = rw (fine, e)

    pub free-refused : (why : Refusal) → i < length pages → Err why ≡ (free a (record { 0 = get_or pages i 0 })).answer → refused_change start why ≡ free_each start pages
    free-refused why below e = each _ (one below ∙ first-refused start a (get_or pages i 0) (drop (i + 1) pages) why e)

    pub all-freed : length pages ≤ i → done a ≡ free_each start pages
    unfolding free_on
    all-freed full = each _ (sym h.to-come ∙ ap (λ (l : List ℕ). free_on start l a) (drop_of_length-le pages full))

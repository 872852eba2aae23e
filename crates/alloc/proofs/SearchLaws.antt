-- The search, page by page and byte by byte. Assumes nothing.
use Rattle.std.specs.Prelude.{Some, None}
use Rattle.std.specs.Option.{option_or}
use Rattle.std.specs.declared.option.Option.{Option}
use mathlib.Core.Path.{◌≡◌, refl, sym, ◌∙◌}
use mathlib.Core.Bool.{Bool, true, false, cond}
use mathlib.Core.List.{List, [], ◌∷◌, ◌++◌}
use mathlib.Core.Logic.{⊎_elim}
use Prim.Native.Nat.{ℕ, zero, suc, ◌+◌, ◌-◌, ◌*◌, ◌/◌, ◌%◌, ◌^◌, ◌≤◌, ◌<◌}
use native.Mathlib.Omega.{arith}
use lib.ListN.{get_or, get_or-replicate}
use borrow.Author.Tests.{eq-eqb}
use Rattle.types.specs.declared.page_id.PageID.{PageID}
use Rattle.types.proofs.TestLaws.{le-or-lt}
use Rattle.alloc.specs.Marks.{bits_of, marks_of, is_marked}
use Rattle.alloc.specs.Search.{up_from, round_from, first_free}
use Rattle.alloc.proofs.MarksLaws.{get_or-bits_of, mark-is}

-- ---- page by page

-- where nothing is left to look at
pub search-end : (ms : List Bool) (i to : ℕ) → to ≤ i → first_free ms (up_from i (to - i)) ≡ None
unfolding first_free up_from
search-end ms i to h = let e : to - i ≡ 0 = omega arith in rw e

pub search-free : (ms : List Bool) (i to : ℕ) → i < to → get_or ms i false ≡ false → first_free ms (up_from i (to - i)) ≡ Some (record { 0 = i })
unfolding first_free up_from
search-free ms i to h f = let e : to - i ≡ suc (to - suc i) = omega arith in rw (e, f)

pub search-used : (ms : List Bool) (i to : ℕ) → get_or ms i false ≡ true → first_free ms (up_from i (to - i)) ≡ first_free ms (up_from (suc i) (to - suc i))
unfolding first_free up_from
search-used ms i to f =
    ⊎_elim
    (λ h. search-end ms i to h ∙ sym (search-end ms (suc i) to (omega arith)))
    (λ h. let e : to - i ≡ suc (to - suc i) = omega arith in rw (e, f))
    (le-or-lt to i)

-- d pages in use are passed at once
pub search-passes : (ms : List Bool) (to d i : ℕ) → ((k : ℕ) → i ≤ k → k < i + d → get_or ms k false ≡ true)
    → first_free ms (up_from i (to - i)) ≡ first_free ms (up_from (i + d) (to - (i + d)))
search-passes ms to zero i f = let e : i + 0 ≡ i = omega arith in rw e
search-passes ms to (suc d) i f =
    let e : i + suc d ≡ suc i + d = omega arith in
    rw e (search-used ms i to (f i (omega arith) (omega arith)) ∙ search-passes ms to d (suc i) (λ k l h. f k (omega arith) (omega arith)))

-- ---- byte by byte

-- the bit of a page that is free, and of one in use
pub bit-free : (bs : List ℕ) (p : ℕ) → get_or bs (p / 8) 0 / 2 ^ (p % 8) % 2 ≡ 0 → is_marked bs p ≡ false
bit-free bs p e = mark-is bs p ∙ rw e

pub bit-used : (bs : List ℕ) (p : ℕ) → (get_or bs (p / 8) 0 / 2 ^ (p % 8) % 2 ≡ 0 → ⊥) → is_marked bs p ≡ true
bit-used bs p n = mark-is bs p ∙ eq-eqb (get_or bs (p / 8) 0 / 2 ^ (p % 8) % 2) 1 (odd (get_or bs (p / 8) 0 / 2 ^ (p % 8)) n)
  where
    odd : (x : ℕ) → (x % 2 ≡ 0 → ⊥) → x % 2 ≡ 1
    odd x f = omega arith

-- every page of a byte of eight ones is in use
pub full-byte : (bs : List ℕ) (p : ℕ) → get_or bs (p / 8) 0 ≡ 255 → is_marked bs p ≡ true
unfolding bits_of
full-byte bs p e =
    let r : p % 8 < 8 = omega arith in
    mark-is bs p ∙ rw e (sym (get_or-bits_of 8 255 (p % 8) r) ∙ get_or-replicate 8 (p % 8) true false r)

pub search-byte : (bs : List ℕ) (i to : ℕ) → get_or bs (i / 8) 0 ≡ 255
    → first_free (marks_of bs) (up_from i (to - i)) ≡ first_free (marks_of bs) (up_from ((i / 8 + 1) * 8) (to - (i / 8 + 1) * 8))
search-byte bs i to e =
    let d : (i / 8 + 1) * 8 ≡ i + (8 - i % 8) = omega arith in
    rw d (search-passes (marks_of bs) to (8 - i % 8) i (λ k l h. full-byte bs k (let q : k / 8 ≡ i / 8 = omega arith in rw q e)))

-- ---- round

pub search-append : (ms : List Bool) (xs ys : List ℕ) → first_free ms (xs ++ ys) ≡ option_or (first_free ms xs) (first_free ms ys)
unfolding first_free
search-append ms [] ys = refl
search-append ms (p ∷ ps) ys = step (get_or ms p false) (first_free ms (ps ++ ys)) (first_free ms ps) (first_free ms ys) (search-append ms ps ys)
  where
    step : (t : Bool) (x y z : Option PageID) → x ≡ option_or y z → cond t x (Some (record { 0 = p })) ≡ option_or (cond t y (Some (record { 0 = p }))) z
    step true x y z e = e
    step false x y z e = refl

-- from next to the last, or else from 0
pub search-round : (ms : List Bool) (next count : ℕ)
    → first_free ms (round_from next count) ≡ option_or (first_free ms (up_from next (count - next))) (first_free ms (up_from 0 (next - 0)))
unfolding round_from
search-round ms next count =
    let e : next - 0 ≡ next = omega arith in
    rw e (search-append ms (up_from next (count - next)) (up_from 0 next))

-- found before the round comes to 0, and only after
pub search-found : (ms : List Bool) (next count : ℕ) (page : PageID)
    → first_free ms (up_from next (count - next)) ≡ Some page → first_free ms (round_from next count) ≡ Some page
search-found ms next count page e = search-round ms next count ∙ rw e

pub search-wraps : (ms : List Bool) (next count : ℕ)
    → first_free ms (up_from next (count - next)) ≡ None → first_free ms (round_from next count) ≡ first_free ms (up_from 0 (next - 0))
search-wraps ms next count e = search-round ms next count ∙ rw e

-- from next to the last, or else from 0, as code does it
pub ruleset round = (search-found, search-wraps)

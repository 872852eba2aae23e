-- The shape of the flash, and a page as a part of it. Assumes nothing.
use mathlib.Core.Path.{◌≡◌}
use mathlib.Core.Bool.{true}
use mathlib.Core.List.{List}
use Prim.Native.Nat.{ℕ, ◌+◌, ◌*◌, ◌%◌, ◌≤◌, ◌<◌}
use native.Mathlib.Omega.{arith}
use lib.ListN.{length, length-take, length-drop}
use borrow.Author.Tests.{eqb-true, leb-true, eq-eqb, le-leb}
use Rattle.types.specs.Build.{page_size, max_page_count}
use Rattle.types.proofs.TestLaws.{both_true}
use Rattle.flash.specs.Geometry.{flash_fine, whole_pages, page_start, page_from}

-- a fine flash is 1 to 256 whole pages, and the other way round
pub fine-whole : (n : ℕ) → flash_fine n ≡ true → (n ≡ whole_pages n * page_size) × ((1 ≤ whole_pages n) × (whole_pages n ≤ 256))
fine-whole n e =
    let u = both_true _ _ e in
    let l = both_true _ _ u.0 in
    let whole : n % page_size ≡ 0 = eqb-true _ _ l.0 in
    let low : page_size ≤ n = leb-true _ _ l.1 in
    let high : n ≤ 1048576 = leb-true _ _ u.1 in
    (omega arith, (omega arith, omega arith))

pub whole-fine : (k : ℕ) → 1 ≤ k → k ≤ 256 → flash_fine (k * page_size) ≡ true
whole-fine k low high =
    rw (eq-eqb (k * page_size % page_size) 0 (omega arith), le-leb page_size (k * page_size) (omega arith), le-leb (k * page_size) (max_page_count * page_size) (omega arith))

-- a page that the flash has lies in it whole
pub page-inside : (n p : ℕ) → p < whole_pages n → page_start p + page_size ≤ n
page-inside n p h = omega arith

pub length-page : (base : ℕ) (xs : List ℕ) → base + page_size ≤ length xs → length (page_from base xs) ≡ page_size
length-page base xs h = simp (length-take, length-drop) (omega arith)

-- What a call knows of its page and of h after their checks. Assumes nothing.
use Rattle.std.specs.Prelude.{Ok, Err}
use mathlib.Core.Path.{◌≡◌, refl}
use mathlib.Core.Bool.{Bool, true, false}
use Prim.Native.Nat.{ℕ, ◌+◌, ◌%◌, ◌≤◌, ◌<◌}
use native.Mathlib.Omega.{arith}
use borrow.Author.Tests.{eqb-true, leb-true, ltb-true}
use Rattle.types.specs.Build.{page_size, align, max_page_count, max_header_size}
use Rattle.types.specs.Checks.{asking}
use Rattle.types.specs.declared.page_id.PageID.{PageID}
use Rattle.types.specs.declared.refusal.Refusal.{Refusal}
use Rattle.types.specs.declared.refusal.Refusal.TheVariants.{OutOfRange, BadFlash, BadHeader}
use Rattle.types.proofs.CheckLaws.{asking-fine}
use Rattle.types.proofs.TestLaws.{both_true}
use Rattle.flash.specs.Geometry.{flash_fine, whole_pages, page_start, has_page}
use Rattle.flash.proofs.GeometryLaws.{fine-whole, page-inside}
use Rattle.page.specs.Checks.{open_check}
use Rattle.page.specs.Headers.{header_fine, header_check}

-- ---- the check of h

pub header-facts : (h : ℕ) → header_fine h ≡ true → (h % align ≡ 0) × (h ≤ max_header_size)
header-facts h fine = let both = both_true _ _ fine in (eqb-true _ _ both.0, leb-true _ _ both.1)

pub header-true : (h : ℕ) → header_check h ≡ Ok tt → header_fine h ≡ true
header-true h fine = (asking-fine (header_fine h) BadHeader (Ok tt) fine).0

pub header-false : (h : ℕ) (why : Refusal) → header_check h ≡ Err why → header_fine h ≡ false
header-false h why refused = by (header_fine h) refused
  where
    by : (t : Bool) → asking t BadHeader (Ok tt) ≡ Err why → t ≡ false
    by true e = let z : ◌≡◌ {A = ℕ} 0 1 = cc in absurd (omega arith)
    by false e = refl

-- ---- the page

-- page p lies in a flash of n bytes, and is one of the first 256
pub record Inside (n p : ℕ) : Type 0 where
  pub fine : flash_fine n ≡ true
  pub there : has_page n p ≡ true
  pub has : p < whole_pages n
  pub whole : page_start p + page_size ≤ n
  pub low : p < max_page_count

pub inside : (n p : ℕ) → flash_fine n ≡ true → has_page n p ≡ true → Inside n p
inside n p fine there =
    let has : p < whole_pages n = ltb-true _ _ there in
    record { fine = fine; there = there; has = has; whole = page-inside n p has; low = omega (arith, (fine-whole n fine).1.1) }

-- ---- the checks of an opening

pub record OpenChecked (n h : ℕ) (page : PageID) : Type 0 where
  pub flash : Inside n page.0
  pub header : header_fine h ≡ true
  pub group : h % align ≡ 0
  pub small : h ≤ max_header_size

-- fine where each of their tests holds
pub open_check-fine : (n h : ℕ) (page : PageID) → flash_fine n ≡ true → header_fine h ≡ true → has_page n page.0 ≡ true → open_check n h page ≡ Ok tt
unfolding open_check
open_check-fine n h page shape header there = rw (shape, header, there)

-- and what a call knows that has passed them
pub open-checked : (n h : ℕ) (page : PageID) → open_check n h page ≡ Ok tt → OpenChecked n h page
unfolding open_check
open-checked n h page fine =
    let a = asking-fine (flash_fine n) BadFlash _ fine in
    let b = asking-fine (header_fine h) BadHeader _ a.1 in
    let c = asking-fine (has_page n page.0) OutOfRange _ b.1 in
    let facts = header-facts h b.0 in
    record { flash = inside n page.0 a.0 c.0; header = b.0; group = facts.0; small = facts.1 }

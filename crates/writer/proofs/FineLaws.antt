-- The checks of a writer's calls: fine where each of their tests holds, and never a refusal by 9. Assumes nothing.
use Rattle.std.specs.Prelude.{Ok, Err}
use Rattle.types.specs.Checks.{fine, asking}
use mathlib.Core.Path.{◌≡◌}
use mathlib.Core.Bool.{Bool, true, false, ◌&&◌}
use Prim.Native.Nat.{ℕ}
use native.Mathlib.Omega.{arith}
use lib.Dec.{eqb}
use Rattle.types.specs.declared.refusal.Refusal.TheVariants.{Cut, OutOfRange, BadFlash, BadHeader, BadState}
use Rattle.flash.specs.Geometry.{flash_fine, has_page}
use Rattle.page.specs.Headers.{header_fine}
use Rattle.writer.specs.States.{in_range}
use Rattle.writer.specs.Checks.{writer_check, heading_check}
use Rattle.writer.specs.declared.page_writer.PageWriter.{PageWriter}

-- a writer in range, whose page is on a flash in shape
pub writer_check-fine : (n : ℕ) (w : PageWriter) → flash_fine n ≡ true → in_range w ≡ true → has_page n w.page.0 ≡ true → writer_check n w ≡ Ok tt
unfolding writer_check
writer_check-fine n w shape range there = rw (shape, range, there)

-- ---- no check refuses by 9

writer-by : (f r p : Bool) → asking f BadFlash (asking r BadState (asking p OutOfRange fine)) ≡ Err Cut → ⊥
writer-by false r p a = let z : ◌≡◌ {A = ℕ} 0 1 = cc in omega arith
writer-by true false p a = let z : ◌≡◌ {A = ℕ} 0 1 = cc in omega arith
writer-by true true false a = let z : ◌≡◌ {A = ℕ} 0 1 = cc in omega arith
writer-by true true true a = let z : ◌≡◌ {A = ℕ} 0 1 = cc in omega arith

heading-by : (f h r p : Bool) → asking f BadFlash (asking h BadHeader (asking r BadState (asking p OutOfRange fine))) ≡ Err Cut → ⊥
heading-by false h r p a = let z : ◌≡◌ {A = ℕ} 0 1 = cc in omega arith
heading-by true false r p a = let z : ◌≡◌ {A = ℕ} 0 1 = cc in omega arith
heading-by true true r p a = writer-by true r p a

pub writer_check-not-cut : (n : ℕ) (w : PageWriter) → writer_check n w ≡ Err Cut → ⊥
unfolding writer_check
writer_check-not-cut n w = writer-by (flash_fine n) (in_range w) (has_page n w.page.0)

pub heading_check-not-cut : (n : ℕ) (w : PageWriter) (m : ℕ) → heading_check n w m ≡ Err Cut → ⊥
unfolding heading_check
heading_check-not-cut n w m = heading-by (flash_fine n) (eqb m w.h && header_fine m) (in_range w) (has_page n w.page.0)

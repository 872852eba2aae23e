-- The range of a writer, and what a call knows that has passed its checks. Assumes nothing.
use Rattle.std.specs.Prelude.{Ok}
use mathlib.Core.Path.{◌≡◌}
use mathlib.Core.Bool.{true, ◌&&◌}
use Prim.Native.Nat.{ℕ, ◌+◌, ◌-◌, ◌%◌, ◌≤◌, ◌<◌, min}
use native.Mathlib.Omega.{arith}
use lib.Dec.{eqb}
use borrow.Author.Tests.{eqb-true, leb-true, ltb-true, eq-eqb, le-leb, lt-ltb}
use Rattle.types.specs.Build.{page_size, align, max_page_count, max_header_size, chunk_header_size, max_chunk_size}
use Rattle.types.specs.declared.refusal.Refusal.TheVariants.{OutOfRange, BadFlash, BadHeader, BadState}
use Rattle.types.proofs.CheckLaws.{asking-fine}
use Rattle.types.proofs.TestLaws.{both_true}
use Rattle.flash.specs.Geometry.{flash_fine, has_page}
use Rattle.page.specs.Headers.{header_fine}
use Rattle.page.proofs.CheckLaws.{Inside, header-facts, inside}
use Rattle.writer.specs.States.{first_chunk, most_pending, Small, in_range}
use Rattle.writer.specs.Checks.{writer_check, heading_check}
use Rattle.writer.specs.declared.page_writer.PageWriter.{PageWriter}

-- ---- the range of a writer

pub record InRange (w : PageWriter) : Type 0 where
  pub header : header_fine w.h ≡ true
  pub low : w.page.0 < max_page_count
  pub even : w.offset % align ≡ 0
  pub after : first_chunk w.h ≤ w.offset
  pub within : w.offset ≤ page_size
  pub room : w.pending ≤ most_pending w.offset
  pub old : w.total ≤ w.offset - first_chunk w.h + w.pending

pub range-known : (w : PageWriter) → in_range w ≡ true → InRange w
unfolding in_range
range-known w e =
    let s6 = both_true _ _ e in
    let s5 = both_true _ _ s6.0 in
    let s4 = both_true _ _ s5.0 in
    let s3 = both_true _ _ s4.0 in
    let s2 = both_true _ _ s3.0 in
    let s1 = both_true _ _ s2.0 in
    record {
      header = s1.0;
      low = ltb-true _ _ s1.1;
      even = eqb-true _ _ s2.1;
      after = leb-true _ _ s3.1;
      within = leb-true _ _ s4.1;
      room = leb-true _ _ s5.1;
      old = leb-true _ _ s6.1;
    }

pub range-in : (w : PageWriter) → InRange w → in_range w ≡ true
unfolding in_range
range-in w s =
    rw (s.header, lt-ltb _ _ s.low, eq-eqb _ _ s.even, le-leb _ _ s.after, le-leb _ _ s.within, le-leb _ _ s.room, le-leb _ _ s.old)

pub small : (w : PageWriter) → InRange w → w.pending ≤ max_chunk_size
small w s = omega (arith, s.room)

pub range-small : (w : PageWriter) → InRange w → Small w
range-small w s = record { within = s.within; short = small w s }

pub total-small : (w : PageWriter) → InRange w → w.total ≤ page_size
total-small w s = total_of w.h w.offset w.pending w.total s.after s.within s.room s.old
  where
    total_of : (h o p t : ℕ) → 12 + h ≤ o → o ≤ page_size → p ≤ min max_chunk_size (page_size - chunk_header_size - o) → t ≤ o - (12 + h) + p → t ≤ page_size
    total_of h o p t a b c d = omega arith

-- ---- what a call knows after its checks

pub record WriterChecked (n : ℕ) (w : PageWriter) : Type 0 where
  pub flash : Inside n w.page.0
  pub range : InRange w

pub writer-checked : (n : ℕ) (w : PageWriter) → writer_check n w ≡ Ok tt → WriterChecked n w
unfolding writer_check
writer-checked n w fine =
    let a = asking-fine (flash_fine n) BadFlash _ fine in
    let b = asking-fine (in_range w) BadState _ a.1 in
    let c = asking-fine (has_page n w.page.0) OutOfRange _ b.1 in
    record { flash = inside n w.page.0 a.0 c.0; range = range-known w b.0 }

pub checked_small : (n : ℕ) (w : PageWriter) → writer_check n w ≡ Ok tt → Small w
checked_small n w fine = range-small w (writer-checked n w fine).range

-- of write_header with m bytes
pub record HeadingChecked (n : ℕ) (w : PageWriter) (m : ℕ) : Type 0 where
  pub writer : WriterChecked n w
  pub own : m ≡ w.h
  pub small : m ≤ max_header_size

pub heading-checked : (n : ℕ) (w : PageWriter) (m : ℕ) → heading_check n w m ≡ Ok tt → HeadingChecked n w m
unfolding heading_check
heading-checked n w m fine =
    let a = asking-fine (flash_fine n) BadFlash _ fine in
    let b = asking-fine (eqb m w.h && header_fine m) BadHeader _ a.1 in
    let c = asking-fine (in_range w) BadState _ b.1 in
    let d = asking-fine (has_page n w.page.0) OutOfRange _ c.1 in
    let header = both_true (eqb m w.h) (header_fine m) b.0 in
    record {
      writer = record { flash = inside n w.page.0 a.0 d.0; range = range-known w c.0 };
      own = eqb-true m w.h header.0;
      small = (header-facts m header.1).1;
    }

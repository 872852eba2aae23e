use mathlib.Core.Path.{◌≡◌, sym}
use Prim.Native.Nat.{◌+◌, ◌-◌, ◌/◌}
use native.Mathlib.Omega.{arith}
use lib.ListN.{length, take, drop, length-drop}
use lib.Seq.{take_all}
use borrow.Author.Tests.{eq-eqb}
use Rattle.alloc.proofs.CountLaws.{drop-marks_of-end, none_from}
use borrow.Author.Rules.{rules}
use Rattle.alloc.proofs.marks.none_from.Goals as goal

pub returns-then-at-ge-MARK_BYTES : goal.returns-then-at-ge-MARK_BYTES
returns-then-at-ge-MARK_BYTES c =
    record {
      answers =
          let long : length c.args.pages.now ≡ 32 = search rules in
          sym (eq-eqb _ 0 (drop-marks_of-end c.args.pages.now c.args.page (omega (arith, long))));
    }

pub returns : goal.returns
returns c =
    record {
      answers =
          let bs = c.args.pages.now in
          let p = c.args.page in
          let rest : take (32 - (p / 8 + 1)) (drop (p / 8 + 1) bs) ≡ drop (p / 8 + 1) bs = take_all _ _ (omega (arith, length-drop (p / 8 + 1) bs, c.told-pages)) in
          rw (c.count.ensures.answers, rest) (sym (none_from bs p (search rules) (c.fits-pages (p / 8))));
    }

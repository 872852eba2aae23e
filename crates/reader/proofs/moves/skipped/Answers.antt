-- `reader::moves::skipped`: what is still wanted, from where the reader is, comes to what was wanted at first.
-- Assumes nothing.
use Rattle.std.specs.Prelude.{Ok}
use Prim.Native.Nat.{◌+◌, ◌-◌, ◌≤◌}
use mathlib.Core.Path.{◌≡◌, refl, sym, ◌∙◌}
use native.Mathlib.Omega.{arith}
use lib.ListN.{length}
use Rattle.std.proofs.lemmas.Grind.{common_steps}
use Rattle.types.specs.Build.{page_size, chunk_header_size}
use Rattle.reader.specs.Moves.{moved, rest_of, past}
use Rattle.reader.proofs.MoveLaws.{rest-within, moved_up, moved-whole}
use Rattle.reader.proofs.SkipLaws.{skip-ended, skip-here, skip-bad, skip-on}
use Rattle.reader.proofs.moves.skipped.Goals as goal

pub loop-r-init : goal.loop-r-init
loop-r-init c = (c.requires, refl)

pub returns-then-r : goal.returns-then-r
returns-then-r c =
    record {
      answers =
          let a = c.args in
          sym (skip-ended a.page.now c.loop-r.want c.loop-r.r c.if-r.true) ∙ c.loop-r.invariant.1;
    }

pub past-requires : goal.past-requires
past-requires c =
    let stays : c.loop-r.r.position + length c.rest_of-left.result.now ≤ page_size - chunk_header_size =
    let a = c.args in
    let w = c.loop-r.invariant.0 c.if-r.false in
    rw c.rest_of-left.ensures.answers (omega (arith, w, rest-within a.page.now c.loop-r.r c.if-r.false w.1)) in
    omega (arith, stays)

pub returns-then-want-left : goal.returns-then-want-left
returns-then-want-left c =
    record {
      answers =
          let a = c.args in
          let here = rw c.rest_of-left.ensures.answers at c.if-want-left.true in
          rw c.past.ensures.answers (sym (skip-here a.page.now c.loop-r.want c.loop-r.r c.if-r.false here) ∙ c.loop-r.invariant.1);
    }

pub past-requires-in-loop-r : goal.past-requires-in-loop-r
past-requires-in-loop-r c =
    let stays : c.loop-r.r.position + length c.rest_of-left.result.now ≤ page_size - chunk_header_size =
    let a = c.args in
    let w = c.loop-r.invariant.0 c.if-r.false in
    rw c.rest_of-left.ensures.answers (omega (arith, w, rest-within a.page.now c.loop-r.r c.if-r.false w.1)) in
    omega (arith, stays)

pub moved-requires : goal.moved-requires
moved-requires c =
    rw c.past-in-loop-r.ensures.answers (omega (arith, (c.loop-r.invariant.0 c.if-r.false).0))

pub returns-in_err-r : goal.returns-in_err-r
returns-in_err-r c =
    let a = c.args in
    let more = rw c.rest_of-left.ensures.answers at c.if-want-left.false in
    let bad =
    sym (skip-bad a.page.now c.loop-r.want c.loop-r.r c.if-r.false more
    (rw (c.past-in-loop-r.ensures.answers, c.rest_of-left.ensures.answers) at (sym c.moved.ensures.answers ∙ c.in_err-r.was)))
    ∙ c.loop-r.invariant.1 in
    record { answers = grind (arith, common_steps, bad) }

pub loop-r-smaller : goal.loop-r-smaller
loop-r-smaller c =
    let arrived : let page = c.args.page.now in moved page (past c.loop-r.r (length (rest_of page c.loop-r.r))) ≡ Ok c.in_ok-r.r =
    rw (c.past-in-loop-r.ensures.answers, c.rest_of-left.ensures.answers) at (sym c.moved.ensures.answers ∙ c.in_ok-r.was) in
    let page = c.args.page.now in
    omega (arith, (c.loop-r.invariant.0 c.if-r.false).0, moved_up page (past c.loop-r.r (length (rest_of page c.loop-r.r))) c.in_ok-r.r (arrived))

pub loop-r-preserved : goal.loop-r-preserved
loop-r-preserved c =
    let arrived : let page = c.args.page.now in moved page (past c.loop-r.r (length (rest_of page c.loop-r.r))) ≡ Ok c.in_ok-r.r =
    rw (c.past-in-loop-r.ensures.answers, c.rest_of-left.ensures.answers) at (sym c.moved.ensures.answers ∙ c.in_ok-r.was) in
    let page = c.args.page.now in
    let more = rw c.rest_of-left.ensures.answers at c.if-want-left.false in (
      moved-whole page (past c.loop-r.r (length (rest_of page c.loop-r.r))) c.in_ok-r.r (arrived),
      rw c.rest_of-left.ensures.answers (sym (skip-on page c.loop-r.want c.loop-r.r c.in_ok-r.r c.if-r.false more (arrived)) ∙ c.loop-r.invariant.1),
    )

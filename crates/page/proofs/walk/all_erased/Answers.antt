-- `page::walk::all_erased`: what is left from i on decides. Assumes nothing.
use mathlib.Core.Path.{refl, sym, ◌∙◌}
use native.Mathlib.Omega.{arith}
use Rattle.page.proofs.ErasedLaws.{erased-not, erased-one, erased-end}
use Rattle.page.proofs.walk.all_erased.Goals as goal

pub loop-i-init : goal.loop-i-init
loop-i-init c = (omega arith, refl)

pub returns-then-bytes-i : goal.returns-then-bytes-i
returns-then-bytes-i c =
    record {
      answers =
          let a = c.args in
          sym (erased-not a.value a.bytes.now c.loop-i.i (omega arith) c.if-bytes-i.true) ∙ c.loop-i.invariant.1;
    }

pub loop-i-preserved : goal.loop-i-preserved
loop-i-preserved c =
    let a = c.args in
    (omega arith, sym (erased-one a.value a.bytes.now c.loop-i.i (omega arith) c.if-bytes-i.false) ∙ c.loop-i.invariant.1)

pub returns : goal.returns
returns c =
    record {
      answers =
          let a = c.args in
          sym (erased-end a.value a.bytes.now c.loop-i.i (omega arith)) ∙ c.loop-i.invariant.1;
    }

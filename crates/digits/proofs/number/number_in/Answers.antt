-- `digits::number::number_in`: the number read on from an index is the word's. Assumes nothing.
use Rattle.std.specs.Prelude.{Some, None}
use mathlib.Core.Path.{◌∙◌}
use Rattle.digits.proofs.NumberLaws.{read-turn, read-stops, read_done, number_read}
use Rattle.digits.proofs.number.number_in.Goals as goal

pub returns-in_err-n : goal.returns-in_err-n
returns-in_err-n c =
    record {
      answers =
          let a = c.args in
          rw c.from_residual.ensures (number_read a.base a.most a.word.now None (cc)
          (read-stops a.base a.most a.word.now c.loop-d.d-index c.loop-d.n c.loop-d-test.true c.with_digit.result c.with_digit.ensures.answers c.in_err-n.was
          ∙ c.loop-d.invariant));
    }

pub loop-d-preserved : goal.loop-d-preserved
loop-d-preserved c =
    let a = c.args in
    read-turn a.base a.most a.word.now c.loop-d.d-index c.loop-d.n c.loop-d-test.true c.with_digit.result (Some c.in_ok-n.n) c.with_digit.ensures.answers c.in_ok-n.was ∙ c.loop-d.invariant

pub returns : goal.returns
returns c =
    record {
      answers =
          let a = c.args in
          number_read a.base a.most a.word.now (Some c.loop-d.n) (cc) (read_done a.base a.most a.word.now c.loop-d.d-index c.loop-d.n c.loop-d-test.false ∙ c.loop-d.invariant);
    }

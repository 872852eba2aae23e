-- `script::words::nth_word`: the word sought from a later word on is the one sought. Assumes nothing.
use mathlib.Core.Path.{◌∙◌}
use Rattle.script.proofs.WordLaws.{word-turn, word-found}
use Rattle.script.proofs.words.nth_word.Goals as goal

pub loop-preserved : goal.loop-preserved
loop-preserved c =
    let a = c.args in
    word-turn a.line.now c.loop.at c.min-at.result (rw c.end_from.ensures.answers at c.min-at.ensures) a.k c.loop.counter c.loop-test.true ∙ c.loop.invariant

pub returns : goal.returns
returns c =
    record {
      answers =
          let a = c.args in
          c.part_of.ensures.answers ∙ rw (c.saturating_sub.ensures, c.end_from-2.ensures.answers) (word-found a.line.now c.loop.at a.k c.loop.counter c.loop-test.false ∙ c.loop.invariant);
    }

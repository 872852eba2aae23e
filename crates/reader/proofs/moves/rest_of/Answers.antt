use mathlib.Core.Path.{sym, ◌∙◌}
use Rattle.reader.proofs.MoveLaws.{rest_ended, rest_part}
use Rattle.reader.proofs.moves.rest_of.Goals as goal

pub returns-then-r : goal.returns-then-r
returns-then-r c =
    record {
      answers =
          let a = c.args in
          c.part_of.ensures.answers ∙ sym (rest_ended a.page.now a.r c.if-r.true);
    }

pub returns-else-r : goal.returns-else-r
returns-else-r c =
    record {
      answers =
          let a = c.args in
          c.part_of-else-r.ensures.answers ∙ rw c.payload_at-payload.ensures.answers (rest_part a.page.now a.r c.if-r.false);
    }

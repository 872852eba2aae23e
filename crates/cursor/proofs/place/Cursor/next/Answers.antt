-- `cursor::place::Cursor::next` refuses what its check refuses; else it delivers what the passes settled on. Assumes nothing.
use mathlib.Core.Path.{sym, ◌∙◌}
use Rattle.cursor.proofs.CallLaws.{next-few, next-refused, next-settled}
use Rattle.cursor.proofs.place.Cursor.next.Goals as goal

pub returns-in-Err : goal.returns-in-Err
returns-in-Err c =
    let all = next-refused _ _ _ _ _ _ _ _ c.check_next.ensures.answers _ c.in-Err.is in
    record {
      answers = all.0;
      bytes = all.1;
    }

pub settled-pass-requires : goal.settled-pass-requires
settled-pass-requires c = next-few _ _ _ (sym c.check_next.ensures.answers ∙ c.in_default.is)

pub returns : goal.returns
returns c =
    let all = next-settled _ _ _ _ _ _ _ _ c.check_next.ensures.answers c.in_default.is _ c.settled-pass.ensures.answers
    _ c.deliver-answer.ensures.answers _ _ c.deliver-answer.ensures.bytes _ c.places_by-places.ensures.answers in
    record {
      answers = all.0;
      bytes = all.1;
    }

use mathlib.Core.Path.{sym, ap, ◌∙◌}
use borrow.Author.Tests.{eqb-true}
use Rattle.crc.specs.Published.{published}
use Rattle.reader.proofs.OpenLaws.{rehydrate-ended, rehydrate-right}
use Rattle.reader.proofs.page_reader.PageReader.rehydrated.Goals as goal
use Rattle.reader.proofs.page_reader.PageReader.rehydrated.Goals.{then-r, else-r}

pub returns-then-crc32-r : goal.returns-then-crc32-r
returns-then-crc32-r c =
    let a = c.args in
    let s = c.restored-r.ensures.answers in
    let v = rw s at (sym c.check_reader.ensures.answers ∙ c.in_ok-check_reader.was) in
    record {
      answers =
          rw s
          (elim c.if-r.branch [
            | then-r w ↦ rehydrate-ended a.self a.flash.now a.dehydrated v (rw s at w.if-r.true)
            | else-r w ↦
                let right = eqb-true w.crc32.result c.restored-r.result.crc (sym w.value-is ∙ c.if-crc32-r.true) in
                let sum = sym (w.crc32.ensures.answers ∙ ap published w.payload_at.ensures.answers) ∙ right in
                rehydrate-right a.self a.flash.now a.dehydrated v (rw s at w.if-r.false) (rw (w.page_of.ensures.answers, s) at sum)
          ]);
    }

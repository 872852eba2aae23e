-- What a call hands back (docs/RULES.md, Stores left): refused before its work, done where all of its operations were made, or cut, and
-- then the writer is as at entry. Assumes nothing.
use Rattle.std.specs.declared.result.Result.{Result}
use Rattle.types.specs.declared.page_id.PageID.{PageID}
use Rattle.std.specs.Prelude.{cond, ℕ, Ok, Err, ⊤}
use Rattle.types.specs.Checks.{refused_or}
use Rattle.types.specs.declared.refusal.Refusal.{Refusal}
use Rattle.types.specs.declared.refusal.Refusal.TheVariants.{Cut}
use Rattle.flash.specs.declared.ops.Spent.{Spent}
use Rattle.writer.specs.Checks.{state_check}
use Rattle.writer.specs.declared.answers.Ended.{Ended}
use Rattle.writer.specs.declared.page_writer.PageWriter.{PageWriter}

-- an answer, with the writer and the stores left as they are
abbrev pub answered_by : {A : Type 0} → PageWriter → ℕ → Result A Refusal → Ended A
answered_by w left answer = record { answer = answer; writer = w; left = left }

-- refused by a check: the writer and the stores left are as they were
abbrev pub refused_at : PageWriter → ℕ → Refusal → Ended ⊤
refused_at w left why = answered_by w left (Err why)

-- if all operations were made, the answer is `done`, and the writer is `next`; if one was cut, it is as it was
abbrev pub ended_with : {A : Type 0} → A → Spent → PageWriter → PageWriter → Ended A
ended_with done stores next w =
    record {
      answer = cond stores.ok (Ok done) (Err Cut);
      writer = cond stores.ok next w;
      left = stores.left;
    }

-- of a call that answers nothing else
abbrev pub ended_by : Spent → PageWriter → PageWriter → Ended ⊤
ended_by stores next w = ended_with tt stores next w

-- a write that is done answers the number of bytes that it took
abbrev pub took : ℕ → Result ⊤ Refusal → Result ℕ Refusal
took n (Ok tt) = Ok n
took n (Err why) = Err why

abbrev pub wrote : ℕ → Ended ⊤ → Ended ℕ
wrote n e = record { answer = took n e.answer; writer = e.writer; left = e.left }

-- ---- the calls without a flash: 11, or a number of the state

abbrev pub length_of : PageWriter → Result ℕ Refusal
length_of w = refused_or (state_check w) Err (Ok w.total)

abbrev pub page_id : PageWriter → Result PageID Refusal
page_id w = refused_or (state_check w) Err (Ok w.page)

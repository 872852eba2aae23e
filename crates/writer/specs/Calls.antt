-- Calls of a writer, each on the flash, the writer and the stores left that the one before left (`left_after` and `told_by_each` of
-- types say what calls one after another leave and tell). Assumes nothing.
use Rattle.std.specs.Prelude.{List, [], ℕ, length, ⊤}
use Rattle.types.specs.Answers.{Told, outcome_told}
use Rattle.types.specs.Build.{erase_value}
use Rattle.types.specs.declared.page_id.PageID.{PageID}
use Rattle.flash.specs.Operations.{Op}
use Rattle.writer.specs.Answers.{taking_told}
use Rattle.writer.specs.Duties.{Duty, write_duty, commit_duty, heading_duty, hands_back, leaves, makes}
use Rattle.writer.specs.Openings.{opened, appended}
use Rattle.writer.specs.Outcomes.{wrote}
use Rattle.writer.specs.Writes.{takes}
use Rattle.writer.specs.declared.answers.Ended.{Ended}
use Rattle.writer.specs.declared.page_writer.PageWriter.{PageWriter}

-- what the calls share
pub record World : Type 0 where
  pub flash : List ℕ
  pub writer : PageWriter
  pub left : ℕ

-- ---- the calls that owe operations

-- write, commit, and write_header with its magic and bytes
pub data AddCall : Type 0 where
  writes : List ℕ → AddCall
  commits : AddCall
  heads : ℕ → List ℕ → AddCall

-- what a call of a writer w owes on a flash
abbrev pub duty_of : ℕ → AddCall → List ℕ → PageWriter → Duty
duty_of e (writes bytes) flash w = write_duty e flash w bytes
duty_of e commits flash w = commit_duty e flash w
duty_of e (heads magic header) flash w = heading_duty e flash w magic header

abbrev pub duty_in : ℕ → World → AddCall → Duty
duty_in e x call = duty_of e call x.flash x.writer

-- the answer, the writer and the stores left that it hands back
abbrev pub hands_back_in : ℕ → World → AddCall → Ended ⊤
hands_back_in e x call = hands_back (duty_in e x call) x.writer x.left

-- what it leaves to the next call
abbrev pub leaves_in : ℕ → World → AddCall → World
leaves_in e x call =
    record {
      flash = leaves (duty_in e x call) x.writer x.left x.flash;
      writer = (hands_back_in e x call).writer;
      left = (hands_back_in e x call).left;
    }

-- the operations that it makes
abbrev pub makes_in : ℕ → World → AddCall → List Op
makes_in e x call = makes (duty_in e x call) x.left

-- what it answers: a write, how many bytes it took
abbrev pub end_told : PageWriter → AddCall → Ended ⊤ → Told
end_told w (writes bytes) end = taking_told (wrote (takes (length bytes) w) end).answer
end_told w commits end = outcome_told end.answer
end_told w (heads magic header) end = outcome_told end.answer

-- ---- any call, on page 0

-- an opening has its h and the number of stores for which the power is back
pub data Call : Type 0 where
  opens_anew opens_to_add : ℕ → ℕ → Call
  adds : AddCall → Call

abbrev first_page : PageID
first_page = record { 0 = 0 }

abbrev pub open_of : World → ℕ → ℕ → Ended ⊤
open_of x h power = opened x.flash first_page h x.writer power

abbrev pub append_of : World → ℕ → ℕ → Ended ⊤
append_of x h power = appended erase_value x.flash first_page h x.writer power

-- an opening leaves the flash as it is
abbrev pub opened_on : List ℕ → Ended ⊤ → World
opened_on flash o = record { flash = flash; writer = o.writer; left = o.left }

-- what it answers
unfoldable pub answer_to : World → Call → Told
answer_to x (opens_anew h power) = outcome_told (open_of x h power).answer
answer_to x (opens_to_add h power) = outcome_told (append_of x h power).answer
answer_to x (adds call) = end_told x.writer call (hands_back_in erase_value x call)

-- the operations that it makes
unfoldable pub made_by : World → Call → List Op
made_by x (opens_anew h power) = []
made_by x (opens_to_add h power) = []
made_by x (adds call) = makes_in erase_value x call

-- what it leaves
unfoldable pub left_by : World → Call → World
left_by x (opens_anew h power) = opened_on x.flash (open_of x h power)
left_by x (opens_to_add h power) = opened_on x.flash (append_of x h power)
left_by x (adds call) = leaves_in erase_value x call

-- A page, opened, written in pieces and committed by the writer's calls. Assumes nothing.
use Rattle.std.specs.Result.{result_unwrap_or}
use Rattle.std.specs.declared.result.Result.{Result}
use Rattle.types.specs.declared.refusal.Refusal.{Refusal}
use Rattle.std.specs.Prelude.{Bool, cond, false, not, List, ℕ, zero, suc, ◌+◌, ◌^◌, ◌<◌, min, eqb, length, take, drop, Ok, Err, ⊤}
use Rattle.types.specs.Build.{page_size, erase_value}
use Rattle.types.specs.Refusals.{number_of}
use Rattle.types.specs.Answers.{number_told}
use Rattle.writer.specs.Duties.{Duty, write_duty, commit_duty, heading_duty, hands_back, leaves}
use Rattle.writer.specs.Openings.{opened}
use Rattle.writer.specs.Outcomes.{wrote}
use Rattle.writer.specs.States.{new_writer}
use Rattle.writer.specs.Writes.{takes}
use Rattle.writer.specs.declared.answers.Ended.{Ended}
use Rattle.writer.specs.declared.page_writer.PageWriter.{PageWriter}
use Rattle.bench_jobs.specs.Telling.{begins, packed}
use Rattle.bench_jobs.specs.declared.writing.Writing.{Writing}

-- a writer on its way, and the flash
pub record WriteState : Type 0 where
  pub writing : Writing
  pub flash : List ℕ

abbrev pub write_state : Writing → List ℕ → WriteState
write_state w flash = record { writing = w; flash = flash }

-- ---- the start

-- with the page header stored, or refused
abbrev pub after_header : Ended ⊤ → Writing
after_header e = record { writer = e.writer; left = e.left; taken = 0; goes_on = begins e.answer }

-- a writer that was opened stores the page header, a refused one is not used
abbrev pub write_begun_at : Result ⊤ Refusal → PageWriter → ℕ → List ℕ → ℕ → List ℕ → WriteState
write_begun_at (Ok tt) w left flash magic header =
    let d = heading_duty erase_value flash w magic header in
    record { writing = after_header (hands_back d w left); flash = leaves d w left flash }
write_begun_at (Err why) w left flash magic header =
    record { writing = record { writer = w; left = left; taken = 0; goes_on = Err why }; flash = flash }

abbrev pub write_begun_by : Ended ⊤ → List ℕ → ℕ → List ℕ → WriteState
write_begun_by o flash magic header = write_begun_at o.answer o.writer o.left flash magic header

unfoldable pub write_begun : List ℕ → ℕ → ℕ → List ℕ → ℕ → WriteState
write_begun flash magic page header left = write_begun_by (opened flash (record { 0 = page }) (length header) new_writer left) flash magic header

-- ---- the pieces

-- how many bytes were taken is a size
abbrev pub Fits : ℕ → Result ℕ Refusal → Type 0
Fits from (Ok n) = from + n < 2 ^ 64
Fits from (Err why) = Unit {0}

-- a write that took nothing, and a refused one, is the last
abbrev pub after_taking : ℕ → Result ℕ Refusal → PageWriter → ℕ → Writing
after_taking from (Ok n) w left = record { writer = w; left = left; taken = from + n; goes_on = Ok (not (eqb n 0)) }
after_taking from (Err why) w left = record { writer = w; left = left; taken = from; goes_on = Err why }

abbrev pub after_write : ℕ → Ended ℕ → Writing
after_write from w = after_taking from w.answer w.writer w.left

-- a write of these bytes, where `from` bytes were taken before; and a write of the piece that starts there
abbrev pub write_bytes : ℕ → List ℕ → Writing → List ℕ → WriteState
write_bytes from bytes w flash =
    let d = write_duty erase_value flash w.writer bytes in
    record {
      writing = after_write from (wrote (takes (length bytes) w.writer) (hands_back d w.writer w.left));
      flash = leaves d w.writer w.left flash;
    }

abbrev pub write_from : ℕ → List ℕ → ℕ → WriteState → WriteState
write_from from payload piece s = write_bytes from (take piece (drop from payload)) s.writing s.flash

unfoldable pub write_one : List ℕ → ℕ → WriteState → WriteState
write_one payload piece s = write_from (min s.writing.taken (length payload)) payload piece s

-- at most n writes, while it goes on
unfoldable pub write_on : ℕ → List ℕ → ℕ → WriteState → WriteState
write_on zero payload piece s = s
write_on (suc n) payload piece s = cond (result_unwrap_or s.writing.goes_on false) (write_on n payload piece (write_one payload piece s)) s

-- each write but the last takes a byte or more, so a page has no more of them
abbrev pub write_all : List ℕ → ℕ → WriteState → WriteState
write_all payload piece s = write_on (page_size + 1) payload piece s

-- ---- the commit, where nothing was refused

abbrev pub commit_of : WriteState → Duty
commit_of s = commit_duty erase_value s.flash s.writing.writer

abbrev pub finished_by : Result Bool Refusal → WriteState → ℕ
finished_by (Ok on) s = packed (number_told (hands_back (commit_of s) s.writing.writer s.writing.left).answer) s.writing.taken
finished_by (Err why) s = packed (number_of why) s.writing.taken

abbrev pub finished_flash_by : Result Bool Refusal → WriteState → List ℕ
finished_flash_by (Ok on) s = leaves (commit_of s) s.writing.writer s.writing.left s.flash
finished_flash_by (Err why) s = s.flash

unfoldable pub write_finished : WriteState → ℕ
write_finished s = finished_by s.writing.goes_on s

unfoldable pub write_finished_flash : WriteState → List ℕ
write_finished_flash s = finished_flash_by s.writing.goes_on s

-- ---- the job, up to the commit

unfoldable pub write_page : List ℕ → ℕ → ℕ → List ℕ → List ℕ → ℕ → ℕ → WriteState
write_page flash magic page header payload piece left = write_all payload piece (write_begun flash magic page header left)

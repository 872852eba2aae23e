-- A page, opened and read by the reader's calls into one buffer, up to a read that answers 0 or is refused. Assumes nothing.
use Rattle.std.specs.Result.{result_unwrap_or}
use Rattle.std.specs.declared.result.Result.{Result}
use Rattle.types.specs.declared.refusal.Refusal.{Refusal}
use Rattle.std.specs.Prelude.{cond, false, not, List, ◌++◌, ℕ, zero, suc, ◌+◌, min, eqb, length, take, drop, Ok, Err, ⊤}
use Rattle.types.specs.Build.{page_size}
use Rattle.types.specs.Answers.{number_told}
use Rattle.reader.specs.Calls.{open_page, read, read_bytes}
use Rattle.reader.specs.States.{new_reader}
use Rattle.reader.specs.declared.answers.Passage.{Passage}
use Rattle.reader.specs.declared.page_reader.PageReader.{PageReader}
use Rattle.bench_jobs.specs.Telling.{begins, packed}
use Rattle.bench_jobs.specs.declared.reading.Reading.{Reading}

-- a reader on its way, and the buffer
pub record ReadState : Type 0 where
  pub reading : Reading
  pub out : List ℕ

abbrev pub read_state : Reading → List ℕ → ReadState
read_state r out = record { reading = r; out = out }

-- where the next byte goes
abbrev pub next_at : List ℕ → Reading → ℕ
next_at out r = min r.put (length out)

-- after a read: nothing and a refusal end it
abbrev pub after_read : ℕ → Result ℕ Refusal → PageReader → Reading
after_read from (Ok n) next = record { reader = next; put = from + n; goes_on = Ok (not (eqb n 0)) }
after_read from (Err why) next = record { reader = next; put = from; goes_on = Err why }

abbrev pub passed : ℕ → Passage ℕ → Reading
passed from p = after_read from p.answer p.reader

-- a read into the buffer from there on
abbrev pub read_from : ℕ → List ℕ → ReadState → ReadState
read_from from flash s =
    record {
      reading = passed from (read s.reading.reader flash (length (drop from s.out)));
      out = take from s.out ++ read_bytes s.reading.reader flash (drop from s.out);
    }

unfoldable pub read_one : List ℕ → ReadState → ReadState
read_one flash s = read_from (next_at s.out s.reading) flash s

-- at most n reads, while it goes on
unfoldable pub read_while_on : ℕ → List ℕ → ReadState → ReadState
read_while_on zero flash s = s
read_while_on (suc n) flash s = cond (result_unwrap_or s.reading.goes_on false) (read_while_on n flash (read_one flash s)) s

-- each read but the last puts a byte or more, so a page has no more of them
abbrev pub read_pieces : List ℕ → ReadState → ReadState
read_pieces flash s = read_while_on (page_size + 1) flash s

-- a reader that was opened, or refused
abbrev pub reading_at : Passage ⊤ → Reading
reading_at opening = record { reader = opening.reader; put = 0; goes_on = begins opening.answer }

-- the job: a new reader is opened on a page with h bytes of higher header, and reads all of it
unfoldable pub read_page : List ℕ → ℕ → ℕ → ℕ → List ℕ → ReadState
read_page flash magic page h out = read_pieces flash (read_state (reading_at (open_page new_reader flash magic (record { 0 = page }) h)) out)

abbrev pub packed_of : ReadState → ℕ
packed_of s = packed (number_told s.reading.goes_on) s.reading.put

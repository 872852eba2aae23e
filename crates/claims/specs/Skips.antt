-- What a skip comes to (docs/RULES.md, Reading), by what reads to the end would find. Assumes nothing.
use Rattle.types.specs.Checks.{Verdict}
use Rattle.std.specs.declared.result.Result.{Result}
use Rattle.types.specs.declared.refusal.Refusal.{Refusal}
use Rattle.std.specs.Prelude.{◌≡◌, false, cond, List, ℕ, suc, min, leb, length, Ok, Err}
use Rattle.types.specs.Build.{page_size}
use Rattle.flash.specs.Geometry.{page_of}
use Rattle.page.specs.Chunks.{next_offset}
use Rattle.page.specs.Walks.{Chunk, walk_from}
use Rattle.reader.specs.Calls.{skip}
use Rattle.reader.specs.Finds.{Joined, NotEmpty, joined, without, reads}
use Rattle.reader.specs.declared.page_reader.PageReader.{PageReader}
use Rattle.claims.specs.ReaderHistories.{Among}

-- all that reads into these buffers find from a reader on: each but the last hands out a byte or more, so a page has no more of them
abbrev pub found_from : (ℕ → List ℕ) → List ℕ → PageReader → Joined
found_from buffers flash r = joined (reads (suc page_size) buffers flash r)

-- the answer to a skip of n where m bytes are found: n, or all of them; but fewer in front of what is refused are refused too
abbrev pub answer_of : ℕ → ℕ → Verdict → Result ℕ Refusal
answer_of n m (Ok tt) = Ok (min n m)
answer_of n m (Err why) = cond (leb n m) (Ok n) (Err why)

-- the bytes that an answer says were passed
abbrev pub passed_by : Result ℕ Refusal → ℕ
passed_by (Ok n) = n
passed_by (Err why) = 0

-- a skip of n answers by what was found in front of it, and behind it is found the same without the bytes that were passed
pub record SkipIsRead (flash : List ℕ) (r : PageReader) (n : ℕ) (before behind : ℕ → List ℕ) : Type 0 where
  pub answer : (skip r flash n).answer ≡ answer_of n (length (found_from before flash r).bytes) (found_from before flash r).ends
  pub found : found_from behind flash (skip r flash n).reader ≡ without (passed_by (skip r flash n).answer) (found_from before flash r)

-- no chunk behind the reader's own is empty
abbrev pub NoneEmptyBehind : List ℕ → PageReader → Type 0
NoneEmptyBehind flash r = r.ended ≡ false → (c : Chunk) → Among c (walk_from (page_of r.page.0 flash) (next_offset r.offset r.len)).chunks → NotEmpty c

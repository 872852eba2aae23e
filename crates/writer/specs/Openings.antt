-- Opening a page to write it anew, or to add to it (docs/RULES.md, Adding). Stores left goes through. Assumes nothing.
use Rattle.std.specs.declared.result.Result.{Result}
use Rattle.types.specs.declared.refusal.Corrupted.{Corrupted}
use Rattle.std.specs.Prelude.{cond, true, false, List, ℕ, length, drop, Ok, Err, ⊤}
use Rattle.types.specs.Build.{page_size}
use Rattle.types.specs.Checks.{refused_or}
use Rattle.types.specs.declared.page_id.PageID.{PageID}
use Rattle.types.specs.declared.refusal.Refusal.{Refusal}
use Rattle.types.specs.declared.refusal.Refusal.TheVariants as refusal
use Rattle.flash.specs.Geometry.{page_of}
use Rattle.page.specs.Checks.{open_check}
use Rattle.page.specs.Walks.{walk_end, all_erased}
use Rattle.writer.specs.Outcomes.{refused_at}
use Rattle.writer.specs.States.{first_chunk, fresh}
use Rattle.writer.specs.declared.answers.Ended.{Ended}
use Rattle.writer.specs.declared.page_writer.PageWriter.{PageWriter}

-- a writer that is open
abbrev pub open_as : PageWriter → ℕ → Ended ⊤
open_as w left = record { answer = Ok tt; writer = w; left = left }

-- the writer that an opening made, or this one where it is refused
abbrev pub replaced_by : PageWriter → ℕ → Result PageWriter Refusal → Ended ⊤
replaced_by w left (Ok next) = open_as next left
replaced_by w left (Err why) = refused_at w left why

-- a writer that writes a page anew, on a flash of n bytes
unfoldable pub anew : ℕ → PageID → ℕ → Result PageWriter Refusal
anew n page h = refused_or (open_check n h page) Err (Ok (fresh true page h (first_chunk h)))

-- open: the erase is armed
unfoldable pub opened : List ℕ → PageID → ℕ → PageWriter → ℕ → Ended ⊤
opened xs page h w left =
    refused_or (open_check (length xs) h page) (refused_at w left) (open_as (fresh true page h (first_chunk h)) left)

-- the offset at which a page whose chunks end at o is added to: the page's end, if any byte from o on is not erased
abbrev pub resume_at : ℕ → List ℕ → ℕ → ℕ
resume_at e page o = cond (all_erased e (drop o page)) o page_size

-- a writer behind a page's chunks, by how the walk over them ends
abbrev pub behind_at : ℕ → List ℕ → PageID → ℕ → Result ℕ Corrupted → Result PageWriter Refusal
behind_at e bytes page h (Err why) = Err refusal.Corrupted
behind_at e bytes page h (Ok o) = Ok (fresh false page h (resume_at e bytes o))

unfoldable pub behind : ℕ → List ℕ → PageID → ℕ → Result PageWriter Refusal
behind e xs page h =
    refused_or (open_check (length xs) h page) Err (behind_at e (page_of page.0 xs) page h (walk_end (page_of page.0 xs) (first_chunk h)))

-- by how the walk ends: a chunk that cannot be is 1; else no erase is armed
abbrev pub appended_at : ℕ → List ℕ → PageID → ℕ → PageWriter → ℕ → Result ℕ Corrupted → Ended ⊤
appended_at e bytes page h w left (Err why) = refused_at w left refusal.Corrupted
appended_at e bytes page h w left (Ok o) = open_as (fresh false page h (resume_at e bytes o)) left

-- open_append: the walk checks neither the page header nor any sum
unfoldable pub appended : ℕ → List ℕ → PageID → ℕ → PageWriter → ℕ → Ended ⊤
appended e xs page h w left =
    refused_or (open_check (length xs) h page) (refused_at w left)
    (appended_at e (page_of page.0 xs) page h w left (walk_end (page_of page.0 xs) (first_chunk h)))

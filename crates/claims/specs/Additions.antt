-- Adding one chunk to a page, call by call: open_append, writes of pieces until there are no more or one fills the chunk, then a
-- commit. Each call gets what the one before it left, by the definitions that the calls promise. Assumes nothing.
use Rattle.std.specs.declared.result.Result.{Result}
use Rattle.types.specs.declared.refusal.Refusal.{Refusal}
use Rattle.std.specs.Prelude.{Bool, cond, not, ◌&&◌, List, [], ◌∷◌, ◌++◌, ℕ, eqb, leb, length, Ok, Err, ⊤}
use Rattle.types.specs.declared.page_id.PageID.{PageID}
use Rattle.flash.specs.Operations.{Op}
use Rattle.writer.specs.Calls.{World, writes, commits, hands_back_in, leaves_in, opened_on}
use Rattle.writer.specs.Commits.{commit_ops}
use Rattle.writer.specs.Openings.{appended}
use Rattle.writer.specs.Writes.{taken_of, grown, is_full, write_ops, written}
use Rattle.writer.specs.declared.page_writer.PageWriter.{PageWriter}

-- ---- the calls

-- whether a write of these bytes fills the chunk, and so commits it
abbrev pub fills : PageWriter → List ℕ → Bool
fills w bytes = is_full (grown w (taken_of w bytes))

-- a refused call is the last
abbrev pub go_on : Result ⊤ Refusal → List ℕ → List ℕ → List ℕ
go_on (Ok tt) further stopped = further
go_on (Err why) further stopped = stopped

-- the flash after writes of the pieces and a commit
unfoldable pub after_writes : ℕ → List (List ℕ) → World → List ℕ
after_writes e [] x = (leaves_in e x commits).flash
after_writes e (bytes ∷ pieces) x =
    let y = leaves_in e x (writes bytes) in
    go_on (hands_back_in e x (writes bytes)).answer (cond (fills x.writer bytes) y.flash (after_writes e pieces y)) y.flash

-- the flash after all of it, where k stores may be made
unfoldable pub added : ℕ → List ℕ → PageID → ℕ → PageWriter → ℕ → List (List ℕ) → List ℕ
added e xs page h w k pieces =
    go_on (appended e xs page h w k).answer (after_writes e pieces (opened_on xs (appended e xs page h w k))) xs

-- ---- what they owe and take in all

-- the operations
unfoldable pub addition_ops : ℕ → PageWriter → List (List ℕ) → List Op
addition_ops e w [] = commit_ops e w
addition_ops e w (bytes ∷ pieces) = write_ops e w bytes ++ cond (fills w bytes) [] (addition_ops e (written w bytes) pieces)

-- the bytes that are taken
unfoldable pub addition : PageWriter → List (List ℕ) → List ℕ
addition w [] = []
addition w (bytes ∷ pieces) = taken_of w bytes ++ cond (fills w bytes) [] (addition (written w bytes) pieces)

-- the payload of the chunk that an addition makes, and how many stores and erases it takes
abbrev pub new_payload : ℕ → List ℕ → PageID → ℕ → PageWriter → ℕ → List (List ℕ) → List ℕ
new_payload e xs page h w k pieces = addition (appended e xs page h w k).writer pieces

abbrev pub store_count : ℕ → List ℕ → PageID → ℕ → PageWriter → ℕ → List (List ℕ) → ℕ
store_count e xs page h w k pieces = length (addition_ops e (appended e xs page h w k).writer pieces)

-- whether its chunk was added whole: it has a byte, and its last store was made
abbrev pub added_whole : ℕ → List ℕ → PageID → ℕ → PageWriter → ℕ → List (List ℕ) → Bool
added_whole e xs page h w k pieces = not (eqb (length (new_payload e xs page h w k pieces)) 0) && leb (store_count e xs page h w k pieces) k

-- the payload that it adds: the new one, or none where the chunk was not added whole
abbrev pub added_payload : ℕ → List ℕ → PageID → ℕ → PageWriter → ℕ → List (List ℕ) → List (List ℕ)
added_payload e xs page h w k pieces = cond (added_whole e xs page h w k pieces) (new_payload e xs page h w k pieces ∷ []) []

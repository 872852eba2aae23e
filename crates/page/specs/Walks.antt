-- The walk over a page's chunks (docs/FORMAT.md, The walk): the whole list of them, and where it ends or that it is
-- refused. Assumes nothing.
use Rattle.types.specs.Checks.{corruption}
use Rattle.std.specs.declared.result.Result.{Result}
use Rattle.types.specs.declared.refusal.Corrupted.{Corrupted}
use Rattle.std.specs.Prelude.{Bool, true, ◌&&◌, List, [], ◌∷◌, ℕ, zero, suc, ◌/◌, eqb, Ok, Err, Some, None}
use Rattle.types.specs.Build.{page_size, chunk_header_size}
use Rattle.page.specs.Chunks.{chunk_at, Step}

-- a chunk where it lies
pub record Chunk : Type 0 where
  pub offset : ℕ
  pub len : ℕ
  pub crc : ℕ

-- the chunks of a walk, and how it ends
pub record Walked : Type 0 where
  pub chunks : List Chunk
  pub ending : Result ℕ Corrupted

-- what was found at o, and the rest of the walk
abbrev pub walk_after : (ℕ → Walked) → ℕ → Step → Walked
walk_after rest o (Ok None) = record { chunks = []; ending = Ok o }
walk_after rest o (Err w) = record { chunks = []; ending = Err corruption }
walk_after rest o (Ok (Some chunk)) =
    record { chunks = record { offset = o; len = chunk.len; crc = chunk.crc } ∷ (rest chunk.next).chunks; ending = (rest chunk.next).ending }

-- the walk from o, over at most n steps
unfoldable pub walk : ℕ → List ℕ → ℕ → Walked
walk zero page o = record { chunks = []; ending = Ok o }
walk (suc n) page o = walk_after (walk n page) o (chunk_at page o)

-- the walk from o to its end: every chunk takes at least its header, so no page has room for more steps
unfoldable pub walk_from : List ℕ → ℕ → Walked
walk_from page o = walk (suc (page_size / chunk_header_size)) page o

-- where it ends
abbrev pub walk_end : List ℕ → ℕ → Result ℕ Corrupted
walk_end page o = (walk_from page o).ending

-- whether every byte reads as erased, where e is the erase value
unfoldable pub all_erased : ℕ → List ℕ → Bool
all_erased e [] = true
all_erased e (b ∷ bytes) = eqb b e && all_erased e bytes

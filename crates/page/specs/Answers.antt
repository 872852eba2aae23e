-- Each answer as numbers (docs/RULES.md, Refusals): the number of the row that refuses, 0 where none does, and the values.
-- Assumes nothing.
use Rattle.page.specs.Chunks.{Step}
use Rattle.std.specs.declared.result.Result.{Result}
use Rattle.types.specs.declared.refusal.Corrupted.{Corrupted}
use Rattle.std.specs.Prelude.{[], ◌∷◌, Ok, Err, Some, None, ℕ}
use Rattle.types.specs.Answers.{Told, answered, refusal}
use Rattle.types.specs.declared.refusal.Refusal.TheVariants as row

-- a chunk's length, its sum, and where the next one starts
abbrev pub step_told : Step → Told
step_told (Ok None) = answered []
step_told (Err w) = refusal row.Corrupted
step_told (Ok (Some chunk)) = answered (chunk.len ∷ chunk.crc ∷ chunk.next ∷ [])

-- the offset where the walk ends
abbrev pub ending_told : Result ℕ Corrupted → Told
ending_told (Ok at) = answered (at ∷ [])
ending_told (Err w) = refusal row.Corrupted

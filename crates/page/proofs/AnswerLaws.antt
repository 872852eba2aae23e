-- An answer told as numbers: its number is the one of the row that refuses, 0 where none does, and its values come back. Assumes nothing.
use mathlib.Core.Path.{◌≡◌, refl}
use Prim.Native.Nat.{ℕ}
use Rattle.std.specs.Prelude.{Ok, Err, Some, None}
use Rattle.types.specs.Answers.{corrupted_told, size_or}
use Rattle.types.specs.Checks.{corruption}
use Rattle.types.specs.Refusals.{number_of}
use Rattle.types.specs.declared.refusal.Refusal.TheVariants as row
use Rattle.types.specs.declared.refusal.Corrupted.{Corrupted}
use Rattle.std.specs.declared.result.Result.{Result}
use Rattle.page.specs.Answers.{step_told, ending_told}
use Rattle.page.specs.Chunks.{Step}
use Rattle.page.specs.declared.chunk.ChunkAt.{ChunkAt}

-- ---- the number: what `Answer::number` answers

pub step_told-number : (s : Step) → (step_told s).number ≡ corrupted_told s
step_told-number (Ok (Some chunk)) = refl
step_told-number (Ok None) = refl
step_told-number (Err w) = refl

pub ending_told-number : (r : Result ℕ Corrupted) → (ending_told r).number ≡ corrupted_told r
ending_told-number (Ok at) = refl
ending_told-number (Err w) = refl

pub step_told-chunk : (chunk : ChunkAt) → (step_told (Ok (Some chunk))).number ≡ 0
step_told-chunk chunk = refl

pub step_told-end : (step_told (Ok None)).number ≡ 0
step_told-end = refl

pub step_told-corrupted : (step_told (Err corruption)).number ≡ number_of row.Corrupted
step_told-corrupted = refl

pub ending_told-end : (at : ℕ) → (ending_told (Ok at)).number ≡ 0
ending_told-end at = refl

pub ending_told-corrupted : (ending_told (Err corruption)).number ≡ number_of row.Corrupted
ending_told-corrupted = refl

-- ---- a chunk's values, or others where there is none

module _ (other : ℕ) where
  pub step_told-len : (chunk : ChunkAt) → size_or other 0 (step_told (Ok (Some chunk))) ≡ chunk.len
  step_told-len chunk = refl

  pub step_told-crc : (chunk : ChunkAt) → size_or other 1 (step_told (Ok (Some chunk))) ≡ chunk.crc
  step_told-crc chunk = refl

  pub step_told-next : (chunk : ChunkAt) → size_or other 2 (step_told (Ok (Some chunk))) ≡ chunk.next
  step_told-next chunk = refl

  pub step_told-none : (k : ℕ) → size_or other k (step_told (Ok None)) ≡ other
  step_told-none k = refl

  pub step_told-refused : (k : ℕ) → size_or other k (step_told (Err corruption)) ≡ other
  step_told-refused k = refl

  -- the offset of the end, or another one
  pub ending_told-offset : (at : ℕ) → size_or other 0 (ending_told (Ok at)) ≡ at
  ending_told-offset at = refl

  pub ending_told-other : size_or other 0 (ending_told (Err corruption)) ≡ other
  ending_told-other = refl

-- The table of the walk holds, case by case. Assumes nothing.
use mathlib.Core.Path.{◌≡◌, refl}
use mathlib.Core.List.{map}
use Rattle.types.specs.Bytes.{word, bytes_of}
use Rattle.slices.specs.Patch.{over, patch, blank}
use Rattle.page.specs.Chunks.{chunk_header, chunk_at}
use Rattle.page.specs.WalkTable.{WalkCase, walk_cases, too_long_with_room, walk_outcome}

pub walk-table : map walk_outcome walk_cases ≡ map (λ (c : WalkCase). c.finds) walk_cases
unfolding walk_outcome chunk_at chunk_header word bytes_of over patch blank
walk-table = refl

pub walk-length : walk_outcome too_long_with_room ≡ too_long_with_room.finds
unfolding walk_outcome chunk_at chunk_header word bytes_of over patch blank
walk-length = refl

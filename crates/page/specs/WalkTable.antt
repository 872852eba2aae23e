-- The reference cases of the walk (docs/RULES.md, Reference cases), as a table. A page of erased bytes gets a chunk header at the
-- offset, as far as it fits, and the walk looks there. Assumes nothing.
use Rattle.types.specs.Checks.{corruption}
use Rattle.std.specs.Prelude.{List, [], ◌∷◌, ℕ, Ok, Err, None}
use Rattle.types.specs.Build.{page_size, erase_value}
use Rattle.slices.specs.Patch.{patch, blank}
use Rattle.page.specs.Chunks.{chunk_header, chunk_at, Step, found_chunk}

-- a header with this length at this offset, and what the walk is to find there
pub record WalkCase : Type 0 where
  pub offset : ℕ
  pub len : ℕ
  pub finds : Step

-- a walk at 4088 reads a header
abbrev pub header_at_4088 : WalkCase
header_at_4088 = record { offset = 4088; len = 0; finds = found_chunk 0 0 4096 }

-- a walk at 4092 is at the end
abbrev pub end_at_4092 : WalkCase
end_at_4092 = record { offset = 4092; len = 0; finds = Ok None }

-- a chunk of 4076 bytes at 12 fits
abbrev pub longest_at_12 : WalkCase
longest_at_12 = record { offset = 12; len = 4076; finds = found_chunk 4076 0 4096 }

-- a chunk of 4076 bytes at 16 is corrupted
abbrev pub longest_at_16 : WalkCase
longest_at_16 = record { offset = 16; len = 4076; finds = Err corruption }

-- a chunk of 4077 bytes at 12 is corrupted
abbrev pub too_long : WalkCase
too_long = record { offset = 12; len = 4077; finds = Err corruption }

abbrev pub walk_cases : List WalkCase
walk_cases = header_at_4088 ∷ end_at_4092 ∷ longest_at_12 ∷ longest_at_16 ∷ too_long ∷ []

-- at 12 the page's end refuses 4077 too; at 8 the page has room for it, and the longest length alone refuses it
abbrev pub too_long_with_room : WalkCase
too_long_with_room = record { offset = 8; len = 4077; finds = Err corruption }

-- what the walk does find
unfoldable pub walk_outcome : WalkCase → Step
walk_outcome c = chunk_at (patch c.offset (chunk_header c.len 0) (blank erase_value page_size)) c.offset

-- The rooms that come from the numbers of the build. Assumes nothing.
use Rattle.std.specs.Prelude.{ℕ, ◌+◌, ◌*◌}
use Rattle.types.specs.Build.{page_size, max_page_count, file_count, max_key_size, max_value_size}

-- a flash of one page more than there can be
abbrev pub flash_room : ℕ
flash_room = (max_page_count + 1) * page_size

-- as many runs as a merge takes, of 65,536 bytes each
abbrev pub all_runs_room : ℕ
all_runs_room = file_count * 65536

-- the longest line of an entry: each byte of its key and of its value spelled in four, a tab and a newline
abbrev pub entry_room : ℕ
entry_room = 4 * (max_key_size + max_value_size) + 2

-- The numbers of the build that we ship (docs/RULES.md, Build), each by one name. Assumes nothing.
use Rattle.std.specs.Prelude.{ℕ, ◌+◌, ◌-◌, ◌*◌}
use Rattle.types.specs.declared.config.Build.{Build}

abbrev pub page_size : ℕ
page_size = 4096

abbrev pub align : ℕ
align = 4

abbrev pub erase_value : ℕ
erase_value = 0xFF

abbrev pub max_page_count : ℕ
max_page_count = 256

abbrev pub max_key_size : ℕ
max_key_size = 64

abbrev pub max_value_size : ℕ
max_value_size = 1024

abbrev pub branching_factor : ℕ
branching_factor = 2

-- how many levels make a full flash, where a file has branching_factor times the pages of a file of the level below
abbrev pub level_count : ℕ
level_count = 8

-- the files of every level, and one more
abbrev pub file_count : ℕ
file_count = branching_factor * level_count + 1

-- a page header without the higher header, and the longest higher header
abbrev pub page_header_size : ℕ
page_header_size = 12

abbrev pub max_header_size : ℕ
max_header_size = 64

abbrev pub chunk_header_size : ℕ
chunk_header_size = 8

abbrev pub max_chunk_size : ℕ
max_chunk_size = page_size - page_header_size - chunk_header_size

abbrev pub the_build : Build
the_build = record {
  page_size = page_size;
  align = align;
  erase_value = erase_value;
  max_page_count = max_page_count;
  max_key_size = max_key_size;
  max_value_size = max_value_size;
  branching_factor = branching_factor;
  level_count = level_count;
  file_count = file_count;
  page_header_size = page_header_size;
  max_header_size = max_header_size;
  chunk_header_size = chunk_header_size;
  max_chunk_size = max_chunk_size;
}

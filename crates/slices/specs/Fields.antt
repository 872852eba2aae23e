-- Numbers in lent bytes, little-endian (docs/FORMAT.md, Numbers and flash). Assumes nothing.
use Rattle.std.specs.Prelude.{List, ℕ, take, drop}
use Rattle.types.specs.Bytes.{word}

-- the number in the k bytes from `at` on; a byte past the end counts as 0
abbrev pub field : ℕ → List ℕ → ℕ → ℕ
field k bytes at = word (take k (drop at bytes))

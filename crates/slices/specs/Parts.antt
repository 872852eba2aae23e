-- A part of lent bytes. Assumes nothing.
use Rattle.std.specs.Prelude.{List, ℕ, ◌-◌, take, drop}

-- the bytes from one position up to another, as far as they are there
unfoldable pub part_to : List ℕ → ℕ → ℕ → List ℕ
part_to bytes from to = take (to - from) (drop from bytes)

-- The runs in the lent buffer: the first from 0, each other from the end before it (docs/RULES.md, Runs).
-- Assumes nothing.
use Rattle.std.specs.Prelude.{List, ℕ, zero, suc, get_or}
use Rattle.slices.specs.Parts.{part_to}

abbrev pub end_of : List ℕ → ℕ → ℕ
end_of ends i = get_or ends i 0

unfoldable pub start_of : List ℕ → ℕ → ℕ
start_of ends zero = 0
start_of ends (suc i) = end_of ends i

abbrev pub run_of : List ℕ → List ℕ → ℕ → List ℕ
run_of bytes ends i = part_to bytes (start_of ends i) (end_of ends i)

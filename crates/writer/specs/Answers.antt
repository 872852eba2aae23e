-- Each answer as numbers (docs/RULES.md, Refusals): the number of the row that refuses, 0 where none does, and the values.
-- Assumes nothing.
use Rattle.std.specs.declared.result.Result.{Result}
use Rattle.types.specs.declared.refusal.Refusal.{Refusal}
use Rattle.std.specs.Prelude.{ℕ}
use Rattle.types.specs.Answers.{Told, size_told}

-- how many bytes were taken
abbrev pub taking_told : Result ℕ Refusal → Told
taking_told = size_told

-- how many bytes there are
abbrev pub length_told : Result ℕ Refusal → Told
length_told = size_told

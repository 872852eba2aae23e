-- Each answer as numbers (docs/RULES.md, Refusals): the number of the row that refuses, 0 where none does, and the values.
-- Assumes nothing.
use Rattle.std.specs.declared.result.Result.{Result}
use Rattle.types.specs.declared.refusal.Refusal.{Refusal}
use Rattle.std.specs.Prelude.{cond, List, [], ◌∷◌, ℕ, eqb, Ok, Err}
use Rattle.types.specs.Answers.{Told, answered, refusal, size_or}
use Rattle.reader.specs.declared.answers.EndTest.{EndTest}
use Rattle.reader.specs.declared.answers.EndTest.TheVariants as end_test
use Rattle.reader.specs.declared.dehydrated.DehydratedPageReader.{DehydratedPageReader}

-- how many bytes were read or passed
abbrev pub count_told : Result ℕ Refusal → Told
count_told (Ok n) = answered (n ∷ [])
count_told (Err why) = refusal why

-- at its end is 1, not there is 0
abbrev pub end_test_told : Result EndTest Refusal → Told
end_test_told (Ok end_test.AtEnd) = answered (1 ∷ [])
end_test_told (Ok end_test.More) = answered (0 ∷ [])
end_test_told (Err why) = refusal why

-- every field, ended as 1 and not ended as 0
abbrev pub fields_of : DehydratedPageReader → List ℕ
fields_of d = d.page.0 ∷ cond d.ended 1 0 ∷ d.offset ∷ d.len ∷ d.crc ∷ d.position ∷ []

abbrev pub dehydration_told : Result DehydratedPageReader Refusal → Told
dehydration_told (Ok d) = answered (fields_of d)
dehydration_told (Err why) = refusal why

-- the state that these values tell, or another where there are none
abbrev pub state_or : DehydratedPageReader → Told → DehydratedPageReader
state_or other told = record {
  page = record { 0 = size_or other.page.0 0 told };
  ended = eqb (size_or (cond other.ended 1 0) 1 told) 1;
  offset = size_or other.offset 2 told;
  len = size_or other.len 3 told;
  crc = size_or other.crc 4 told;
  position = size_or other.position 5 told;
}

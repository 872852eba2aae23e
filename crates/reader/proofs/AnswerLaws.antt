-- An answer told as numbers: its number is the one of the row that refuses, 0 where none does, and its values come back. Assumes nothing.
use Rattle.std.specs.Prelude.{Ok, Err, eqb}
use Rattle.std.specs.declared.result.Result.{Result}
use mathlib.Core.Path.{◌≡◌, refl, sym, ap}
use mathlib.Core.Bool.{Bool, true, false}
use Prim.Native.Nat.{ℕ}
use mathlib.Core.List.{[]}
use Rattle.types.specs.Answers.{answered, number_told, size_or}
use Rattle.types.specs.declared.refusal.Refusal.{Refusal}
use Rattle.types.proofs.TestLaws.{flag-back}
use Rattle.reader.specs.Answers.{count_told, end_test_told, dehydration_told, state_or}
use Rattle.reader.specs.declared.answers.EndTest.{EndTest}
use Rattle.reader.specs.declared.answers.EndTest.TheVariants as end_test
use Rattle.reader.specs.declared.dehydrated.DehydratedPageReader.{DehydratedPageReader}

-- ---- the number: what `Answer::number` answers

pub count_told-number : (a : Result ℕ Refusal) → (count_told a).number ≡ number_told a
count_told-number (Ok n) = refl
count_told-number (Err why) = refl

pub end_test_told-number : (a : Result EndTest Refusal) → (end_test_told a).number ≡ number_told a
end_test_told-number (Ok end_test.AtEnd) = refl
end_test_told-number (Ok end_test.More) = refl
end_test_told-number (Err why) = refl

pub dehydration_told-number : (a : Result DehydratedPageReader Refusal) → (dehydration_told a).number ≡ number_told a
dehydration_told-number (Ok d) = refl
dehydration_told-number (Err why) = refl

-- ---- the value, or another where there is none

pub count_told-count : (other n : ℕ) → size_or other 0 (count_told (Ok n)) ≡ n
count_told-count other n = refl

pub count_told-other : (other : ℕ) (why : Refusal) → size_or other 0 (count_told (Err why)) ≡ other
count_told-other other why = refl

-- at its end is told as 1, and nothing else is
pub end_test_told-at-end : eqb (size_or 0 0 (end_test_told (Ok end_test.AtEnd))) 1 ≡ true
end_test_told-at-end = refl

pub end_test_told-more : eqb (size_or 0 0 (end_test_told (Ok end_test.More))) 1 ≡ false
end_test_told-more = refl

pub end_test_told-refused : (why : Refusal) → eqb (size_or 0 0 (end_test_told (Err why))) 1 ≡ false
end_test_told-refused why = refl

-- ---- the state that an answer's values tell is the answer's own

-- with its end told as 1 or 0
abbrev ended_so : DehydratedPageReader → Bool → DehydratedPageReader
ended_so d t = record { page = d.page; ended = t; offset = d.offset; len = d.len; crc = d.crc; position = d.position }

as-told : (d : DehydratedPageReader) (t : Bool) → t ≡ d.ended → d ≡ ended_so d t
as-told d t e = ap (ended_so d) (sym e)

pub state-told : (d other : DehydratedPageReader) → d ≡ state_or other (dehydration_told (Ok d))
state-told d other = as-told d _ (flag-back d.ended)

-- where no state is told, the other one is handed out as it is
pub other-told : (other : DehydratedPageReader) → other ≡ state_or other (answered [])
other-told other = as-told other _ (flag-back other.ended)

pub state-refused : (other : DehydratedPageReader) (why : Refusal) → other ≡ state_or other (dehydration_told (Err why))
state-refused other why = other-told other

-- The table of answers holds: one claim over it, by computation. Assumes nothing.
use mathlib.Core.Path.{◌≡◌, refl}
use mathlib.Core.List.{map}
use Rattle.claims.specs.AnswerTable.{AnswerRow, answers}

-- EACH ANSWER AS DOCUMENT 01 TELLS IT
pub answers-told : map (λ (row : AnswerRow). row.told) answers ≡ map (λ (row : AnswerRow). record { number = row.number; values = row.values }) answers
answers-told = refl

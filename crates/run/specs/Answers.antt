-- Each answer as numbers (docs/RULES.md, Refusals): the number of the row that refuses, 0 where none does, and the values.
-- Assumes nothing.
use Rattle.run.specs.Records.{Head}
use Rattle.std.specs.declared.option.Option.{Option}
use Rattle.std.specs.declared.result.Result.{Result}
use Rattle.types.specs.declared.refusal.Refusal.{Refusal}
use Rattle.std.specs.Prelude.{cond, [], ◌∷◌, eqb, Ok, Err, Some, None, ℕ}
use Rattle.types.specs.Answers.{Told, answered, refusal, size_or}
use Rattle.run.specs.declared.record.Record.{Record}

-- of a record its kind, and where its key, its value and the next record start
abbrev pub head_told : Head → Told
head_told (Ok None) = answered []
head_told (Ok (Some r)) = answered (cond r.deleted 1 0 ∷ r.key ∷ r.value ∷ r.next ∷ [])
head_told (Err why) = refusal why

-- the record that these values tell, or another where there are none
abbrev pub record_or : Record → Told → Record
record_or other told = record {
  deleted = eqb (size_or (cond other.deleted 1 0) 0 told) 1;
  key = size_or other.key 1 told;
  value = size_or other.value 2 told;
  next = size_or other.next 3 told;
}

-- a place in the run, or no value where it is gone
abbrev pub sought_told : Result (Option ℕ) Refusal → Told
sought_told (Ok None) = answered []
sought_told (Ok (Some at)) = answered (at ∷ [])
sought_told (Err why) = refusal why

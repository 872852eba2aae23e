-- Each answer as numbers (docs/RULES.md, Refusals): the number of the row that refuses, 0 where none does, and the values.
-- Assumes nothing.
use Rattle.std.specs.declared.option.Option.{Option}
use Rattle.std.specs.declared.result.Result.{Result}
use Rattle.types.specs.declared.refusal.Refusal.{Refusal}
use Rattle.cursor.specs.declared.answers.Entry.{Entry}
use Rattle.std.specs.Prelude.{[], ◌∷◌, Ok, Err, Some, None}
use Rattle.types.specs.Answers.{Told, answered, refusal}

-- an entry, none at the merge's end, or a refusal
abbrev pub NextAnswer : Type 0
NextAnswer = Result (Option Entry) Refusal

-- the lengths of an entry's key and value
abbrev pub next_told : NextAnswer → Told
next_told (Ok None) = answered []
next_told (Ok (Some entry)) = answered (entry.key_len ∷ entry.value_len ∷ [])
next_told (Err why) = refusal why

-- The next entry of the merge (docs/RULES.md, Merge): its answer, the cursor after it, and
-- the two lent buffers. Assumes nothing.
use Rattle.cursor.specs.declared.answers.Entry.{Entry}
use Rattle.std.specs.declared.option.Option.{Option}
use Rattle.cursor.specs.Answers.{NextAnswer}
use Rattle.std.specs.Prelude.{cond, List, ℕ, ltb, length, Ok, Err, Some, None}
use Rattle.types.specs.Checks.{refused_or}
use Rattle.types.specs.declared.refusal.Refusal.{Refusal}
use Rattle.types.specs.declared.refusal.Refusal.TheVariants.{KeyBufferTooSmall, ValueBufferTooSmall}
use Rattle.slices.specs.Patch.{over}
use Rattle.run.specs.Kinds.{Bound}
use Rattle.cursor.specs.Checks.{next_check}
use Rattle.cursor.specs.Pass.{lowest_key, lowest_value, Lowest}
use Rattle.cursor.specs.Settle.{settled}
use Rattle.cursor.specs.declared.answers.Moved.{Moved}
use Rattle.cursor.specs.declared.pass.Pass.{Pass}
use Rattle.cursor.specs.declared.place.Cursor.{Cursor}
use Rattle.cursor.specs.declared.place.RunPlace.{RunPlace}

-- ---- what a settled pass answers

-- 2 where the key has no room, then 3 where the value has none
unfoldable pub fitted : ℕ → ℕ → ℕ → ℕ → NextAnswer
fitted key_room value_room key_len value_len =
    cond (ltb key_room key_len) (Err KeyBufferTooSmall)
    (cond (ltb value_room value_len) (Err ValueBufferTooSmall) (Ok (Some (record { key_len = key_len; value_len = value_len }))))

unfoldable pub answer_by : Lowest → ℕ → ℕ → ℕ → ℕ → NextAnswer
answer_by (Ok None) key_room value_room key_len value_len = Ok None
answer_by (Ok (Some held)) key_room value_room key_len value_len = fitted key_room value_room key_len value_len
answer_by (Err why) key_room value_room key_len value_len = Err why

abbrev pub entry_answer : List ℕ → List ℕ → Lowest → ℕ → ℕ → NextAnswer
entry_answer bytes ends lowest key_room value_room =
    answer_by lowest key_room value_room (length (lowest_key bytes ends lowest)) (length (lowest_value bytes ends lowest))

-- only an entry steps its holders on
unfoldable pub places_by : NextAnswer → Pass → List RunPlace
places_by (Ok None) p = p.places
places_by (Ok (Some entry)) p = p.stepped
places_by (Err why) p = p.places

-- only an entry is put over a buffer's start; the rest of the buffer stays
unfoldable pub put_by : NextAnswer → List ℕ → List ℕ → List ℕ
put_by (Ok None) bytes buffer = buffer
put_by (Ok (Some entry)) bytes buffer = over bytes buffer
put_by (Err why) bytes buffer = buffer

-- ---- the call

unfoldable pub moved_by : NextAnswer → Pass → Moved (Option Entry)
moved_by answer p = record { cursor = record { places = places_by answer p }; answer = answer }

-- what a settled pass comes to
abbrev pub entry_by : List ℕ → List ℕ → ℕ → ℕ → Pass → Moved (Option Entry)
entry_by bytes ends key_room value_room p = moved_by (entry_answer bytes ends p.lowest key_room value_room) p

-- refused by a check, with the cursor as it was
abbrev pub refused_next : Cursor → Refusal → Moved (Option Entry)
refused_next c why = record { cursor = c; answer = Err why }

-- the answer and the cursor, for buffers of key_room and value_room bytes
unfoldable pub next_of : List ℕ → List ℕ → Bound → List ℕ → Cursor → ℕ → ℕ → Moved (Option Entry)
next_of bytes ends bound upper c key_room value_room =
    refused_or (next_check (length bytes) ends c.places) (refused_next c) (entry_by bytes ends key_room value_room (settled bytes ends bound upper c.places))

-- the key buffer and the value buffer
unfoldable pub next_key : List ℕ → List ℕ → Bound → List ℕ → Cursor → List ℕ → List ℕ → List ℕ
next_key bytes ends bound upper c key value =
    put_by (next_of bytes ends bound upper c (length key) (length value)).answer
    (lowest_key bytes ends (settled bytes ends bound upper c.places).lowest) key

unfoldable pub next_value : List ℕ → List ℕ → Bound → List ℕ → Cursor → List ℕ → List ℕ → List ℕ
next_value bytes ends bound upper c key value =
    put_by (next_of bytes ends bound upper c (length key) (length value)).answer
    (lowest_value bytes ends (settled bytes ends bound upper c.places).lowest) value

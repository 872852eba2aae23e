-- Bounds on a key that a run holds, the room of the buffers, and an entry before a refusal, as tables (docs/RULES.md, Merge). What
-- a case gives is computed from the definitions. Assumes nothing.
use Rattle.std.specs.Prelude.{List, [], ◌∷◌, ◌++◌, ℕ, zero, suc, length, take, replicate, Ok, Err, Some, None}
use Rattle.run.specs.RecordTable.{live_a}
use Rattle.run.specs.Kinds.{Bound, Unbounded, Included, Excluded}
use Rattle.types.specs.Answers.{answered}
use Rattle.cursor.specs.Answers.{next_told, NextAnswer}
use Rattle.cursor.specs.New.{new_of}
use Rattle.cursor.specs.Next.{next_of, next_key}
use Rattle.cursor.specs.ReferenceCases.{live_b, live_c, Case, call}
use Rattle.cursor.specs.declared.place.Cursor.{Cursor}
use Rattle.cursor.specs.declared.place.Place.TheVariants.{At}

-- ---- bounds

-- one run: a = 1, b = 2, c = 3
unfoldable pub three_keys : List ℕ
three_keys = live_a.bytes ++ (live_b ++ live_c)

-- a lower and an upper bound, both with the key b, and the keys that the merge hands out under them
pub record BoundCase : Type 0 where
  pub low : Bound
  pub high : Bound
  pub keys : List (List ℕ)

abbrev pub bound_case : Bound → Bound → List (List ℕ) → BoundCase
bound_case low high keys = record { low = low; high = high; keys = keys }

-- an included bound takes its own key, an excluded one does not
unfoldable pub bound_cases : List BoundCase
bound_cases =
    bound_case Unbounded Unbounded ((0x61 ∷ []) ∷ (0x62 ∷ []) ∷ (0x63 ∷ []) ∷ [])
    ∷ bound_case Included Unbounded ((0x62 ∷ []) ∷ (0x63 ∷ []) ∷ [])
    ∷ bound_case Excluded Unbounded ((0x63 ∷ []) ∷ [])
    ∷ bound_case Unbounded Included ((0x61 ∷ []) ∷ (0x62 ∷ []) ∷ [])
    ∷ bound_case Unbounded Excluded ((0x61 ∷ []) ∷ [])
    ∷ bound_case Included Included ((0x62 ∷ []) ∷ [])
    ∷ bound_case Excluded Excluded []
    ∷ []

-- an entry's key, and then the later keys
unfoldable pub keys_by : NextAnswer → List ℕ → List (List ℕ) → List (List ℕ)
keys_by (Ok None) buffer later = []
keys_by (Ok (Some entry)) buffer later = take entry.key_len buffer ∷ later
keys_by (Err why) buffer later = []

-- the keys that a number of calls of next hand out at most
unfoldable pub keys_from : ℕ → List ℕ → List ℕ → Bound → List ℕ → Cursor → List (List ℕ)
keys_from zero bytes ends bound upper c = []
keys_from (suc calls) bytes ends bound upper c =
    keys_by (next_of bytes ends bound upper c 1 1).answer (next_key bytes ends bound upper c (replicate 1 0) (replicate 1 0))
    (keys_from calls bytes ends bound upper (next_of bytes ends bound upper c 1 1).cursor)

unfoldable pub bound_outcome : BoundCase → List (List ℕ)
bound_outcome x =
    keys_from 4 three_keys (length three_keys ∷ []) x.high (0x62 ∷ []) (new_of three_keys (length three_keys ∷ []) x.low (0x62 ∷ [])).cursor

-- ---- room

-- the bytes of the two buffers, and the number that a call on the run b = 2 answers
pub record RoomCase : Type 0 where
  pub key_room : ℕ
  pub value_room : ℕ
  pub number : ℕ

abbrev pub room_case : ℕ → ℕ → ℕ → RoomCase
room_case key_room value_room number = record { key_room = key_room; value_room = value_room; number = number }

-- a key without room is 2, whatever room the value has; a value without room is 3
unfoldable pub room_cases : List RoomCase
room_cases = room_case 0 0 2 ∷ room_case 0 1 2 ∷ room_case 1 0 3 ∷ room_case 1 1 0 ∷ []

unfoldable pub room_outcome : RoomCase → ℕ
room_outcome x =
    (next_told (next_of live_b (length live_b ∷ []) Unbounded [] (new_of live_b (length live_b ∷ []) Unbounded []).cursor x.key_room x.value_room).answer).number

-- ---- an entry before a refusal

-- a = 1 and one byte of a record: a is handed out, and then 1, the run staying where it is
unfoldable pub damaged_run : Case
damaged_run =
    record {
      runs = (live_a.bytes ++ (0x48 ∷ [])) ∷ [];
      calls = call 1 1 (answered (1 ∷ 1 ∷ [])) (0x61 ∷ []) (0x31 ∷ []) (At 8 ∷ [])
          ∷ call 1 1 (record { number = 1; values = [] }) [] [] (At 8 ∷ [])
          ∷ [];
    }

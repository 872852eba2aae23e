-- The reference cases on runs (docs/RULES.md, Reference cases), as data: each case has its runs, the room of each call's buffers,
-- and what each call is to give. What it does give is computed from the definitions. Assumes nothing.
use mathlib.Core.List.{List, [], ◌∷◌, ◌++◌, flatten}
use Rattle.std.specs.Prelude.{ℕ, ◌+◌, length, take, replicate, Ok, Err, Some, None}
use Rattle.run.specs.RecordTable.{live_a, deleted_a}
use Rattle.run.specs.Kinds.{Unbounded}
use Rattle.types.specs.Histories.{told_by_each}
use Rattle.types.specs.Answers.{Told, answered}
use Rattle.cursor.specs.Answers.{next_told, NextAnswer}
use Rattle.cursor.specs.New.{new_of}
use Rattle.cursor.specs.Next.{next_of, next_key, next_value}
use Rattle.cursor.specs.declared.place.Cursor.{Cursor}
use Rattle.cursor.specs.declared.place.Place.{Place}
use Rattle.cursor.specs.declared.place.Place.TheVariants.{At, Gone}
use Rattle.cursor.specs.declared.place.RunPlace.{RunPlace}

-- ---- the runs

-- b = 2, c = 3; the table of records has the bytes of a = 1 and of a deleted
unfoldable pub live_b : List ℕ
live_b = 0x48 ∷ 0x56 ∷ 0x00 ∷ 0x01 ∷ 0x01 ∷ 0x00 ∷ 0x62 ∷ 0x32 ∷ []

unfoldable pub live_c : List ℕ
live_c = 0x48 ∷ 0x56 ∷ 0x00 ∷ 0x01 ∷ 0x01 ∷ 0x00 ∷ 0x63 ∷ 0x33 ∷ []

unfoldable pub both_runs : List (List ℕ)
both_runs = (live_a.bytes ++ live_c) ∷ (deleted_a.bytes ++ live_b) ∷ []

-- where each run ends, of runs one behind the other
unfoldable pub ends_from : ℕ → List (List ℕ) → List ℕ
ends_from from [] = []
ends_from from (run ∷ runs) = (from + length run) ∷ ends_from (from + length run) runs

-- ---- the calls

-- what is answered, the bytes put into the buffers, and the runs' places afterwards
pub record Effect : Type 0 where
  pub told : Told
  pub key : List ℕ
  pub value : List ℕ
  pub places : List Place

pub record CallCase : Type 0 where
  pub key_room : ℕ
  pub value_room : ℕ
  pub gives : Effect

pub record Case : Type 0 where
  pub runs : List (List ℕ)
  pub calls : List CallCase

-- an entry's bytes stand at the buffer's start
unfoldable pub shown_key : NextAnswer → List ℕ → List ℕ
shown_key (Ok None) buffer = []
shown_key (Ok (Some entry)) buffer = take entry.key_len buffer
shown_key (Err why) buffer = []

unfoldable pub shown_value : NextAnswer → List ℕ → List ℕ
shown_value (Ok None) buffer = []
shown_value (Ok (Some entry)) buffer = take entry.value_len buffer
shown_value (Err why) buffer = []

unfoldable pub places_in : List RunPlace → List Place
places_in [] = []
places_in (p ∷ places) = p.place ∷ places_in places

-- one call with fresh buffers, and with no upper bound
unfoldable pub effect_of : List ℕ → List ℕ → Cursor → ℕ → ℕ → Effect
effect_of bytes ends c key_room value_room = record {
  told = next_told (next_of bytes ends Unbounded [] c key_room value_room).answer;
  key = shown_key (next_of bytes ends Unbounded [] c key_room value_room).answer
      (next_key bytes ends Unbounded [] c (replicate key_room 0) (replicate value_room 0));
  value = shown_value (next_of bytes ends Unbounded [] c key_room value_room).answer
      (next_value bytes ends Unbounded [] c (replicate key_room 0) (replicate value_room 0));
  places = places_in (take (length ends) (next_of bytes ends Unbounded [] c key_room value_room).cursor.places);
}

-- the cursor that it leaves to the next call
abbrev pub cursor_after : List ℕ → List ℕ → Cursor → CallCase → Cursor
cursor_after bytes ends c x = (next_of bytes ends Unbounded [] c x.key_room x.value_room).cursor

-- the calls in turn, each from where the one before left the cursor
abbrev pub effects_from : List ℕ → List ℕ → Cursor → List CallCase → List Effect
effects_from bytes ends c calls =
    told_by_each (cursor_after bytes ends) (λ d x. effect_of bytes ends d x.key_room x.value_room) c calls

unfoldable pub effects_of : Case → List Effect
effects_of x =
    effects_from (flatten x.runs) (ends_from 0 x.runs)
    (new_of (flatten x.runs) (ends_from 0 x.runs) Unbounded []).cursor x.calls

unfoldable pub given : List CallCase → List Effect
given [] = []
given (x ∷ calls) = x.gives ∷ given calls

unfoldable pub expected : Case → List Effect
expected x = given x.calls

-- ---- the table

unfoldable pub call : ℕ → ℕ → Told → List ℕ → List ℕ → List Place → CallCase
call key_room value_room told key value places = record {
  key_room = key_room;
  value_room = value_room;
  gives = record { told = told; key = key; value = value; places = places };
}

-- {a=1, c=3}, {a deleted, b=2}: b, c, End
unfoldable pub room_for_all : Case
room_for_all =
    record {
      runs = both_runs;
      calls = call 64 1024 (answered (1 ∷ 1 ∷ [])) (0x62 ∷ []) (0x32 ∷ []) (At 8 ∷ At 15 ∷ [])
          ∷ call 64 1024 (answered (1 ∷ 1 ∷ [])) (0x63 ∷ []) (0x33 ∷ []) (At 16 ∷ Gone ∷ [])
          ∷ call 64 1024 (answered []) [] [] (Gone ∷ Gone ∷ [])
          ∷ [];
    }

-- the same with a key buffer of 0 first: 2, both runs past a; with room: b
unfoldable pub no_room_first : Case
no_room_first =
    record {
      runs = both_runs;
      calls = call 0 1024 (record { number = 2; values = [] }) [] [] (At 8 ∷ At 7 ∷ []) ∷ call 64 1024 (answered (1 ∷ 1 ∷ [])) (0x62 ∷ []) (0x32 ∷ []) (At 8 ∷ At 15 ∷ []) ∷ [];
    }

unfoldable pub reference_cases : List Case
reference_cases = room_for_all ∷ no_room_first ∷ []

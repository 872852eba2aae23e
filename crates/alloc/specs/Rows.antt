-- The reference cases of the allocator (docs/RULES.md, Reference cases), as data: calls on a new allocator, and what they answer;
-- further, rows of the calls for several pages, on the same numbers. Assumes nothing.
use Rattle.std.specs.Prelude.{List, [], ◌∷◌, negsuc}
use Rattle.types.specs.declared.refusal.Refusal.TheVariants.{Corrupted, OutOfRange}
use Rattle.types.specs.Answers.{Told, answered, refusal}
use Rattle.alloc.specs.History.{Call, reset, try_allocate, free, free_pages, margin, try_allocate_each, free_each, answers_to}
use Rattle.alloc.specs.State.{all_free}

pub record Row : Type 0 where
  pub calls : List Call
  pub answers : List Told

-- what the definitions make of a row's calls
unfoldable pub result_of : Row → List Told
result_of row = answers_to (all_free 0 0) row.calls

-- reset(4, 7): pages 3, 0, 1, 2, none; free page 1, next page 1
abbrev pub in_turn : Row
in_turn =
    record {
      calls = reset 4 7 ∷ try_allocate ∷ try_allocate ∷ try_allocate ∷ try_allocate ∷ try_allocate ∷ free 1 ∷ try_allocate ∷ [];
      answers = answered [] ∷ answered (3 ∷ []) ∷ answered (0 ∷ []) ∷ answered (1 ∷ []) ∷ answered (2 ∷ []) ∷ answered [] ∷ answered [] ∷ answered (1 ∷ []) ∷ [];
    }

-- 100 pages free, 101 wanted: -1
abbrev pub too_few : Row
too_few =
    record {
      calls = reset 100 0 ∷ free_pages ∷ margin 101 ∷ [];
      answers = answered [] ∷ answered (100 ∷ []) ∷ record { number = 0; values = negsuc 0 ∷ [] } ∷ [];
    }

abbrev pub reference_rows : List Row
reference_rows = in_turn ∷ too_few ∷ []

-- ---- several pages

-- reset(4, 7), and six places: pages 3, 0, 1, 2; page 1 freed by itself is the next one
abbrev pub each_in_turn : Row
each_in_turn =
    record {
      calls = reset 4 7 ∷ try_allocate_each 6 ∷ try_allocate_each 1 ∷ free_each (1 ∷ []) ∷ try_allocate_each 0 ∷ try_allocate_each 2 ∷ [];
      answers =
          answered []
          ∷ answered (4 ∷ 3 ∷ 0 ∷ 1 ∷ 2 ∷ [])
          ∷ answered (0 ∷ [])
          ∷ answered []
          ∷ answered (0 ∷ [])
          ∷ answered (1 ∷ 1 ∷ [])
          ∷ [];
    }

-- a page twice is 1, a page that is not there is 4, whichever comes first, and then no page is freed
abbrev pub all_or_none : Row
all_or_none =
    record {
      calls =
          reset 4 7 ∷ try_allocate_each 4 ∷ free_each (0 ∷ 2 ∷ 0 ∷ []) ∷ free_each (0 ∷ 4 ∷ []) ∷ free_each (0xFFFF ∷ 0 ∷ 0 ∷ []) ∷ free_each (0 ∷ 0 ∷ 4 ∷ []) ∷ free_pages
          ∷ free_each (3 ∷ 0 ∷ []) ∷ free_each [] ∷ free_pages ∷ [];
      answers =
          answered []
          ∷ answered (4 ∷ 3 ∷ 0 ∷ 1 ∷ 2 ∷ [])
          ∷ refusal Corrupted
          ∷ refusal OutOfRange
          ∷ refusal OutOfRange
          ∷ refusal Corrupted
          ∷ answered (0 ∷ [])
          ∷ answered []
          ∷ answered []
          ∷ answered (2 ∷ [])
          ∷ [];
    }

abbrev pub several_rows : List Row
several_rows = each_in_turn ∷ all_or_none ∷ []

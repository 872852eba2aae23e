-- What each answer is told as (docs/RULES.md, Refusals, and the values of each call): every case of every answer
-- type as a row of one table, with its number and its values. Assumes nothing.
use Rattle.types.specs.Checks.{corruption}
use Rattle.std.specs.Prelude.{true, false, List, [], ◌∷◌, map, ℕ, ℤ, pos, negsuc, Ok, Err, Some, None}
use Rattle.types.specs.Answers.{Told, refusal, outcome_told, page_of_told, maybe_told}
use Rattle.types.specs.declared.refusal.Refusal.TheVariants as row
use Rattle.page.specs.Answers.{step_told, ending_told}
use Rattle.reader.specs.Answers as reader
use Rattle.reader.specs.declared.answers.EndTest.TheVariants as end_test
use Rattle.writer.specs.Answers.{taking_told, length_told}
use Rattle.alloc.specs.Answers as alloc
use Rattle.alloc.specs.declared.answers.Usage.TheVariants as usage
use Rattle.run.specs.Answers.{head_told, sought_told}
use Rattle.cursor.specs.Answers.{next_told}

-- what a definition makes of an answer, and the number and the values that it must be told as
pub record AnswerRow : Type 0 where
  pub told : Told
  pub number : ℕ
  pub values : List ℤ

-- answered with these values, where none is below zero
abbrev pub says : Told → List ℕ → AnswerRow
says told values = record { told = told; number = 0; values = map pos values }

-- refused with this number
abbrev pub refuses : Told → ℕ → AnswerRow
refuses told number = record { told = told; number = number; values = [] }

abbrev pub answers : List AnswerRow
answers =
    refuses (refusal row.Corrupted) 1
    ∷ refuses (refusal row.KeyBufferTooSmall) 2
    ∷ refuses (refusal row.ValueBufferTooSmall) 3
    ∷ refuses (refusal row.OutOfRange) 4
    ∷ refuses (refusal row.BadFlash) 5
    ∷ refuses (refusal row.BadHeader) 6
    ∷ refuses (refusal row.BadCount) 7
    ∷ refuses (refusal row.LaterEdition) 8
    ∷ refuses (refusal row.Cut) 9
    ∷ refuses (refusal row.BadRuns) 10
    ∷ refuses (refusal row.BadState) 11
    -- reset, mark_used, free, free_each; open, read_header, rehydrate_from; open_append, write_header, commit; new of a cursor
    ∷ says (outcome_told (Ok tt)) []
    ∷ refuses (outcome_told (Err row.Cut)) 9
    -- the checks before the work
    ∷ says (outcome_told (Ok tt)) []
    ∷ refuses (outcome_told (Err row.BadFlash)) 5
    -- page_id
    ∷ says (page_of_told (Ok (record { 0 = 255 }))) (255 ∷ [])
    ∷ refuses (page_of_told (Err row.BadState)) 11
    -- a raw page number
    ∷ says (maybe_told None) []
    ∷ says (maybe_told (Some (record { 0 = 3 }))) (3 ∷ [])
    -- the walk
    ∷ says (step_told (Ok None)) []
    ∷ refuses (step_told (Err corruption)) 1
    ∷ says (step_told (Ok (Some (record { len = 5; crc = 0x515AD3CC; next = 28 })))) (5 ∷ 0x515AD3CC ∷ 28 ∷ [])
    ∷ says (ending_told (Ok 24)) (24 ∷ [])
    ∷ refuses (ending_told (Err corruption)) 1
    -- read and skip
    ∷ says (reader.count_told (Ok 7)) (7 ∷ [])
    ∷ refuses (reader.count_told (Err row.Corrupted)) 1
    -- is_at_eof
    ∷ says (reader.end_test_told (Ok end_test.AtEnd)) (1 ∷ [])
    ∷ says (reader.end_test_told (Ok end_test.More)) (0 ∷ [])
    ∷ refuses (reader.end_test_told (Err row.OutOfRange)) 4
    -- dehydrate: page, ended, offset, len, crc, position
    ∷ says (reader.dehydration_told (Ok (record { page = record { 0 = 3 }; ended = false; offset = 12; len = 5; crc = 9; position = 2 })))
    (3 ∷ 0 ∷ 12 ∷ 5 ∷ 9 ∷ 2 ∷ [])
    ∷ says (reader.dehydration_told (Ok (record { page = record { 0 = 4 }; ended = true; offset = 24; len = 0; crc = 0; position = 0 })))
    (4 ∷ 1 ∷ 24 ∷ 0 ∷ 0 ∷ 0 ∷ [])
    ∷ refuses (reader.dehydration_told (Err row.BadState)) 11
    -- write
    ∷ says (taking_told (Ok 4076)) (4076 ∷ [])
    ∷ refuses (taking_told (Err row.Cut)) 9
    -- len
    ∷ says (length_told (Ok 40)) (40 ∷ [])
    ∷ refuses (length_told (Err row.BadState)) 11
    -- try_allocate
    ∷ says (alloc.allocated_told (Ok (Some (record { 0 = 3 })))) (3 ∷ [])
    ∷ says (alloc.allocated_told (Ok None)) []
    ∷ refuses (alloc.allocated_told (Err row.BadState)) 11
    -- is_used
    ∷ says (alloc.usage_told (Ok usage.Used)) (1 ∷ [])
    ∷ says (alloc.usage_told (Ok usage.Free)) (0 ∷ [])
    ∷ refuses (alloc.usage_told (Err row.OutOfRange)) 4
    -- used_pages, free_pages, page_count; try_allocate_each, which tells the pages too
    ∷ says (alloc.count_told (Ok 100)) (100 ∷ [])
    ∷ refuses (alloc.count_told (Err row.BadState)) 11
    ∷ says (alloc.pages_told (Ok 2) (3 ∷ 0 ∷ [])) (2 ∷ 3 ∷ 0 ∷ [])
    ∷ refuses (alloc.pages_told (Err row.BadState) (3 ∷ [])) 11
    -- margin
    ∷ record { told = alloc.margin_told (Ok (negsuc 0)); number = 0; values = negsuc 0 ∷ [] }
    ∷ says (alloc.margin_told (Ok (pos 12))) (12 ∷ [])
    ∷ refuses (alloc.margin_told (Err row.BadCount)) 7
    -- a head: deleted, where the key, the value and the next record start
    ∷ says (head_told (Ok None)) []
    ∷ says (head_told (Ok (Some (record { deleted = false; key = 6; value = 7; next = 8 })))) (0 ∷ 6 ∷ 7 ∷ 8 ∷ [])
    ∷ says (head_told (Ok (Some (record { deleted = true; key = 14; value = 15; next = 15 })))) (1 ∷ 14 ∷ 15 ∷ 15 ∷ [])
    ∷ refuses (head_told (Err row.LaterEdition)) 8
    -- search
    ∷ says (sought_told (Ok None)) []
    ∷ says (sought_told (Ok (Some 8))) (8 ∷ [])
    ∷ refuses (sought_told (Err row.Corrupted)) 1
    -- next
    ∷ says (next_told (Ok None)) []
    ∷ says (next_told (Ok (Some (record { key_len = 2; value_len = 5 })))) (2 ∷ 5 ∷ [])
    ∷ refuses (next_told (Err row.ValueBufferTooSmall)) 3
    ∷ []

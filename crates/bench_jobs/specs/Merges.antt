-- A merge of all runs, handed out entry by entry by the cursor's calls, with a sum of the entries. Assumes nothing.
use Rattle.cursor.specs.declared.answers.Entry.{Entry}
use Rattle.std.specs.Result.{is_ok}
use Rattle.std.specs.declared.option.Option.{Option}
use Rattle.cursor.specs.Answers.{NextAnswer}
use Rattle.std.specs.Prelude.{Bool, cond, true, false, List, [], ℕ, zero, suc, length, Ok, Err, Some, None, ⊤}
use Rattle.types.specs.Refusals.{number_of}
use Rattle.slices.specs.Fields.{field}
use Rattle.run.specs.Kinds.{Unbounded}
use Rattle.types.specs.Answers.{number_told}
use Rattle.cursor.specs.New.{new_of}
use Rattle.cursor.specs.Next.{next_of, next_key, next_value}
use Rattle.cursor.specs.declared.answers.Moved.{Moved}
use Rattle.bench_jobs.specs.Telling.{mixed}
use Rattle.bench_jobs.specs.declared.merging.Merging.{Merging}

-- a merge on its way, and the buffers
pub record MergeState : Type 0 where
  pub merging : Merging
  pub key : List ℕ
  pub value : List ℕ

abbrev pub merge_state : Merging → List ℕ → List ℕ → MergeState
merge_state m key value = record { merging = m; key = key; value = value }

-- the sum with an entry: the lengths of key and value, and the first four bytes of each buffer
unfoldable pub summed : ℕ → NextAnswer → List ℕ → List ℕ → ℕ
summed sum (Ok None) key value = sum
summed sum (Ok (Some entry)) key value = mixed (mixed (mixed (mixed sum entry.key_len) entry.value_len) (field 4 key 0)) (field 4 value 0)
summed sum (Err why) key value = mixed sum (number_of why)

abbrev pub is_entry : NextAnswer → Bool
is_entry (Ok None) = false
is_entry (Ok (Some entry)) = true
is_entry (Err why) = false

-- behind a call of next: only an entry goes on
abbrev pub after_next : ℕ → Moved (Option Entry) → List ℕ → List ℕ → MergeState
after_next sum moved key value =
    record {
      merging = record { cursor = moved.cursor; sum = summed sum moved.answer key value; on = is_entry moved.answer };
      key = key;
      value = value;
    }

-- one call of next, without an upper bound
unfoldable pub merge_one : List ℕ → List ℕ → MergeState → MergeState
merge_one runs ends s =
    after_next s.merging.sum (next_of runs ends Unbounded [] s.merging.cursor (length s.key) (length s.value))
    (next_key runs ends Unbounded [] s.merging.cursor s.key s.value)
    (next_value runs ends Unbounded [] s.merging.cursor s.key s.value)

-- at most n calls, while it goes on
unfoldable pub merge_on : ℕ → List ℕ → List ℕ → MergeState → MergeState
merge_on zero runs ends s = s
merge_on (suc n) runs ends s = cond s.merging.on (merge_on n runs ends (merge_one runs ends s)) s

-- a cursor over all runs, from the first key on; a refused one does not go on
abbrev pub merge_begun_by : Moved ⊤ → Merging
merge_begun_by made = record { cursor = made.cursor; sum = number_told made.answer; on = is_ok made.answer }

unfoldable pub merge_begun : List ℕ → List ℕ → Merging
merge_begun runs ends = merge_begun_by (new_of runs ends Unbounded [])

-- the job
abbrev pub merge_all : ℕ → List ℕ → List ℕ → List ℕ → List ℕ → MergeState
merge_all most runs ends key value = merge_on most runs ends (merge_state (merge_begun runs ends) key value)

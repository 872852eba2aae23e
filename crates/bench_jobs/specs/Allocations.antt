-- Every page allocated, and every page freed, by the allocator's calls, with a sum of their answers. Assumes nothing.
use Rattle.std.specs.declared.option.Option.{Option}
use Rattle.std.specs.declared.result.Result.{Result}
use Rattle.types.specs.declared.page_id.PageID.{PageID}
use Rattle.types.specs.declared.refusal.Refusal.{Refusal}
use Rattle.std.specs.Prelude.{ℕ, zero, suc, ◌+◌, Ok, Err, Some, None}
use Rattle.types.specs.Build.{max_page_count}
use Rattle.types.specs.Refusals.{number_of}
use Rattle.types.specs.Answers.{number_told}
use Rattle.alloc.specs.Calls.{reset, try_allocate, free}
use Rattle.alloc.specs.State.{all_free}
use Rattle.bench_jobs.specs.Telling.{mixed}
use Rattle.bench_jobs.specs.declared.allocating.Tally.{Tally}

-- an answer as one number
abbrev pub code_of : Result (Option PageID) Refusal → ℕ
code_of (Ok (Some page)) = page.0
code_of (Ok None) = 0x1_0000
code_of (Err why) = 0x1_0000 + number_of why

abbrev pub allocate_one : Tally → Tally
allocate_one t =
    record {
      allocator = (try_allocate t.allocator).allocator;
      sum = mixed t.sum (code_of (try_allocate t.allocator).answer);
    }

-- n pages handed out, one after the other
unfoldable pub allocate_first : ℕ → Tally → Tally
allocate_first zero t = t
allocate_first (suc n) t = allocate_one (allocate_first n t)

abbrev pub free_one : ℕ → Tally → Tally
free_one p t =
    record {
      allocator = (free t.allocator (record { 0 = p })).allocator;
      sum = mixed t.sum (number_told (free t.allocator (record { 0 = p })).answer);
    }

-- the first n pages freed, from page 0 on
unfoldable pub free_first : ℕ → Tally → Tally
free_first zero t = t
free_first (suc n) t = free_one n (free_first n t)

-- a new allocator that was reset
abbrev pub reset_tally : ℕ → ℕ → Tally
reset_tally count seed =
    record {
      allocator = (reset (all_free 0 0) count seed).allocator;
      sum = number_told (reset (all_free 0 0) count seed).answer;
    }

-- as many pages as there can be, and each of them back
unfoldable pub alloc_cycle : ℕ → ℕ → ℕ
alloc_cycle count seed = (free_first max_page_count (allocate_first max_page_count (reset_tally count seed))).sum

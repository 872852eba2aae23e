-- Pages allocated by one call, and freed by one. Assumes nothing.
use Rattle.std.specs.Result.{result_unwrap_or}
use Rattle.std.specs.declared.result.Result.{Result}
use Rattle.types.specs.declared.refusal.Refusal.{Refusal}
use Rattle.std.specs.Prelude.{List, ℕ, ◌+◌, length, take, Ok, Err, ⊤}
use Rattle.types.specs.Refusals.{number_of}
use Rattle.types.specs.Answers.{number_told}
use Rattle.alloc.specs.Calls.{free_pages}
use Rattle.alloc.specs.Several.{try_allocate_each, places_after, free_each}
use Rattle.alloc.specs.declared.allocator.Allocator.{Allocator}
use Rattle.alloc.specs.declared.answers.Change.{Change}
use Rattle.bench_jobs.specs.Allocations.{reset_tally}
use Rattle.bench_jobs.specs.Telling.{mixed}
use Rattle.bench_jobs.specs.declared.allocating.Tally.{Tally}

-- an answer as one number
abbrev pub count_code : Result ℕ Refusal → ℕ
count_code (Ok n) = n
count_code (Err why) = 0x1_0000 + number_of why

-- the sum with what freeing answers, and with how many pages are free then
abbrev pub summed_up : ℕ → Change ⊤ → ℕ
summed_up sum c = mixed (mixed sum (number_told c.answer)) (count_code (free_pages c.allocator))

-- the first n of these pages freed
abbrev pub given_back : ℕ → Allocator → ℕ → List ℕ → ℕ
given_back sum a n places = summed_up sum (free_each a (take n places))

-- how many pages were handed out goes into the sum, and they are freed
abbrev pub each_sum : ℕ → Change ℕ → List ℕ → ℕ
each_sum sum given places = given_back (mixed sum (count_code given.answer)) given.allocator (result_unwrap_or given.answer 0) places

-- the job, once the allocator is reset
abbrev each_after : Tally → List ℕ → ℕ
each_after t places = each_sum t.sum (try_allocate_each t.allocator (length places)) (places_after t.allocator places)

-- the job
unfoldable pub alloc_each : ℕ → ℕ → List ℕ → ℕ
alloc_each count seed places = each_after (reset_tally count seed) places

-- the places after it
unfoldable pub each_places : ℕ → ℕ → List ℕ → List ℕ
each_places count seed places = places_after (reset_tally count seed).allocator places

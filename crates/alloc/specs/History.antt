-- Calls one after another, each on the allocator that the one before left. Assumes nothing.
use Rattle.std.specs.Prelude.{List, ℕ}
use Rattle.types.specs.Answers.{Told, outcome_told}
use Rattle.types.specs.Histories as histories
use Rattle.alloc.specs.Answers.{allocated_told, usage_told, count_told, pages_told, margin_told}
use Rattle.alloc.specs.Calls as calls
use Rattle.alloc.specs.Several as several
use Rattle.alloc.specs.declared.allocator.Allocator.{Allocator}

-- a call, with its arguments
pub data Call : Type 0 where
  reset : ℕ → ℕ → Call
  try_allocate : Call
  mark_used free is_used : ℕ → Call
  used_pages free_pages page_count : Call
  margin : ℕ → Call
  try_allocate_each : ℕ → Call
  free_each : List ℕ → Call

-- what it answers
unfoldable pub answer_to : Allocator → Call → Told
answer_to a (reset count seed) = outcome_told (calls.reset a count seed).answer
answer_to a try_allocate = allocated_told (calls.try_allocate a).answer
answer_to a (mark_used p) = outcome_told (calls.mark_used a (record { 0 = p })).answer
answer_to a (free p) = outcome_told (calls.free a (record { 0 = p })).answer
answer_to a (is_used p) = usage_told (calls.is_used a (record { 0 = p }))
answer_to a used_pages = count_told (calls.used_pages a)
answer_to a free_pages = count_told (calls.free_pages a)
answer_to a page_count = count_told (calls.page_count a)
answer_to a (margin wanted) = margin_told (calls.margin_of a wanted)
answer_to a (try_allocate_each n) = pages_told (several.try_allocate_each a n).answer (several.handed_by n a).pages
answer_to a (free_each pages) = outcome_told (several.free_each a pages).answer

-- the allocator that it leaves
unfoldable pub left_by : Allocator → Call → Allocator
left_by a (reset count seed) = (calls.reset a count seed).allocator
left_by a try_allocate = (calls.try_allocate a).allocator
left_by a (mark_used p) = (calls.mark_used a (record { 0 = p })).allocator
left_by a (free p) = (calls.free a (record { 0 = p })).allocator
left_by a (is_used p) = a
left_by a used_pages = a
left_by a free_pages = a
left_by a page_count = a
left_by a (margin wanted) = a
left_by a (try_allocate_each n) = (several.try_allocate_each a n).allocator
left_by a (free_each pages) = (several.free_each a pages).allocator

-- the same of a history of calls
abbrev pub answers_to : Allocator → List Call → List Told
answers_to a cs = histories.told_by_each left_by answer_to a cs

abbrev pub left_after : Allocator → List Call → Allocator
left_after a cs = histories.left_after left_by a cs

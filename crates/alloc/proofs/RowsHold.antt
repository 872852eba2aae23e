-- The reference cases of the allocator (docs/RULES.md, Reference cases) hold, and the calls for several pages on the same
-- numbers: computed. Assumes nothing.
use mathlib.Core.Path.{◌≡◌, refl}
use mathlib.Core.List.{map}
use Rattle.types.specs.Histories.{told_by_each}
use Rattle.alloc.specs.Calls.{reset, mark_used, free, try_allocate, is_used, used_pages, free_pages, page_count, margin_of}
use Rattle.alloc.specs.Checks.{state_check, own_page_check, wanted_check, count_check}
use Rattle.alloc.specs.History.{answer_to, left_by}
use Rattle.alloc.specs.Marks.{bits_of, marks_of, count_of, marking, freeing}
use Rattle.alloc.specs.Rows.{Row, result_of, reference_rows, several_rows}
use Rattle.alloc.specs.Search.{up_from, round_from, first_free}
use Rattle.alloc.specs.Several.{handed_by, try_allocate_each, free_on, free_each}
use Rattle.alloc.specs.State.{in_range}

pub rows-hold : map result_of reference_rows ≡ map (λ (row : Row). row.answers) reference_rows
unfolding result_of told_by_each answer_to left_by reset mark_used free try_allocate is_used used_pages free_pages page_count margin_of in_range state_check own_page_check wanted_check count_check
    up_from round_from first_free bits_of marks_of count_of marking freeing
rows-hold = refl

pub several-rows-hold : map result_of several_rows ≡ map (λ (row : Row). row.answers) several_rows
unfolding result_of told_by_each answer_to left_by reset free try_allocate free_pages handed_by try_allocate_each free_on free_each in_range state_check own_page_check count_check
    up_from round_from first_free bits_of marks_of count_of marking freeing
several-rows-hold = refl

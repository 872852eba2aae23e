-- The allocator's state: its range (docs/RULES.md, Ranges), and the states that calls leave. Assumes nothing.
use Rattle.std.specs.Prelude.{◌≡◌, Bool, ◌&&◌, ◌||◌, ℕ, ◌+◌, ◌-◌, ◌/◌, ◌%◌, ltb, leb, eqb, length, drop, replicate}
use Rattle.types.specs.Build.{max_page_count}
use Rattle.alloc.specs.Marks.{marks_of, count_of, marking, freeing}
use Rattle.alloc.specs.declared.allocator.Allocator.{Allocator}

-- ---- range

-- as every value of the type is: its marks are 32 bytes
abbrev pub Sized : Allocator → Type 0
Sized a = length a.pages ≡ max_page_count / 8

-- the next page is below the count, or both are 0
abbrev pub next_fits : ℕ → ℕ → Bool
next_fits next count = ltb next count || (eqb count 0 && eqb next 0)

-- the count is at most 256, next fits, used is the number of marks, and none is at or past the count
unfoldable pub in_range : Allocator → Bool
in_range a =
    leb a.page_count max_page_count
    && next_fits a.next_page_id a.page_count
    && eqb a.used (count_of (marks_of a.pages))
    && eqb (count_of (drop a.page_count (marks_of a.pages))) 0

-- ---- states

-- count pages, all of them free
abbrev pub all_free : ℕ → ℕ → Allocator
all_free count next = record { page_count = count; pages = replicate (max_page_count / 8) 0; used = 0; next_page_id = next }

-- page p is marked, and counted
abbrev pub marked : Allocator → ℕ → Allocator
marked a p =
    record { page_count = a.page_count; pages = marking a.pages p; used = a.used + 1; next_page_id = a.next_page_id }

-- page p is free again
abbrev pub freed : Allocator → ℕ → Allocator
freed a p =
    record { page_count = a.page_count; pages = freeing a.pages p; used = a.used - 1; next_page_id = a.next_page_id }

-- the next search starts past page p, round
abbrev pub moved_past : Allocator → ℕ → Allocator
moved_past a p = record { page_count = a.page_count; pages = a.pages; used = a.used; next_page_id = (p + 1) % a.page_count }

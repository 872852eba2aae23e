-- What each call answers and leaves (docs/RULES.md, Allocator): the refusal of its check, with the allocator as it was, or its
-- work. Assumes nothing.
use Rattle.std.specs.declared.option.Option.{Option}
use Rattle.std.specs.declared.result.Result.{Result}
use Rattle.std.specs.Prelude.{cond, ℕ, ◌-◌, ◌%◌, pos, ◌-ℤ◌, Ok, Err, Some, None, ℤ, ⊤}
use Rattle.types.specs.Checks.{refused_or}
use Rattle.types.specs.declared.page_id.PageID.{PageID}
use Rattle.types.specs.declared.refusal.Refusal.{Refusal}
use Rattle.types.specs.declared.refusal.Refusal.TheVariants.{Corrupted}
use Rattle.alloc.specs.Checks.{state_check, own_page_check, wanted_check, count_check}
use Rattle.alloc.specs.Marks.{marks_of, is_marked}
use Rattle.alloc.specs.Search.{round_from, first_free}
use Rattle.alloc.specs.State.{all_free, marked, freed, moved_past}
use Rattle.alloc.specs.declared.allocator.Allocator.{Allocator}
use Rattle.alloc.specs.declared.answers.Change.{Change}
use Rattle.alloc.specs.declared.answers.Usage.{Usage}
use Rattle.alloc.specs.declared.answers.Usage.TheVariants as usage

-- ---- calls that change the allocator

-- done, with this allocator
abbrev pub done : Allocator → Change ⊤
done a = record { answer = Ok tt; allocator = a }

-- refused, with the allocator as it was
abbrev pub refused_change : Allocator → Refusal → Change ⊤
refused_change a why = record { answer = Err why; allocator = a }

-- 1, with the allocator as it was
abbrev pub corrupted : Allocator → Change ⊤
corrupted a = refused_change a Corrupted

-- reset: all pages are free, and the next one is the seed modulo the count
unfoldable pub reset : Allocator → ℕ → ℕ → Change ⊤
reset a count seed = refused_or (count_check count) (refused_change a) (done (all_free count (seed % count)))

-- mark_used: 1 where the page is used already
unfoldable pub mark_used : Allocator → PageID → Change ⊤
mark_used a page = refused_or (own_page_check a page) (refused_change a) (cond (is_marked a.pages page.0) (corrupted a) (done (marked a page.0)))

-- free: 1 where the page is free already
unfoldable pub free : Allocator → PageID → Change ⊤
free a page = refused_or (own_page_check a page) (refused_change a) (cond (is_marked a.pages page.0) (done (freed a page.0)) (corrupted a))

-- the first free page from the next one on, round
abbrev pub next_free : Allocator → Option PageID
next_free a = first_free (marks_of a.pages) (round_from a.next_page_id a.page_count)

-- the page that a search finds is marked and handed out; where it finds none, nothing changes
abbrev pub handing_out : Allocator → Option PageID → Change (Option PageID)
handing_out a None = record { answer = Ok None; allocator = a }
handing_out a (Some page) = record { answer = Ok (Some page); allocator = moved_past (marked a page.0) page.0 }

-- refused, with the allocator as it was
abbrev pub refused_allocation : Allocator → Refusal → Change (Option PageID)
refused_allocation a why = record { answer = Err why; allocator = a }

-- try_allocate
unfoldable pub try_allocate : Allocator → Change (Option PageID)
try_allocate a = refused_or (state_check a) (refused_allocation a) (handing_out a (next_free a))

-- ---- calls that read it

-- is_used
unfoldable pub is_used : Allocator → PageID → Result Usage Refusal
is_used a page = refused_or (own_page_check a page) Err (cond (is_marked a.pages page.0) (Ok usage.Used) (Ok usage.Free))

-- used_pages, free_pages, page_count
unfoldable pub used_pages : Allocator → Result ℕ Refusal
used_pages a = refused_or (state_check a) Err (Ok a.used)

unfoldable pub free_pages : Allocator → Result ℕ Refusal
free_pages a = refused_or (state_check a) Err (Ok (a.page_count - a.used))

unfoldable pub page_count : Allocator → Result ℕ Refusal
page_count a = refused_or (state_check a) Err (Ok a.page_count)

-- margin: free pages minus wanted ones, below zero where they are too few
unfoldable pub margin_of : Allocator → ℕ → Result ℤ Refusal
margin_of a wanted = refused_or (wanted_check a wanted) Err (Ok (pos (a.page_count - a.used) -ℤ pos wanted))

-- The checks before a call's work, in their order (docs/RULES.md, Order of checks). Assumes nothing.
use Rattle.std.specs.Prelude.{◌&&◌, ℕ, ltb, leb, Ok}
use Rattle.types.specs.Build.{max_page_count}
use Rattle.types.specs.Checks.{asking, Verdict}
use Rattle.types.specs.declared.page_id.PageID.{PageID}
use Rattle.types.specs.declared.refusal.Refusal.TheVariants.{OutOfRange, BadCount, BadState}
use Rattle.alloc.specs.State.{in_range}
use Rattle.alloc.specs.declared.allocator.Allocator.{Allocator}

-- 11, of every call that takes a state but reset
unfoldable pub state_check : Allocator → Verdict
state_check a = asking (in_range a) BadState (Ok tt)

-- 4, where the page is none of the allocator's
abbrev pub there_check : Allocator → PageID → Verdict
there_check a page = asking (ltb page.0 a.page_count) OutOfRange (Ok tt)

-- 11, then 4, of a call that is given a page
unfoldable pub own_page_check : Allocator → PageID → Verdict
own_page_check a page = asking (in_range a) BadState (there_check a page)

-- 7, then 11, of margin
unfoldable pub wanted_check : Allocator → ℕ → Verdict
wanted_check a wanted = asking (leb wanted max_page_count) BadCount (asking (in_range a) BadState (Ok tt))

-- 7, of reset
unfoldable pub count_check : ℕ → Verdict
count_check count = asking (leb 1 count && leb count max_page_count) BadCount (Ok tt)

-- The checks of the page that a call is given, in their order, 5, 6, 4 (docs/RULES.md, Order of checks). Assumes nothing.
use Rattle.std.specs.Prelude.{ℕ, Ok}
use Rattle.types.specs.Checks.{asking, Verdict}
use Rattle.types.specs.declared.page_id.PageID.{PageID}
use Rattle.types.specs.declared.refusal.Refusal.TheVariants.{OutOfRange, BadFlash, BadHeader}
use Rattle.flash.specs.Geometry.{flash_fine, has_page}
use Rattle.page.specs.Headers.{header_fine}

-- a flash of n bytes has the page, or it is 4
abbrev pub page_check : ℕ → PageID → Verdict
page_check n page = asking (has_page n page.0) OutOfRange (Ok tt)

-- 5, 6, 4, of every call that opens a page on a flash of n bytes with h bytes of the higher header
unfoldable pub open_check : ℕ → ℕ → PageID → Verdict
open_check n h page = asking (flash_fine n) BadFlash (asking (header_fine h) BadHeader (page_check n page))

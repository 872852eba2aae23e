-- The checks before a call's work, in their order, 5, 6, 11, 4 (docs/RULES.md, Order of checks). Assumes nothing.
use Rattle.std.specs.Prelude.{◌&&◌, ℕ, eqb, Ok}
use Rattle.types.specs.Checks.{asking, Verdict}
use Rattle.types.specs.declared.refusal.Refusal.TheVariants.{BadFlash, BadHeader, BadState}
use Rattle.flash.specs.Geometry.{flash_fine}
use Rattle.page.specs.Checks.{page_check}
use Rattle.page.specs.Headers.{header_fine}
use Rattle.writer.specs.States.{in_range}
use Rattle.writer.specs.declared.page_writer.PageWriter.{PageWriter}

-- 11
abbrev pub state_check : PageWriter → Verdict
state_check w = asking (in_range w) BadState (Ok tt)

-- 6, of m header bytes, where m is not the writer's h or not allowed
abbrev pub length_check : ℕ → ℕ → Verdict
length_check m h = asking (eqb m h && header_fine m) BadHeader (Ok tt)

-- 5, 11, 4, of write and commit on a flash of n bytes
unfoldable pub writer_check : ℕ → PageWriter → Verdict
writer_check n w = asking (flash_fine n) BadFlash (asking (in_range w) BadState (page_check n w.page))

-- 5, 6, 11, 4, of write_header with m bytes
unfoldable pub heading_check : ℕ → PageWriter → ℕ → Verdict
heading_check n w m =
    asking (flash_fine n) BadFlash (asking (eqb m w.h && header_fine m) BadHeader (asking (in_range w) BadState (page_check n w.page)))

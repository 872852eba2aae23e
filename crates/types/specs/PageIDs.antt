-- Page numbers as they are written (types/mod.rs). Assumes nothing.
use Rattle.std.specs.Prelude.{Bool, cond, ℕ, eqb}
use Rattle.std.specs.declared.option.Option.{Option}
use Rattle.std.specs.declared.option.Option.TheVariants.{None, Some}
use Rattle.types.specs.declared.page_id.PageID.{PageID}

-- raw 0xFFFF is none
abbrev pub no_page : ℕ
no_page = 0xFFFF

abbrev pub is_none : ℕ → Bool
is_none raw = eqb raw no_page

-- a raw number as a page, or none
abbrev pub page_of_raw : ℕ → Option PageID
page_of_raw raw = cond (is_none raw) None (Some (record { 0 = raw }))

-- an optional page number as it is written
abbrev pub raw_of : Option PageID → ℕ
raw_of None = no_page
raw_of (Some page) = page.0

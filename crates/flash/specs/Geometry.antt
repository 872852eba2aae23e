-- The lent flash: 1 to 256 whole pages (docs/FORMAT.md, Numbers and flash). Assumes nothing.
use Rattle.std.specs.Prelude.{Bool, ◌&&◌, List, ℕ, ◌*◌, ◌/◌, ◌%◌, eqb, leb, ltb, take, drop, Ok}
use Rattle.types.specs.Build.{page_size, max_page_count}
use Rattle.types.specs.Checks.{asking, Verdict}
use Rattle.types.specs.declared.refusal.Refusal.TheVariants.{BadFlash}

-- whether n bytes are 1 to 256 whole pages
abbrev pub flash_fine : ℕ → Bool
flash_fine n = eqb (n % page_size) 0 && leb page_size n && leb n (max_page_count * page_size)

-- a flash of n bytes is fine, or it is 5
abbrev pub flash_check : ℕ → Verdict
flash_check n = asking (flash_fine n) BadFlash (Ok tt)

-- how many whole pages n bytes are
abbrev pub whole_pages : ℕ → ℕ
whole_pages n = n / page_size

-- whether a flash of n bytes has page p
abbrev pub has_page : ℕ → ℕ → Bool
has_page n p = ltb p (whole_pages n)

-- where page p starts
abbrev pub page_start : ℕ → ℕ
page_start p = p * page_size

-- the bytes of the page that starts at base
abbrev pub page_from : ℕ → List ℕ → List ℕ
page_from base xs = take page_size (drop base xs)

-- the bytes of page p
abbrev pub page_of : ℕ → List ℕ → List ℕ
page_of p xs = page_from (page_start p) xs

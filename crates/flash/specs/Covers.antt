-- The bytes that an operation puts on its page, and where: it covers these and no others. Assumes nothing.
use Rattle.std.specs.Prelude.{List, ℕ, ◌-◌, take}
use Rattle.types.specs.Build.{page_size}
use Rattle.flash.specs.Operations.{Op, erase, store}
use Rattle.slices.specs.Patch.{blank}

-- the offset in the page from which on it puts them
abbrev pub op_at : Op → ℕ
op_at (erase e) = 0
op_at (store at bytes) = at

-- the bytes: a whole page of the erase value, or those of a store that the page has room for
abbrev pub op_bytes : Op → List ℕ
op_bytes (erase e) = blank e page_size
op_bytes (store at bytes) = take (page_size - at) bytes

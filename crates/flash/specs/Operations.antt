-- Stores and erases, lists of them, and the number of them that is left (docs/RULES.md, Stores left).
-- An erase carries the value e that it leaves, so that every law holds for any. Assumes nothing.
use Rattle.std.specs.Prelude.{Bool, true, false, cond, ◌&&◌, List, [], ◌∷◌, ℕ, ◌+◌, ◌-◌, leb, length, take}
use Rattle.types.specs.Build.{page_size}
use Rattle.flash.specs.Geometry.{has_page, page_start}
use Rattle.slices.specs.Patch.{patch, blank}
use Rattle.flash.specs.declared.ops.Spent.{Spent}

-- an operation on a page: its erase, which leaves a value, or a store of bytes at an offset in it
pub data Op : Type 0 where
  erase : ℕ → Op
  store : ℕ → List ℕ → Op

-- an operation that is due, or is not
abbrev pub op_if : Bool → Op → List Op
op_if true op = op ∷ []
op_if false op = []

-- the flash after an operation on the page that starts at base; no store passes its page's end
abbrev pub made : ℕ → Op → List ℕ → List ℕ
made base (erase e) xs = patch base (blank e page_size) xs
made base (store at bytes) xs = patch (base + at) (take (page_size - at) bytes) xs

-- the flash after operations, in their order
abbrev pub applied : ℕ → List Op → List ℕ → List ℕ
applied base [] xs = xs
applied base (op ∷ ops) xs = applied base ops (made base op xs)

-- what is handed back where `left` operations were allowed: whether all were made, and how many are left
abbrev pub spent : ℕ → List Op → Spent
spent left ops = record { ok = leb (length ops) left; left = left - length ops }

-- the flash where `left` operations were allowed: the first ones are made
abbrev pub allowed : ℕ → ℕ → List Op → List ℕ → List ℕ
allowed base left ops xs = applied base (take left ops) xs

-- ---- operations that a caller asks for, on any page

-- whether an operation on page p lies on a flash of n bytes: the flash has the page, and a store does not pass the page's end
abbrev pub lies_on : ℕ → ℕ → Op → Bool
lies_on n p (erase e) = has_page n p
lies_on n p (store at bytes) = has_page n p && leb (at + length bytes) page_size

-- whether all of these operations lie on it
abbrev pub all_lie_on : ℕ → ℕ → List Op → Bool
all_lie_on n p [] = true
all_lie_on n p (op ∷ ops) = lies_on n p op && all_lie_on n p ops

-- what is handed back for operations on page p of a flash of n bytes: where one does not lie on it, none is made and none is counted
abbrev pub spent_on : ℕ → ℕ → ℕ → List Op → Spent
spent_on n p left ops = cond (all_lie_on n p ops) (spent left ops) (record { ok = false; left = left })

-- the flash after them: as it was, where one does not lie on it
abbrev pub allowed_on : ℕ → ℕ → List Op → List ℕ → List ℕ
allowed_on p left ops xs = cond (all_lie_on (length xs) p ops) (allowed (page_start p) left ops xs) xs

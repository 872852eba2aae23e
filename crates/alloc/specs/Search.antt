-- The search (docs/RULES.md, Allocator): from the next page on and round, the first page that is free. Assumes nothing.
use Rattle.std.specs.declared.option.Option.{Option}
use Rattle.types.specs.declared.page_id.PageID.{PageID}
use Rattle.std.specs.Prelude.{Bool, false, cond, List, [], ◌∷◌, ◌++◌, ℕ, zero, suc, ◌-◌, get_or, Some, None}

-- k numbers, from n on
unfoldable pub up_from : ℕ → ℕ → List ℕ
up_from n zero = []
up_from n (suc k) = n ∷ up_from (suc n) k

-- every page once, from next on and round
unfoldable pub round_from : ℕ → ℕ → List ℕ
round_from next count = up_from next (count - next) ++ up_from 0 next

-- the first of these pages that has no mark
unfoldable pub first_free : List Bool → List ℕ → Option PageID
first_free marks [] = None
first_free marks (p ∷ ps) = cond (get_or marks p false) (first_free marks ps) (Some (record { 0 = p }))

-- The numbers of the build fit each other. Assumes nothing.
use Prim.Native.Nat.{◌+◌, ◌^◌, ◌≤◌, ◌<◌}
use lib.Dec.{lit≤, lit<}
use Rattle.types.specs.Build.{branching_factor, level_count, max_page_count}

-- a file of the highest level has room in the largest flash, and one of a further level has none
pub levels-fill : (branching_factor ^ level_count ≤ max_page_count) × (max_page_count < branching_factor ^ (level_count + 1))
levels-fill = (lit≤ tt, lit< tt)

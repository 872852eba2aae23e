-- The group buffer: what is left over of a write. Assumes nothing.
use mathlib.Core.Path.{◌≡◌}
use mathlib.Core.List.{List}
use Prim.Native.Nat.{ℕ, ◌-◌}
use native.Mathlib.Omega.{arith}
use lib.ListN.{length, take, drop, length-drop}
use lib.Seq.{take_all}
use Rattle.slices.proofs.OverLaws.{patch-start}
use Rattle.slices.specs.Patch.{over, patch}

-- all from an index on
pub take_rest : (from : ℕ) (xs : List ℕ) → take (length xs - from) (drop from xs) ≡ drop from xs
take_rest from xs = take_all (length xs - from) (drop from xs) (rw length-drop (omega arith))

-- bytes put at the start go over it
pub patch_start : (bytes xs : List ℕ) → patch 0 bytes xs ≡ over bytes xs
patch_start bytes xs = patch-start bytes xs

-- `cursor::merge::placed`: what is left of the searches comes to the whole. Assumes nothing.
use mathlib.Core.Path.{◌≡◌}
use Prim.Native.Nat.{◌-◌, ◌≤◌}
use lib.ListN.{length}
use Rattle.types.specs.Build.{file_count}
use Rattle.std.specs.Range.Bound.{bound_map}
use Rattle.run.specs.Kinds.{kind_of, key_of}
use Rattle.cursor.specs.New.{new_from, new_of}
use Rattle.cursor.proofs.merge.placed.Given as goal

abbrev pub invariant-loop-i : goal.invariant-loop-i
invariant-loop-i l =
    let key = key_of (bound_map (λ x. x.now) l.lower) in
    (length l.ends ≤ file_count) × (new_from l.runs l.ends (kind_of l.lower) key (length l.ends - l.i) l.i l.places ≡ new_of l.runs l.ends (kind_of l.lower) key)

-- Calls one after another, each on what the one before left. Assumes nothing.
use Rattle.std.specs.Prelude.{List, [], ◌∷◌}

module _ {World Call : Type 0} where
  -- what calls leave, where one call leaves left_by
  unfoldable pub left_after : (World → Call → World) → World → List Call → World
  left_after left_by x [] = x
  left_after left_by x (call ∷ calls) = left_after left_by (left_by x call) calls

module _ {World Call Told : Type 0} where
  -- what each of them tells, where one call tells told_by
  unfoldable pub told_by_each : (World → Call → World) → (World → Call → Told) → World → List Call → List Told
  told_by_each left_by told_by x [] = []
  told_by_each left_by told_by x (call ∷ calls) = told_by x call ∷ told_by_each left_by told_by (left_by x call) calls

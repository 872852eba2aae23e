-- A part of lent bytes is cut to what there is, so it is never longer than was asked. Assumes nothing.
use mathlib.Core.Path.{◌≡◌, sym, ap, ◌∙◌}
use mathlib.Core.List.{List}
use mathlib.Core.Logic.{⊎_elim}
use Prim.Native.Nat.{ℕ, ◌+◌, ◌-◌, ◌≤◌, ◌<◌, min}
use native.Mathlib.Nat.{min-le_left}
use native.Mathlib.Omega.{arith}
use lib.ListN.{length, take, drop, length-take, length-drop, drop_of_length-le}
use lib.Seq.{take-nil}
use Rattle.types.proofs.TestLaws.{le-or-lt}
use Rattle.slices.specs.Parts.{part_to}
use Rattle.slices.proofs.PatchLaws.{take-least}

-- a part from a start that is not past the end, to an end that is not past it either
pub part-lent : (xs : List ℕ) (from count start end : ℕ) → start ≡ min from (length xs) → end ≡ start + min count (length xs - start)
    → take (end - start) (drop start xs) ≡ take count (drop from xs)
part-lent xs from count start end s e =
    ⊎_elim
    (λ (inside : from ≤ length xs).
    let a : start ≡ from = omega arith in
    let l : length (drop from xs) ≡ length xs - from = length-drop from xs in
    let k : end - start ≡ min (length (drop from xs)) count = omega arith in
    ap (λ (i : ℕ). take (end - start) (drop i xs)) a ∙ take-least (end - start) count (drop from xs) k)
    (λ (past : length xs < from).
    let a : length xs ≤ start = omega arith in
    let b : length xs ≤ from = omega arith in
    ap (take (end - start)) (drop_of_length-le xs a) ∙ take-nil (end - start) ∙ sym (ap (take count) (drop_of_length-le xs b) ∙ take-nil count))
    (le-or-lt from (length xs))

pub part-fits : (bytes : List ℕ) (from to : ℕ) → length (part_to bytes from to) ≤ to - from
unfolding part_to
part-fits bytes from to = rw (length-take (to - from) (drop from bytes)) (min-le_left (to - from) (length (drop from bytes)))

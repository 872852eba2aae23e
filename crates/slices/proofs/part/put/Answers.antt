-- `slices::part::put`: after i turns the first i bytes are put. Assumes nothing.
use Prim.Native.Nat.{ℕ}
use mathlib.Core.Path.{refl, ap, ◌∙◌}
use mathlib.Core.List.{List}
use native.Mathlib.Omega.{arith}
use lib.ListN.{get_or, set, length-set}
use Rattle.slices.proofs.PatchLaws.{put-start, put-turn, put-end}
use Rattle.slices.proofs.part.put.Goals as goal

pub loop-i-init : goal.loop-i-init
loop-i-init c =
    let a = c.args in
    (omega arith, (c.min-n.ensures, (refl, put-start a.bytes.now a.part.now)))

pub loop-i-preserved : goal.loop-i-preserved
loop-i-preserved c =
    let a = c.args in (
      omega arith,
      (
        c.loop-i.invariant.1.0,
        (
          simp length-set c.loop-i.invariant.1.1.0,
          ap (λ (x : List ℕ). set x c.loop-i.i (get_or a.bytes.now c.loop-i.i 0)) c.loop-i.invariant.1.1.1
              ∙ put-turn a.bytes.now a.part.now c.loop-i.i (omega arith) (omega arith),
        ),
      ),
    )

pub shape_of-part : goal.shape_of-part
shape_of-part c = c.loop-i.invariant.1.1.0

pub returns : goal.returns
returns c = record {
  bytes =
      let a = c.args in
      c.loop-i.invariant.1.1.1 ∙ put-end a.bytes.now a.part.now c.loop-i.i (omega arith);
}

-- `digits::hex::encode`: after i turns the first i bytes are laid out. Assumes nothing.
use mathlib.Core.Path.{refl, ◌∙◌}
use native.Mathlib.Omega.{arith}
use lib.ListN.{length-set}
use Rattle.slices.proofs.PatchLaws.{put-start}
use Rattle.digits.specs.Hex.{hex_of}
use Rattle.digits.proofs.HexLaws.{encode-turn, encode-end}
use Rattle.digits.proofs.hex.encode.Goals as goal

pub loop-i-init : goal.loop-i-init
loop-i-init c =
    let a = c.args in
    (omega arith, (c.min-n.ensures, (refl, put-start (hex_of a.bytes.now) a.out.now)))

pub bounds-out-i-in-loop-i : goal.bounds-out-i-in-loop-i
bounds-out-i-in-loop-i c = simp length-set (omega arith)

pub loop-i-preserved : goal.loop-i-preserved
loop-i-preserved c =
    let a = c.args in (
      omega arith,
      (
        c.loop-i.invariant.1.0,
        (
          simp length-set c.loop-i.invariant.1.1.0,
          rw (c.low_digit.ensures.answers, c.high_digit.ensures.answers, c.loop-i.invariant.1.1.1) (encode-turn a.bytes.now a.out.now c.loop-i.i (omega arith) (omega arith)),
        ),
      ),
    )

pub shape_of-out : goal.shape_of-out
shape_of-out c = c.loop-i.invariant.1.1.0

pub returns : goal.returns
returns c =
    let a = c.args in
    let n = c.min-n.result in
    record {
      answers = rw c.min-n.ensures;
      bytes = c.loop-i.invariant.1.1.1 ∙ encode-end a.bytes.now a.out.now c.loop-i.i (omega arith);
    }

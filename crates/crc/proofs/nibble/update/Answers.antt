-- `crc::nibble::update`: the bytes that are left lead to the result. Assumes nothing.
use mathlib.Core.Path.{◌∙◌, ap}
use Prim.Native.Nat.{ℕ, ◌+◌}
use native.Mathlib.Omega.{arith}
use lib.ListN.{drop}
use Rattle.crc.specs.Register.{updated}
use Rattle.crc.proofs.RegisterLaws.{updated-turn, updated-end}
use Rattle.crc.proofs.nibble.update.Goals as goal

pub loop-i-preserved : goal.loop-i-preserved
loop-i-preserved c =
    let a = c.loop-i in
    let d = c.args.bytes.now in
    ap (λ (x : ℕ). updated x (drop (a.i + 1) d)) c.take-x.ensures.answers ∙ updated-turn d a.i a.x (omega arith) ∙ a.invariant

pub returns : goal.returns
returns c = record { answers = let a = c.loop-i in updated-end c.args.bytes.now a.i a.x (omega arith) ∙ a.invariant }

-- `crc::bitwise::update`: the bytes that are left lead to the result. Assumes nothing.
use mathlib.Core.Path.{◌∙◌, ap}
use Prim.Native.Nat.{ℕ, ◌+◌}
use native.Mathlib.Omega.{arith}
use lib.ListN.{drop}
use Rattle.crc.specs.Register.{updated}
use Rattle.crc.proofs.RegisterLaws.{updated-turn, updated-end}
use Rattle.crc.proofs.bitwise.update.Goals as goal

pub loop-b-preserved : goal.loop-b-preserved
loop-b-preserved c =
    let a = c.loop-b in
    let d = c.args.bytes.now in
    ap (λ (x : ℕ). updated x (drop (a.b-index + 1) d)) c.take-x.ensures.answers ∙ updated-turn d a.b-index a.x (omega arith) ∙ a.invariant

pub returns : goal.returns
returns c = record { answers = let a = c.loop-b in updated-end c.args.bytes.now a.b-index a.x (omega arith) ∙ a.invariant }

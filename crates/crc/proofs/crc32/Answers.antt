-- `crc::crc32`: the register agrees with the published division. Assumes nothing.
use mathlib.Core.Path.{◌∙◌, ap}
use Prim.Native.Nat.{ℕ}
use native.Mathlib.Omega.{arith}
use Rattle.crc.specs.Register.{updated, finished}
use Rattle.crc.proofs.DividesLaws.{lent-is-published}
use Rattle.crc.proofs.crc32.Goals as goal

pub returns : goal.returns
returns c = record {
  answers =
      let bytes = c.args.bytes.now in
      c.finish.ensures.answers
      ∙ ap finished (c.update.ensures.answers ∙ ap (λ (x : ℕ). updated x bytes) c.new.ensures.answers)
      ∙ lent-is-published bytes (λ i. omega (arith, c.shared_slice_known-1.given i));
}

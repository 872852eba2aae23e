use mathlib.Core.Path.{◌∙◌, ap}
use Prim.Native.Nat.{ℕ}
use native.Mathlib.Omega.{arith}
use Rattle.crc.specs.Register.{updated, finished}
use Rattle.crc.proofs.DividesLaws.{lent-is-published}
use Rattle.bench_jobs.proofs.sums.puffcradle_crc32_nibble.Goals as goal

pub returns : goal.returns
returns c =
    record {
      answers =
          let bytes = c.args.bytes.now in
          c.finish.ensures.answers
          ∙ ap finished (c.update.ensures.answers ∙ ap (λ (x : ℕ). updated x bytes) c.new-start.ensures.answers)
          ∙ lent-is-published bytes (λ i. omega (arith, c.shared_slice_known-1.given i));
    }

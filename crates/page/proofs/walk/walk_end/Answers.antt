-- `page::walk::walk_end`: the walk from `at` ends where the whole one does. Assumes nothing.
use mathlib.Core.Path.{◌≡◌, sym, ap, ◌∙◌}
use native.Mathlib.Omega.{arith}
use Rattle.std.specs.Prelude.{Ok, Err, Some, None}
use Rattle.types.specs.Checks.{corruption}
use Rattle.page.specs.Chunks.{chunk_at}
use Rattle.page.specs.Walks.{Walked}
use Rattle.page.proofs.ChunkLaws.{next_up}
use Rattle.page.proofs.WalkLaws.{walk-end, walk-bad, walk-chunk}
use Rattle.page.proofs.walk.walk_end.Goals as goal

pub returns-in-Ok-None : goal.returns-in-Ok-None
returns-in-Ok-None c =
    record {
      answers =
          let found : chunk_at c.args.page.now c.loop-chunk.at ≡ Ok None = sym c.chunk_at.ensures.answers ∙ (c.in-Ok-None.is ∙ ap Ok c.in-Ok-None.field-0-is) in
          sym (ap (λ (w : Walked). w.ending) (walk-end c.args.page.now c.loop-chunk.at found)) ∙ c.loop-chunk.invariant;
    }

pub returns-in-Err : goal.returns-in-Err
returns-in-Err c =
    let found : chunk_at c.args.page.now c.loop-chunk.at ≡ Err corruption = sym c.chunk_at.ensures.answers ∙ c.in-Err.is in
    let ends = sym (ap (λ (w : Walked). w.ending) (walk-bad c.args.page.now c.loop-chunk.at found)) ∙ c.loop-chunk.invariant in
    record { answers = ends }

pub loop-chunk-smaller : goal.loop-chunk-smaller
loop-chunk-smaller c =
    let chunk = c.in-Ok-Some.chunk in
    let found : chunk_at c.args.page.now c.loop-chunk.at ≡ Ok (Some chunk) = sym c.chunk_at.ensures.answers ∙ (c.in-Ok-Some.is ∙ ap Ok c.in-Ok-Some.field-0-is) in
    omega (arith, next_up c.args.page.now c.loop-chunk.at chunk.len chunk.crc chunk.next found)

pub loop-chunk-preserved : goal.loop-chunk-preserved
loop-chunk-preserved c =
    let chunk = c.in-Ok-Some.chunk in
    let found : chunk_at c.args.page.now c.loop-chunk.at ≡ Ok (Some chunk) = sym c.chunk_at.ensures.answers ∙ (c.in-Ok-Some.is ∙ ap Ok c.in-Ok-Some.field-0-is) in
    sym (ap (λ (w : Walked). w.ending) (walk-chunk c.args.page.now c.loop-chunk.at chunk.len chunk.crc chunk.next found)) ∙ c.loop-chunk.invariant

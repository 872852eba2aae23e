use mathlib.Core.Path.{ap, ◌∙◌}
use mathlib.Core.List.{List}
use Prim.Native.Nat.{ℕ}
use lib.ListN.{take, drop}
use Rattle.page.proofs.ChunkLaws.{payload-part}
use Rattle.page.proofs.chunk.payload_at.Goals as goal

pub returns : goal.returns
returns c =
    record {
      answers =
          let a = c.args in
          c.part_of-2.ensures.answers ∙ ap (λ (l : List ℕ). take a.len (drop 8 l)) c.part_of.ensures.answers ∙ payload-part a.page.now a.at a.len;
    }

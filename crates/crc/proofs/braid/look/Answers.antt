use mathlib.Core.Path.{◌∙◌, ap}
use mathlib.Core.List.{List}
use Prim.Native.Nat.{ℕ, ◌+◌, ◌*◌, ◌%◌}
use native.Mathlib.Omega.{arith}
use lib.ListN.{get_or}
use Rattle.crc.proofs.BraidLaws.{at-far}
use Rattle.crc.proofs.EntryLaws.{far-entries}
use Rattle.crc.proofs.braid.look.Goals as goal

pub returns : goal.returns
returns c = record {
  answers =
      let a = c.args in
      ap (λ (l : List ℕ). get_or l (a.k * 16 + a.x % 16) 0) far-entries ∙ at-far a.k (a.x % 16) c.requires (omega arith);
}

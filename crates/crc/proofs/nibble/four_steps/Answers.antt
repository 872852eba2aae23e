use mathlib.Core.Path.{◌∙◌, ap}
use mathlib.Core.List.{List}
use Prim.Native.Nat.{ℕ, ◌/◌, ◌%◌}
use lib.Bits.{bit_xor}
use lib.ListN.{get_or}
use Rattle.crc.proofs.EntryLaws.{nibble-entries}
use Rattle.crc.proofs.NibbleLaws.{four-by-table}
use Rattle.crc.proofs.nibble.four_steps.Goals as goal

pub returns : goal.returns
returns c = record {
  answers =
      let x = c.args.x in
      ap (λ (t : List ℕ). bit_xor (get_or t (x % 16) 0) (x / 16)) nibble-entries ∙ four-by-table x;
}

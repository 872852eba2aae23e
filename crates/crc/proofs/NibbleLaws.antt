-- Four bits at a time: the table's rule, and what goes by it. Assumes nothing.
use mathlib.Core.Path.{◌≡◌, sym, ap, ◌∙◌}
use Prim.Native.Nat.{ℕ, ◌/◌, ◌%◌, ◌<◌}
use native.Mathlib.Omega.{arith}
use lib.Bits.{bit_xor}
use lib.ListN.{get_or}
use Rattle.crc.specs.Register.{steps, taken}
use Rattle.crc.specs.Tables.{nibble_table}
use Rattle.crc.proofs.StepLaws.{steps-add, steps-by-table}
use Rattle.crc.proofs.TableLaws.{entry}

-- the table's rule, for all of its entries
pub at-nibble : (n : ℕ) → n < 16 → get_or nibble_table n 0 ≡ steps 4 n
unfolding nibble_table
at-nibble n h = entry (steps 4) 16 n h

-- four bits go by the table, and the rest comes down
pub four-by-table : (x : ℕ) → bit_xor (get_or nibble_table (x % 16) 0) (x / 16) ≡ steps 4 x
four-by-table x = ap (λ (e : ℕ). bit_xor e (x / 16)) (at-nibble (x % 16) (omega arith)) ∙ sym (steps-by-table 4 x)

-- a byte goes in as twice four bits
pub taken-halves : (c b : ℕ) → steps 4 (steps 4 (bit_xor c b)) ≡ taken c b
unfolding taken
taken-halves c b = sym (steps-add 4 4 (bit_xor c b))

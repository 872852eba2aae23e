-- The tables in the code: each entry is computed by its rule, and compared. Assumes nothing.
use mathlib.Core.Path.{◌≡◌, refl}
use Rattle.crc.specs.Register.{tap, stepped, steps}
use Rattle.crc.specs.Tables.{tables, nibble_table, far_tables}
use Rattle.crc.specs.declared.braid.TheConstants.{TABLES}
use Rattle.crc.specs.declared.nibble.TheConstants.{TABLE}

pub nibble-entries : TABLE ≡ nibble_table
unfolding tap stepped steps nibble_table
nibble-entries = refl

pub far-entries : TABLES ≡ far_tables
unfolding tap stepped steps tables far_tables
far-entries = refl

-- What a job tells in one number. Assumes nothing.
use Rattle.std.specs.declared.result.Result.{Result}
use Rattle.std.specs.Prelude.{Bool, true, ℕ, ◌+◌, ◌*◌, ◌%◌, Ok, Err, ⊤}
use Rattle.types.specs.declared.refusal.Refusal.{Refusal}

-- whether a job goes on that was begun, or why it was refused
abbrev pub begins : Result ⊤ Refusal → Result Bool Refusal
begins (Ok done) = Ok true
begins (Err why) = Err why

-- a running sum with one more number in it; the order in which numbers go in shows
abbrev pub mixed : ℕ → ℕ → ℕ
mixed sum x = sum % 0x1_0000_0000 * 31 + x % 0x1_0000_0000

-- the number of the row that refused, 0 where none did, above the lowest 32 bits of a number of bytes
abbrev pub packed : ℕ → ℕ → ℕ
packed why bytes = why * 0x1_0000_0000 + bytes % 0x1_0000_0000

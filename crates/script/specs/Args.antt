-- The arguments of a call: what a word of its line stands for (docs/ORACLE.md, Scripts). Assumes nothing.
use Rattle.digits.specs.declared.hex.DecodeError.{DecodeError}
use Rattle.std.specs.declared.option.Option.{Option}
use Rattle.std.specs.declared.result.Result.{Result}
use Rattle.types.specs.declared.page_id.PageID.{PageID}
use Rattle.std.specs.Prelude.{Bool, true, false, cond, ◌||◌, List, ℕ, eqb, leb, length, get_or, Ok, Err, Some, None}
use Rattle.digits.specs.Hex.{decoded_of, buffer_after}
use Rattle.digits.specs.declared.hex.DecodeError.TheVariants.{Bad, NoRoom}

-- a number up to a limit
abbrev pub up_to : ℕ → Option ℕ → Option ℕ
up_to limit (Some n) = cond (leb n limit) (Some n) None
up_to limit None = None

-- a page is a number of up to 16 bits
abbrev pub page_arg : Option ℕ → Option PageID
page_arg (Some n) = cond (leb n 65535) (Some (record { 0 = n })) None
page_arg None = None

-- a seed is a number of up to 32 bits
abbrev pub seed_of : Option ℕ → Option ℕ
seed_of (Some n) = cond (leb n 4294967295) (Some n) None
seed_of None = None

-- a magic is one of two
abbrev pub magic_of : Option ℕ → Option ℕ
magic_of (Some n) = cond (eqb n 161 || eqb n 4294967295) (Some n) None
magic_of None = None

-- a flag is the byte 1 or 0
abbrev pub flag_of : ℕ → Option Bool
flag_of byte = cond (eqb byte 49) (Some true) (cond (eqb byte 48) (Some false) None)

-- a flag's word has no other byte
abbrev pub flag_in : List ℕ → Option Bool
flag_in word = cond (eqb (length word) 1) (flag_of (get_or word 0 0)) None

-- whether a word is a dash, which stands for no bytes
abbrev pub is_dash : List ℕ → Bool
is_dash word = cond (eqb (length word) 1) (eqb (get_or word 0 0) 45) false

-- how many bytes were decoded
abbrev pub decoded_count : Result ℕ DecodeError → Option ℕ
decoded_count (Ok n) = Some n
decoded_count (Err Bad) = None
decoded_count (Err NoRoom) = None

-- how many bytes a word stands for: pairs of digits that a room of n bytes takes, or a dash
abbrev pub count_in : List ℕ → ℕ → Option ℕ
count_in word n = cond (is_dash word) (Some 0) (cond (eqb (length word) 0) None (decoded_count (decoded_of word n)))

-- the buffer afterwards: the bytes at its start, or all as it was
abbrev pub buffer_with : List ℕ → List ℕ → List ℕ
buffer_with word out = cond (is_dash word) out (cond (eqb (length word) 0) out (buffer_after (decoded_of word (length out)) word out))

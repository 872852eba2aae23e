-- Bytes in hex: two digits a byte, the high one first, in small letters. Assumes nothing.
use Rattle.digits.specs.declared.hex.DecodeError.{DecodeError}
use Rattle.std.specs.declared.option.Option.{Option}
use Rattle.std.specs.declared.result.Result.{Result}
use Rattle.std.specs.Prelude.{Bool, cond, ◌&&◌, List, [], ◌∷◌, ℕ, zero, suc, ◌+◌, ◌-◌, ◌*◌, ◌/◌, ◌%◌, eqb, leb, ltb, length, Ok, Err, Some, None}
use Rattle.std.specs.List.{list_all}
use Rattle.std.specs.Option.{is_some, unwrap_or}
use Rattle.slices.specs.Patch.{over}
use Rattle.digits.specs.declared.hex.DecodeError.TheVariants.{Bad, NoRoom}

-- what a digit counts, and none for any other byte: 0 to 9 are 48 to 57, a to f are 97 to 102
unfoldable pub digit_in : ℕ → Option ℕ
digit_in d = cond (leb 48 d && leb d 57) (Some (d - 48)) (cond (leb 97 d && leb d 102) (Some (d - 87)) None)

-- the digit of a number below 16
abbrev pub digit_of : ℕ → ℕ
digit_of n = cond (ltb n 10) (48 + n) (87 + n)

-- whether all are digits
abbrev pub all_digits : List ℕ → Bool
all_digits word = list_all (λ d. is_some (digit_in d)) word

-- the byte of two digits; another byte counts as 0
abbrev pub byte_in : ℕ → ℕ → ℕ
byte_in a b = unwrap_or (digit_in a) 0 * 16 + unwrap_or (digit_in b) 0

-- the bytes of pairs of digits
unfoldable pub bytes_in : List ℕ → List ℕ
bytes_in [] = []
bytes_in (a ∷ []) = []
bytes_in (a ∷ b ∷ word) = byte_in a b ∷ bytes_in word

-- what decoding a word into a buffer of n bytes answers
abbrev pub decoded_of : List ℕ → ℕ → Result ℕ DecodeError
decoded_of word n =
    cond (eqb (length word % 2) 0 && all_digits word)
    (cond (leb (length word / 2) n) (Ok (length word / 2)) (Err NoRoom))
    (Err Bad)

-- the buffer after an answer: the bytes at its start, or all as it was
abbrev pub buffer_after : Result ℕ DecodeError → List ℕ → List ℕ → List ℕ
buffer_after (Ok n) word out = over (bytes_in word) out
buffer_after (Err Bad) word out = out
buffer_after (Err NoRoom) word out = out

-- the last k digits of a number before others, the highest first
unfoldable pub digits_of : ℕ → ℕ → List ℕ → List ℕ
digits_of zero n rest = rest
digits_of (suc k) n rest = digits_of k (n / 16) (digit_of (n % 16) ∷ rest)

-- bytes as pairs of digits
unfoldable pub hex_of : List ℕ → List ℕ
hex_of [] = []
hex_of (b ∷ bytes) = digit_of (b / 16) ∷ digit_of (b % 16) ∷ hex_of bytes

-- Numbers as words: digits of a base, the highest first. Assumes nothing.
use Rattle.std.specs.declared.option.Option.{Option}
use Rattle.std.specs.Prelude.{true, false, cond, ◌&&◌, List, [], ◌∷◌, ℕ, suc, ◌+◌, ◌-◌, ◌*◌, ◌^◌, eqb, leb, ltb, ℤ, pos, negsuc, length, Some, None}
use Rattle.digits.specs.Hex.{digit_in}
use Rattle.digits.specs.declared.number.Apart.{Apart}

-- n with one digit more: none where there is no digit, where it is not one of the base, or where the number passes the most
abbrev pub with_digit : ℕ → ℕ → ℕ → Option ℕ → Option ℕ
with_digit base most n None = None
with_digit base most n (Some d) = cond (ltb d base && leb (n * base + d) most) (Some (n * base + d)) None

-- a number read on by the digits of a word
unfoldable pub read_digits : ℕ → ℕ → Option ℕ → List ℕ → Option ℕ
read_digits base most n [] = n
read_digits base most None (d ∷ word) = None
read_digits base most (Some n) (d ∷ word) = read_digits base most (with_digit base most n (digit_in d)) word

-- a word of at least one digit as a number
abbrev pub number_in : ℕ → ℕ → List ℕ → Option ℕ
number_in base most word = cond (eqb (length word) 0) None (read_digits base most (Some 0) word)

-- a decimal number of up to 64 bits
abbrev pub decimal_in : List ℕ → Option ℕ
decimal_in word = number_in 10 (2 ^ 64 - 1) word

-- eight digits in hex
abbrev pub word32_in : List ℕ → Option ℕ
word32_in word = cond (eqb (length word) 8) (number_in 16 (2 ^ 32 - 1) word) None

-- a number with its sign apart
abbrev pub apart_of : ℤ → Apart
apart_of (pos n) = record { below = false; size = n }
apart_of (negsuc n) = record { below = true; size = suc n }

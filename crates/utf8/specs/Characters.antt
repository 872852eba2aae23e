-- Characters in UTF-8: the first byte says how many bytes there are, and each byte behind it starts with the bits 10 and has six bits of the
-- character. Well-formed are characters in their shortest form, up to U+10FFFF, without the surrogates. Assumes nothing.
use Rattle.std.specs.Prelude.{Bool, cond, not, ◌&&◌, List, ℕ, ◌+◌, ◌*◌, ◌/◌, ◌%◌, eqb, leb, get_or}
use Rattle.std.specs.declared.option.Option.{Option}
use Rattle.std.specs.declared.option.Option.TheVariants.{None, Some}

-- whether a byte goes on with a character
abbrev pub goes_on : ℕ → Bool
goes_on b = eqb (b / 64) 2

-- a character of the bits so far and those of a byte that goes on
abbrev pub with_bits : ℕ → ℕ → ℕ
with_bits n b = n * 64 + b % 64

-- two bytes, 110xxxxx first: a character from U+00A0 on, since what is below is a control character or has a shorter form
abbrev pub two_fine : ℕ → ℕ → Bool
two_fine a b = eqb (a / 32) 6 && goes_on b && leb 160 (with_bits (a % 32) b)

-- three bytes, 1110xxxx first: from U+0800 on, and none of the surrogates U+D800 to U+DFFF
abbrev pub three_fine : ℕ → ℕ → ℕ → Bool
three_fine a b c = eqb (a / 16) 14 && goes_on b && goes_on c && leb 2048 (with_bits (with_bits (a % 16) b) c) && not (eqb (with_bits (with_bits (a % 16) b) c / 2048) 27)

-- four bytes, 11110xxx first: from U+10000 to U+10FFFF
abbrev pub four_fine : ℕ → ℕ → ℕ → ℕ → Bool
four_fine a b c d =
    eqb (a / 8) 30 && goes_on b && goes_on c && goes_on d && leb 65536 (with_bits (with_bits (with_bits (a % 8) b) c) d) && leb (with_bits (with_bits (with_bits (a % 8) b) c) d) 1114111

-- how many bytes the character has that four bytes start with, if they start with one
abbrev pub length_in : ℕ → ℕ → ℕ → ℕ → Option ℕ
length_in a b c d = cond (two_fine a b) (Some 2) (cond (three_fine a b c) (Some 3) (cond (four_fine a b c d) (Some 4) None))

-- the same of bytes; past the last one stands 0, which does not go on with a character
abbrev pub character_length : List ℕ → Option ℕ
character_length s = length_in (get_or s 0 0) (get_or s 1 0) (get_or s 2 0) (get_or s 3 0)

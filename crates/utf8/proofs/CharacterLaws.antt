-- Worked examples of characters. Assumes nothing.
use mathlib.Core.Path.{◌≡◌, refl}
use mathlib.Core.List.{[], ◌∷◌}
use Rattle.std.specs.declared.option.Option.TheVariants.{None, Some}
use Rattle.utf8.specs.Characters.{character_length}

-- ü, the euro sign, and the last character
pub umlaut : character_length (195 ∷ 188 ∷ 108 ∷ []) ≡ Some 2
umlaut = refl

pub euro : character_length (226 ∷ 130 ∷ 172 ∷ []) ≡ Some 3
euro = refl

pub last-character : character_length (244 ∷ 143 ∷ 191 ∷ 191 ∷ []) ≡ Some 4
last-character = refl

-- the last control character, and the first character behind it
pub last-control : character_length (194 ∷ 159 ∷ []) ≡ None
last-control = refl

pub first_plain : character_length (194 ∷ 160 ∷ []) ≡ Some 2
first_plain = refl

-- a slash in three bytes, a surrogate, U+110000, and a euro sign cut short
pub overlong : character_length (224 ∷ 128 ∷ 175 ∷ []) ≡ None
overlong = refl

pub surrogate : character_length (237 ∷ 160 ∷ 128 ∷ []) ≡ None
surrogate = refl

pub past-the-last : character_length (244 ∷ 144 ∷ 128 ∷ 128 ∷ []) ≡ None
past-the-last = refl

pub cut_short : character_length (226 ∷ 130 ∷ []) ≡ None
cut_short = refl

-- Bytes, and the numbers that they are on flash: little-endian, so the first byte counts least
-- (docs/FORMAT.md, Numbers and flash). Assumes nothing.
use Rattle.std.specs.Prelude.{List, [], ◌∷◌, ℕ, zero, suc, ◌+◌, ◌*◌, ◌/◌, ◌%◌, ◌<◌, get_or}

-- every element is a byte
unfoldable pub Bytes : List ℕ → Type 0
Bytes bs = (i : ℕ) → get_or bs i 0 < 256

-- the number that bytes are
unfoldable pub word : List ℕ → ℕ
word [] = 0
word (b ∷ bs) = word bs * 256 + b

-- the first k bytes of a number
unfoldable pub bytes_of : ℕ → ℕ → List ℕ
bytes_of zero n = []
bytes_of (suc k) n = n % 256 ∷ bytes_of k (n / 256)

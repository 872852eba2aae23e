-- Which pages are used: a bit for each page, eight to a byte, the first in the lowest bit (alloc.rs, get_bit and set_bit).
-- Assumes nothing.
use Rattle.std.specs.Prelude.{Bool, false, cond, List, [], ◌∷◌, ◌++◌, ℕ, zero, suc, ◌+◌, ◌-◌, ◌/◌, ◌%◌, ◌^◌, eqb, get_or, set}

-- the k lowest bits of a number, the lowest first
unfoldable pub bits_of : ℕ → ℕ → List Bool
bits_of zero n = []
bits_of (suc k) n = eqb (n % 2) 1 ∷ bits_of k (n / 2)

-- the marks in these bytes, one for each page
unfoldable pub marks_of : List ℕ → List Bool
marks_of [] = []
marks_of (b ∷ bs) = bits_of 8 b ++ marks_of bs

-- whether a page is marked
abbrev pub is_marked : List ℕ → ℕ → Bool
is_marked bytes page = get_or (marks_of bytes) page false

-- how many are marked
unfoldable pub count_of : List Bool → ℕ
count_of [] = 0
count_of (m ∷ ms) = cond m 1 0 + count_of ms

-- the bytes once a page that is free is marked
unfoldable pub marking : List ℕ → ℕ → List ℕ
marking bytes page = set bytes (page / 8) (get_or bytes (page / 8) 0 + 2 ^ (page % 8))

-- the bytes once a page that is marked is free
unfoldable pub freeing : List ℕ → ℕ → List ℕ
freeing bytes page = set bytes (page / 8) (get_or bytes (page / 8) 0 - 2 ^ (page % 8))

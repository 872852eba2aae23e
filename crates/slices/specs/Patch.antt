-- Bytes that replace others (docs/RULES.md, Stores left). Assumes nothing.
use Rattle.std.specs.Prelude.{List, [], ◌∷◌, ℕ, zero, suc, replicate}

-- xs with the bytes put over its start; those that would pass its end are not put
unfoldable pub over : List ℕ → List ℕ → List ℕ
over [] xs = xs
over (b ∷ bytes) [] = []
over (b ∷ bytes) (x ∷ xs) = b ∷ over bytes xs

-- xs with the bytes put from index `at` on, likewise
unfoldable pub patch : ℕ → List ℕ → List ℕ → List ℕ
patch zero bytes xs = over bytes xs
patch (suc at) bytes [] = []
patch (suc at) bytes (x ∷ xs) = x ∷ patch at bytes xs

-- n bytes that read as erased, where e is the erase value
unfoldable pub blank : ℕ → ℕ → List ℕ
blank e n = replicate n e

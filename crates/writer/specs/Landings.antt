-- Stores that lie within their page, on bytes which read as erased (docs/RULES.md, Adding). Assumes nothing.
use Rattle.std.specs.Prelude.{◌≡◌, List, [], ◌∷◌, ℕ, ◌+◌, ◌≤◌, ◌<◌, length, get_or}
use Rattle.flash.specs.Operations.{Op, erase, store, made}

-- the bytes of a page from a on and before b read as erased, where e is the erase value; past the page's end all do
abbrev pub Erased : ℕ → ℕ → ℕ → List ℕ → Type 0
Erased e a b page = (i : ℕ) → a ≤ i → i < b → get_or page i e ≡ e

-- each of these operations is a store that, when it is made, lies within the page, on bytes that read as erased
abbrev pub Lands : ℕ → List Op → List ℕ → Type 0
Lands e [] page = Unit
Lands e (erase v ∷ ops) page = ⊥
Lands e (store at bytes ∷ ops) page =
    (at + length bytes ≤ length page) × (Erased e at (at + length bytes) page × Lands e ops (made 0 (store at bytes) page))

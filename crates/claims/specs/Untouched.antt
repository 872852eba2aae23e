-- What operations leave as it was: the bytes that none of them covers, the other pages and the flash's length. Assumes nothing.
use Rattle.std.specs.Prelude.{◌≡◌, List, [], ◌∷◌, ◌⊎◌, ℕ, ◌+◌, ◌≤◌, ◌<◌, length, get_or}
use Rattle.flash.specs.Geometry.{page_start, page_of}
use Rattle.flash.specs.Operations.{Op}
use Rattle.flash.specs.Covers.{op_at, op_bytes}

-- byte i of the flash lies before or behind what each operation puts on the page that starts at base
abbrev pub Uncovered : ℕ → List Op → ℕ → Type 0
Uncovered base [] i = Unit
Uncovered base (op ∷ ops) i = ((i < base + op_at op) ⊎ (base + op_at op + length (op_bytes op) ≤ i)) × Uncovered base ops i

-- the flash was xs and is ys: it has its length, and every page but p is as it was
pub record OthersKept (p : ℕ) (xs ys : List ℕ) : Type 0 where
  pub other-pages : (q : ℕ) → (p ≡ q → ⊥) → page_of q ys ≡ page_of q xs
  pub long : length ys ≡ length xs

-- the other pages and the length are kept, and every byte that none of these operations on page p covers is as it was
pub record Elsewhere (p : ℕ) (ops : List Op) (xs ys : List ℕ) : Type 0 where
  pub others : OthersKept p xs ys
  pub uncovered : (i d : ℕ) → Uncovered (page_start p) ops i → get_or ys i d ≡ get_or xs i d

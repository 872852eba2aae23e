-- A table whose entry at k is f k: where the table is a constant, antt computes f at each place and compares.
-- Assumes nothing.
use mathlib.Core.Path.{◌≡◌, refl, ◌∙◌, sym, ap, subst}
use mathlib.Core.List.{List, ◌++◌, map}
use Prim.Native.Nat.{ℕ, zero, suc, ◌+◌, ◌*◌, ◌<◌}
use native.Mathlib.Nat.{add-zero, zero-add, zero-mul, suc-mul, add_comm, add_assoc, add-suc, suc-add, le_of_suc-le-suc, not-suc-le-zero}
use Rattle.crc.specs.Tables.{from, rows}
use lib.ListN.{get_or, length, length-map, get_or-append, get_or-map}
use lib.Seq.{get_or-append-add}

at_from : (f : ℕ → ℕ) (i k n : ℕ) → n < k → get_or (from f i k) n 0 ≡ f (i + n)
at_from f i zero n h = absurd (not-suc-le-zero h)
at_from f i (suc k) zero h = ap f (sym (add-zero i))
at_from f i (suc k) (suc n) h = at_from f (suc i) k n (le_of_suc-le-suc h) ∙ ap f (suc-add i n ∙ sym (add-suc i n))

pub length_from : (f : ℕ → ℕ) (i k : ℕ) → length (from f i k) ≡ k
length_from f i zero = refl
length_from f i (suc k) = ap suc (length_from f (suc i) k)

pub entry : (f : ℕ → ℕ) (k n : ℕ) → n < k → get_or (from f 0 k) n 0 ≡ f n
entry f k n h = at_from f 0 k n h ∙ ap f (zero-add n)

-- ---- m tables one after the other: each is the one before with g applied to each entry

pub at_rows : (f : ℕ → ℕ → ℕ) (g : ℕ → ℕ) (w : ℕ) (zeroed : g 0 ≡ 0) (ahead : (k y : ℕ) → f k (g y) ≡ f (suc k) y) (none : (y : ℕ) → f 0 y ≡ y)
    (m : ℕ) (row : List ℕ) → length row ≡ w → (k n : ℕ) → k < m → n < w → get_or (rows g m row) (k * w + n) 0 ≡ f k (get_or row n 0)
at_rows f g w zeroed ahead none zero row e k n h l = absurd (not-suc-le-zero h)
at_rows f g w zeroed ahead none (suc m) row e zero n h l =
    ap (λ (i : ℕ). get_or (row ++ rows g m (map g row)) i 0) (ap (λ (z : ℕ). z + n) (zero-mul w) ∙ zero-add n)
    ∙ get_or-append row (rows g m (map g row)) 0 n (subst (λ (z : ℕ). n < z) (sym e) l)
    ∙ sym (none (get_or row n 0))
at_rows f g w zeroed ahead none (suc m) row e (suc k) n h l =
    ap (λ (i : ℕ). get_or (row ++ rows g m (map g row)) i 0)
    (ap (λ (z : ℕ). z + n) (suc-mul k w ∙ add_comm (k * w) w) ∙ add_assoc w (k * w) n ∙ ap (λ (z : ℕ). z + (k * w + n)) (sym e))
    ∙ get_or-append-add row (rows g m (map g row)) (k * w + n) 0
    ∙ at_rows f g w zeroed ahead none m (map g row) (length-map row g ∙ e) k n (le_of_suc-le-suc h) l
    ∙ ap (f k) (ap (get_or (map g row) n) (sym zeroed) ∙ get_or-map g row n 0)
    ∙ ahead k (get_or row n 0)

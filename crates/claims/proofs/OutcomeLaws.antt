-- Two things that are equal to one thing are equal: a promise that says its outcome in equations admits one only. Assumes nothing.
use mathlib.Core.Path.{◌≡◌, refl, sym, ◌∙◌, ap, ap₂}
use Rattle.std.specs.Prelude.{Bool, true, false, ◌↔◌, IsTrue}
use Rattle.claims.specs.Outcomes.{beside}

-- an outcome of one part
pub one : {X : Type 0} {x x' c : X} → x ≡ c → x' ≡ c → x ≡ x'
one p q = p ∙ sym q

-- of two
pub two : {X Y : Type 0} {x x' c : X} {y y' d : Y} → (x ≡ c) × (y ≡ d) → (x' ≡ c) × (y' ≡ d) → beside x y ≡ beside x' y'
two p q = ap₂ beside (one p.0 q.0) (one p.1 q.1)

-- of three
pub three : {X Y Z : Type 0} {x x' c : X} {y y' d : Y} {z z' f : Z} → (x ≡ c) × ((y ≡ d) × (z ≡ f)) → (x' ≡ c) × ((y' ≡ d) × (z' ≡ f))
    → beside x (beside y z) ≡ beside x' (beside y' z')
three p q = ap₂ beside (one p.0 q.0) (two p.1 q.1)

-- of two, where the second is said by the first
pub follows : {X Y : Type 0} {x x' c : X} {y y' : Y} (f : X → Y) → (x ≡ c) × (y ≡ f x) → (x' ≡ c) × (y' ≡ f x') → beside x y ≡ beside x' y'
follows f p q = ap₂ beside (one p.0 q.0) (p.1 ∙ ap f (one p.0 q.0) ∙ sym q.1)

-- two Booleans, each true exactly where one thing holds
pub decided : (r r' : Bool) {P : Type 0} → (IsTrue r ↔ P) → (IsTrue r' ↔ P) → r ≡ r'
decided true true p q = refl
decided true false p q = sym (q.1 (p.0 refl))
decided false true p q = p.1 (q.0 refl)
decided false false p q = refl

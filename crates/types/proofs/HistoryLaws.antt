-- Calls one after another: what the first of them leave is where the others begin. Assumes nothing.
use mathlib.Core.Path.{◌≡◌, refl, ap}
use mathlib.Core.List.{List, [], ◌∷◌, ◌++◌}
use Rattle.types.specs.Histories.{left_after, told_by_each}

module _ {World Call : Type 0} (left_by : World → Call → World) where
  pub left_after-none : (x : World) → left_after left_by x [] ≡ x
  unfolding left_after
  left_after-none x = refl

  pub left_after-more : (x : World) (call : Call) (calls : List Call) → left_after left_by x (call ∷ calls) ≡ left_after left_by (left_by x call) calls
  unfolding left_after
  left_after-more x call calls = refl

  pub left_after-append : (x : World) (first then : List Call) → left_after left_by x (first ++ then) ≡ left_after left_by (left_after left_by x first) then
  unfolding left_after
  left_after-append x [] then = refl
  left_after-append x (call ∷ first) then = left_after-append (left_by x call) first then

  -- what every call keeps, all of them keep
  pub left_after-keeps : (P : World → Type 0) → ((x : World) (call : Call) → P x → P (left_by x call)) → (x : World) (calls : List Call) → P x → P (left_after left_by x calls)
  unfolding left_after
  left_after-keeps P keeps x [] p = p
  left_after-keeps P keeps x (call ∷ calls) p = left_after-keeps P keeps (left_by x call) calls (keeps x call p)

module _ {World Call Told : Type 0} (left_by : World → Call → World) (told_by : World → Call → Told) where
  pub told_by_each-none : (x : World) → told_by_each left_by told_by x [] ≡ []
  unfolding told_by_each
  told_by_each-none x = refl

  pub told_by_each-more : (x : World) (call : Call) (calls : List Call)
      → told_by_each left_by told_by x (call ∷ calls) ≡ told_by x call ∷ told_by_each left_by told_by (left_by x call) calls
  unfolding told_by_each
  told_by_each-more x call calls = refl

  -- the same calls, cut in two: the later ones begin where the first end
  pub told_by_each-append : (x : World) (first then : List Call)
      → told_by_each left_by told_by x (first ++ then) ≡ told_by_each left_by told_by x first ++ told_by_each left_by told_by (left_after left_by x first) then
  unfolding told_by_each left_after
  told_by_each-append x [] then = refl
  told_by_each-append x (call ∷ first) then = ap (λ (told : List Told). told_by x call ∷ told) (told_by_each-append (left_by x call) first then)

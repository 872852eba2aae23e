-- Pages counted round: i pages on from one, modulo the count. Assumes nothing.
use mathlib.Core.Path.{◌≡◌, ap, ◌∙◌}
use mathlib.Core.Logic.{◌⊎◌, inl, inr, ⊎_elim}
use Prim.Native.Nat.{ℕ, ◌+◌, ◌-◌, ◌%◌, ◌≤◌, ◌<◌}
use native.Mathlib.Nat.{add-mod_left, mod-add-mod, mod-eq_of_lt}
use native.Mathlib.Omega.{arith}
use Rattle.types.proofs.TestLaws.{le-or-lt}

-- a number below twice the count is itself, or less the count
pub wraps : (x count : ℕ) → x < count + count → ((x < count) × (x % count ≡ x)) ⊎ ((count ≤ x) × (x % count ≡ x - count))
wraps x count h =
    ⊎_elim
    (λ l.
    let e : x ≡ count + (x - count) = omega arith in
    inr (l, ap (λ (y : ℕ). y % count) e ∙ add-mod_left count (x - count) ∙ mod-eq_of_lt (omega arith)))
    (λ l. inl (l, mod-eq_of_lt l))
    (le-or-lt count x)

module _ (next count : ℕ) (fits : next < count) where
  -- numbers of pages to go on that lead to one page are equal
  pub round-different : (i j : ℕ) → i < count → j < count → (next + i) % count ≡ (next + j) % count → i ≡ j
  round-different i j hi hj e =
      ⊎_elim
      (λ x. ⊎_elim (λ y. omega arith) (λ y. omega arith) (wraps (next + j) count (omega arith)))
      (λ x. ⊎_elim (λ y. omega arith) (λ y. omega arith) (wraps (next + j) count (omega arith)))
      (wraps (next + i) count (omega arith))

  -- every page lies fewer than count pages on
  pub round-every : (p : ℕ) → p < count → (i : ℕ) × ((i < count) × ((next + i) % count ≡ p))
  round-every p h =
      ⊎_elim
      (λ l. (p - next, (omega arith, (let e : next + (p - next) ≡ p = omega arith in ap (λ (x : ℕ). x % count) e ∙ mod-eq_of_lt h))))
      (λ l. (
        p + (count - next),
        (omega arith, (let e : next + (p + (count - next)) ≡ count + p = omega arith in ap (λ (x : ℕ). x % count) e ∙ add-mod_left count p ∙ mod-eq_of_lt h)),
      ))
      (le-or-lt next p)

-- the page after the i-th is the next one
pub round-next : (next i count : ℕ) → ((next + i) % count + 1) % count ≡ (next + (i + 1)) % count
round-next next i count =
    let e : next + i + 1 ≡ next + (i + 1) = omega arith in
    mod-add-mod (next + i) count 1 ∙ ap (λ (x : ℕ). x % count) e

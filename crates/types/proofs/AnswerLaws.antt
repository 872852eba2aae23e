-- An answer told as numbers: its number is the one of the row that refuses, 0 where none does, and its value comes back. Assumes nothing.
use mathlib.Core.Path.{◌≡◌, refl}
use mathlib.Core.List.{[], ◌∷◌}
use Prim.Native.Nat.{ℕ}
use Rattle.std.specs.Prelude.{Ok, Err, ⊤}
use Rattle.std.specs.declared.option.Option.{Option}
use Rattle.std.specs.declared.option.Option.TheVariants.{None, Some}
use Rattle.std.specs.declared.result.Result.{Result}
use Rattle.types.specs.Answers.{Told, answered, told_by, number_told, size_or, outcome_told, size_told, page_of_told, maybe_told}
use Rattle.types.specs.declared.page_id.PageID.{PageID}
use Rattle.types.specs.declared.refusal.Refusal.{Refusal}

-- ---- the number: what `Answer::number` answers

module _ {A : Type 0} (told_as : A → Told) where
  -- of every answer that is told as refused only where it is
  pub told_by-number : ((a : A) → (told_as a).number ≡ 0) → (r : Result A Refusal) → (told_by told_as r).number ≡ number_told r
  told_by-number none (Ok a) = none a
  told_by-number none (Err why) = refl

pub outcome_told-number : (r : Result ⊤ Refusal) → (outcome_told r).number ≡ number_told r
outcome_told-number = told_by-number _ (λ done. refl)

pub size_told-number : (r : Result ℕ Refusal) → (size_told r).number ≡ number_told r
size_told-number = told_by-number _ (λ n. refl)

pub page_of_told-number : (r : Result PageID Refusal) → (page_of_told r).number ≡ number_told r
page_of_told-number = told_by-number _ (λ page. refl)

-- neither case is a refusal
pub maybe_told-number : (r : Option PageID) → (maybe_told r).number ≡ 0
maybe_told-number None = refl
maybe_told-number (Some page) = refl

-- ---- the value, or another where there is none

pub size_told-size : (other n : ℕ) → size_or other 0 (size_told (Ok n)) ≡ n
size_told-size other n = refl

pub size_told-other : (other : ℕ) (why : Refusal) → size_or other 0 (size_told (Err why)) ≡ other
size_told-other other why = refl

pub page_of_told-page : (other : ℕ) (page : PageID) → size_or other 0 (page_of_told (Ok page)) ≡ page.0
page_of_told-page other page = refl

pub page_of_told-other : (other : ℕ) (why : Refusal) → size_or other 0 (page_of_told (Err why)) ≡ other
page_of_told-other other why = refl

pub maybe_told-page : (other : ℕ) (page : PageID) → size_or other 0 (maybe_told (Some page)) ≡ page.0
maybe_told-page other page = refl

pub maybe_told-other : (other : ℕ) → size_or other 0 (maybe_told None) ≡ other
maybe_told-other other = refl

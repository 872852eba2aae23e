-- An answer as numbers (docs/RULES.md, Refusals): the number of the row that refuses, 0 where none does, and the values; and so
-- the answers that several crates share. Assumes nothing.
use Rattle.std.specs.Prelude.{List, [], ◌∷◌, map, ℕ, ℤ, pos, negsuc, get_or, Ok, Err, ⊤}
use Rattle.std.specs.declared.option.Option.{Option}
use Rattle.std.specs.declared.option.Option.TheVariants.{None, Some}
use Rattle.std.specs.declared.result.Result.{Result}
use Rattle.types.specs.Refusals.{number_of}
use Rattle.types.specs.declared.page_id.PageID.{PageID}
use Rattle.types.specs.declared.refusal.Corrupted.{Corrupted}
use Rattle.types.specs.declared.refusal.Refusal.{Refusal}
use Rattle.types.specs.declared.refusal.Refusal.TheVariants as row

-- a value may be below zero
pub record Told : Type 0 where
  pub number : ℕ
  pub values : List ℤ

-- answered, with these values
abbrev pub answered : List ℕ → Told
answered vs = record { number = 0; values = map pos vs }

-- refused
abbrev pub refusal : Refusal → Told
refusal why = record { number = number_of why; values = [] }

module _ {A : Type 0} where
  -- answered as told_as says, or refused
  abbrev pub told_by : (A → Told) → Result A Refusal → Told
  told_by told_as (Ok a) = told_as a
  told_by told_as (Err why) = refusal why

  -- the number of the row that refuses, 0 where none does
  abbrev pub number_told : Result A Refusal → ℕ
  number_told (Ok a) = 0
  number_told (Err why) = number_of why

  -- the same of what can be refused for one reason alone
  abbrev pub corrupted_told : Result A Corrupted → ℕ
  corrupted_told (Ok a) = 0
  corrupted_told (Err why) = number_of row.Corrupted

-- the k-th value, or another where there is none
abbrev pub value_or : ℤ → ℕ → Told → ℤ
value_or other k told = get_or told.values k other

-- a value as a size, which is 0 below zero
abbrev pub size_of : ℤ → ℕ
size_of (pos n) = n
size_of (negsuc n) = 0

-- the k-th value as a size, or another where there is none
abbrev pub size_or : ℕ → ℕ → Told → ℕ
size_or other k told = size_of (value_or (pos other) k told)

-- ---- the answers that several crates share

-- nothing to tell
abbrev pub outcome_told : Result ⊤ Refusal → Told
outcome_told = told_by (λ done. answered [])

-- how many
abbrev pub size_told : Result ℕ Refusal → Told
size_told = told_by (λ n. answered (n ∷ []))

-- a page's number
abbrev pub page_of_told : Result PageID Refusal → Told
page_of_told = told_by (λ page. answered (page.0 ∷ []))

-- a page's number, or no value
abbrev pub maybe_told : Option PageID → Told
maybe_told None = answered []
maybe_told (Some page) = answered (page.0 ∷ [])

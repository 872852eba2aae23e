-- Each answer as numbers (docs/RULES.md, Refusals): the number of the row that refuses, 0 where none does, and the values.
-- Assumes nothing.
use Rattle.std.specs.declared.option.Option.{Option}
use Rattle.std.specs.declared.result.Result.{Result}
use Rattle.types.specs.declared.page_id.PageID.{PageID}
use Rattle.types.specs.declared.refusal.Refusal.{Refusal}
use Rattle.std.specs.Prelude.{List, [], ◌∷◌, ℕ, Ok, Err, Some, None, ℤ}
use Rattle.types.specs.Answers.{Told, answered, refusal}
use Rattle.alloc.specs.declared.answers.Usage.{Usage}
use Rattle.alloc.specs.declared.answers.Usage.TheVariants as usage

-- a page, or none
abbrev pub allocated_told : Result (Option PageID) Refusal → Told
allocated_told (Ok (Some page)) = answered (page.0 ∷ [])
allocated_told (Ok None) = answered []
allocated_told (Err why) = refusal why

-- used is 1, free is 0
abbrev pub usage_told : Result Usage Refusal → Told
usage_told (Ok usage.Used) = answered (1 ∷ [])
usage_told (Ok usage.Free) = answered (0 ∷ [])
usage_told (Err why) = refusal why

-- how many pages
abbrev pub count_told : Result ℕ Refusal → Told
count_told (Ok n) = answered (n ∷ [])
count_told (Err why) = refusal why

-- how many pages, and then each of them
abbrev pub pages_told : Result ℕ Refusal → List ℕ → Told
pages_told (Ok n) pages = answered (n ∷ pages)
pages_told (Err why) pages = refusal why

-- how many pages would stay free, which may be below zero
abbrev pub margin_told : Result ℤ Refusal → Told
margin_told (Ok z) = record { number = 0; values = z ∷ [] }
margin_told (Err why) = refusal why

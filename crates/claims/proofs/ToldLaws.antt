-- The answers of the allocator, of runs and of the merge, told as numbers: the number is what `Answer::number` hands out, and the values
-- come back. Assumes nothing.
use mathlib.Core.Path.{◌≡◌, refl}
use mathlib.Core.Bool.{true, false}
use mathlib.Core.List.{List}
use Prim.Native.Nat.{ℕ}
use Rattle.std.specs.Prelude.{ℤ, Ok, Err, Some, None, eqb}
use Rattle.std.specs.declared.option.Option.{Option}
use Rattle.std.specs.declared.result.Result.{Result}
use Rattle.types.specs.Answers.{number_told, size_or, value_or}
use Rattle.types.specs.declared.page_id.PageID.{PageID}
use Rattle.types.specs.declared.refusal.Refusal.{Refusal}
use Rattle.alloc.specs.Answers.{allocated_told, usage_told, count_told, pages_told, margin_told}
use Rattle.alloc.specs.declared.answers.Usage.{Usage}
use Rattle.alloc.specs.declared.answers.Usage.TheVariants as usage
use Rattle.run.specs.Answers.{head_told, sought_told}
use Rattle.run.specs.Records.{Head}
use Rattle.cursor.specs.Answers.{NextAnswer, next_told}
use Rattle.cursor.specs.declared.answers.Entry.{Entry}

-- ---- the number

pub allocated_told-number : (a : Result (Option PageID) Refusal) → (allocated_told a).number ≡ number_told a
allocated_told-number (Ok (Some page)) = refl
allocated_told-number (Ok None) = refl
allocated_told-number (Err why) = refl

pub usage_told-number : (a : Result Usage Refusal) → (usage_told a).number ≡ number_told a
usage_told-number (Ok usage.Used) = refl
usage_told-number (Ok usage.Free) = refl
usage_told-number (Err why) = refl

pub count_told-number : (a : Result ℕ Refusal) → (count_told a).number ≡ number_told a
count_told-number (Ok n) = refl
count_told-number (Err why) = refl

pub pages_told-number : (a : Result ℕ Refusal) (pages : List ℕ) → (pages_told a pages).number ≡ number_told a
pages_told-number (Ok n) pages = refl
pages_told-number (Err why) pages = refl

pub margin_told-number : (a : Result ℤ Refusal) → (margin_told a).number ≡ number_told a
margin_told-number (Ok z) = refl
margin_told-number (Err why) = refl

pub head_told-number : (a : Head) → (head_told a).number ≡ number_told a
head_told-number (Ok (Some r)) = refl
head_told-number (Ok None) = refl
head_told-number (Err why) = refl

pub sought_told-number : (a : Result (Option ℕ) Refusal) → (sought_told a).number ≡ number_told a
sought_told-number (Ok (Some at)) = refl
sought_told-number (Ok None) = refl
sought_told-number (Err why) = refl

pub next_told-number : (a : NextAnswer) → (next_told a).number ≡ number_told a
next_told-number (Ok (Some entry)) = refl
next_told-number (Ok None) = refl
next_told-number (Err why) = refl

-- ---- the value, or another where there is none

pub allocated_told-page : (other : ℕ) (page : PageID) → size_or other 0 (allocated_told (Ok (Some page))) ≡ page.0
allocated_told-page other page = refl

pub allocated_told-none : (other : ℕ) → size_or other 0 (allocated_told (Ok None)) ≡ other
allocated_told-none other = refl

pub allocated_told-refused : (other : ℕ) (why : Refusal) → size_or other 0 (allocated_told (Err why)) ≡ other
allocated_told-refused other why = refl

pub usage_told-used : eqb (size_or 0 0 (usage_told (Ok usage.Used))) 1 ≡ true
usage_told-used = refl

pub usage_told-free : eqb (size_or 0 0 (usage_told (Ok usage.Free))) 1 ≡ false
usage_told-free = refl

pub usage_told-refused : (why : Refusal) → eqb (size_or 0 0 (usage_told (Err why))) 1 ≡ false
usage_told-refused why = refl

pub count_told-count : (other n : ℕ) → size_or other 0 (count_told (Ok n)) ≡ n
count_told-count other n = refl

pub count_told-other : (other : ℕ) (why : Refusal) → size_or other 0 (count_told (Err why)) ≡ other
count_told-other other why = refl

pub margin_told-margin : (other z : ℤ) → value_or other 0 (margin_told (Ok z)) ≡ z
margin_told-margin other z = refl

pub margin_told-other : (other : ℤ) (why : Refusal) → value_or other 0 (margin_told (Err why)) ≡ other
margin_told-other other why = refl

pub sought_told-place : (other at : ℕ) → size_or other 0 (sought_told (Ok (Some at))) ≡ at
sought_told-place other at = refl

pub sought_told-gone : (other : ℕ) → size_or other 0 (sought_told (Ok None)) ≡ other
sought_told-gone other = refl

pub sought_told-refused : (other : ℕ) (why : Refusal) → size_or other 0 (sought_told (Err why)) ≡ other
sought_told-refused other why = refl

pub next_told-key : (entry : Entry) → size_or 0 0 (next_told (Ok (Some entry))) ≡ entry.key_len
next_told-key entry = refl

pub next_told-value : (entry : Entry) → size_or 0 1 (next_told (Ok (Some entry))) ≡ entry.value_len
next_told-value entry = refl

pub next_told-end : (k : ℕ) → size_or 0 k (next_told (Ok None)) ≡ 0
next_told-end k = refl

pub next_told-refused : (k : ℕ) (why : Refusal) → size_or 0 k (next_told (Err why)) ≡ 0
next_told-refused k why = refl

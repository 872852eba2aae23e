-- Where a run starts under a lower bound (docs/RULES.md, Runs): at the first key not below it. Assumes nothing.
use Rattle.std.specs.declared.option.Option.{Option}
use Rattle.std.specs.declared.result.Result.{Result}
use Rattle.types.specs.declared.refusal.Refusal.{Refusal}
use Rattle.std.specs.Prelude.{List, ℕ, zero, suc, length, Ok, Err, Some, None}
use Rattle.keys.specs.Keys.{compare_keys}
use Rattle.run.specs.Records.{head_at, key_in, Head}
use Rattle.run.specs.Kinds.{Bound, Unbounded, Included, Excluded}
use Rattle.std.specs.declared.cmp.Ordering.{Ordering}
use Rattle.std.specs.declared.cmp.Ordering.TheVariants.{Less, Equal, Greater}

-- an equal key at one position, the next record at another: the bound takes it, or starts after it
abbrev pub level_at : Bound → ℕ → ℕ → ℕ
level_at Unbounded at next = at
level_at Included at next = at
level_at Excluded at next = next

-- a key that stands so to the bound; below it the search goes on
unfoldable pub sought_by : Ordering → Bound → ℕ → ℕ → (ℕ → (Result (Option ℕ) Refusal)) → Result (Option ℕ) Refusal
sought_by Less bound at next later = later next
sought_by Equal bound at next later = Ok (Some (level_at bound at next))
sought_by Greater bound at next later = Ok (Some at)

unfoldable pub sought_head : Head → List ℕ → Bound → List ℕ → ℕ → (ℕ → (Result (Option ℕ) Refusal)) → Result (Option ℕ) Refusal
sought_head (Ok None) run bound lower at later = Ok None
sought_head (Ok (Some r)) run bound lower at later = sought_by (compare_keys (key_in run r) lower) bound at r.next later
sought_head (Err why) run bound lower at later = Err why

-- the search over at most `heads` heads, from a position on
unfoldable pub sought_from : ℕ → List ℕ → Bound → List ℕ → ℕ → Result (Option ℕ) Refusal
sought_from zero run bound lower at = Ok None
sought_from (suc heads) run bound lower at =
    sought_head (head_at run at) run bound lower at (λ next. sought_from heads run bound lower next)

-- with no bound the run's start, unread; else a record has a byte at least, so a run has no more heads than bytes and one
unfoldable pub search_in : List ℕ → Bound → List ℕ → Result (Option ℕ) Refusal
search_in run Unbounded lower = Ok (Some 0)
search_in run Included lower = sought_from (suc (length run)) run Included lower 0
search_in run Excluded lower = sought_from (suc (length run)) run Excluded lower 0

-- A cursor over all runs from a lower bound (docs/RULES.md, Runs). A refused one has every run gone. Assumes
-- nothing.
use Rattle.std.specs.declared.option.Option.{Option}
use Rattle.std.specs.declared.result.Result.{Result}
use Rattle.std.specs.Prelude.{List, ℕ, zero, suc, length, set, Ok, Err, Some, None, ⊤}
use Rattle.types.specs.Checks.{refused_or}
use Rattle.types.specs.declared.refusal.Refusal.{Refusal}
use Rattle.run.specs.Search.{search_in}
use Rattle.run.specs.Kinds.{Bound}
use Rattle.cursor.specs.Checks.{new_check}
use Rattle.cursor.specs.Places.{at_place, all_gone}
use Rattle.cursor.specs.Runs.{run_of}
use Rattle.cursor.specs.declared.answers.Moved.{Moved}
use Rattle.cursor.specs.declared.place.RunPlace.{RunPlace}

abbrev pub refused_new : Refusal → Moved ⊤
refused_new why = record { cursor = record { places = all_gone }; answer = Err why }

-- what run i's search changes, with the searches of the later runs at hand
unfoldable pub after_search : Result (Option ℕ) Refusal → ℕ → List RunPlace → (List RunPlace → (Moved ⊤)) → Moved ⊤
after_search (Ok None) i places later = later places
after_search (Ok (Some at)) i places later = later (set places i (at_place at))
after_search (Err why) i places later = refused_new why

-- `count` runs from run i on, in list order
unfoldable pub new_from : List ℕ → List ℕ → Bound → List ℕ → ℕ → ℕ → List RunPlace → Moved ⊤
new_from bytes ends bound lower zero i places = record { cursor = record { places = places }; answer = Ok tt }
new_from bytes ends bound lower (suc count) i places =
    after_search (search_in (run_of bytes ends i) bound lower) i places (λ p. new_from bytes ends bound lower count (suc i) p)

unfoldable pub new_of : List ℕ → List ℕ → Bound → List ℕ → Moved ⊤
new_of bytes ends bound lower = refused_or (new_check (length bytes) ends) refused_new (new_from bytes ends bound lower (length ends) 0 all_gone)

-- the answer that the places, or a refusal, come to
abbrev pub new_by : Result (List RunPlace) Refusal → Moved ⊤
new_by (Ok places) = record { cursor = record { places = places }; answer = Ok tt }
new_by (Err why) = refused_new why

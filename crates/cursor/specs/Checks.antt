-- The checks before the work (docs/RULES.md, Order of checks, Ranges): 10 for the run ends, then 11 for the places.
-- Assumes nothing.
use Rattle.std.specs.Prelude.{Bool, true, ◌&&◌, List, [], ◌∷◌, ℕ, zero, suc, ◌-◌, ltb, leb, length, Ok}
use Rattle.types.specs.Build.{file_count}
use Rattle.types.specs.Checks.{asking, Verdict}
use Rattle.types.specs.declared.refusal.Refusal.TheVariants.{BadRuns, BadState}
use Rattle.cursor.specs.Places.{place_of}
use Rattle.cursor.specs.Runs.{start_of, end_of}
use Rattle.cursor.specs.declared.place.Place.{Place}
use Rattle.cursor.specs.declared.place.Place.TheVariants.{At, Gone}
use Rattle.cursor.specs.declared.place.RunPlace.{RunPlace}

-- no end falls, and none is past a buffer of `size` bytes
unfoldable pub rising_ends : ℕ → ℕ → List ℕ → Bool
rising_ends size from [] = true
rising_ends size from (to ∷ ends) = leb from to && leb to size && rising_ends size to ends

-- there are no more ends than files, no end falls, and none is past the buffer
unfoldable pub good_runs : ℕ → List ℕ → Bool
good_runs size ends = leb (length ends) file_count && rising_ends size 0 ends

-- whether a place is good: it is gone, or a position within a run that is there
unfoldable pub good_place : List ℕ → ℕ → Place → Bool
good_place ends i Gone = true
good_place ends i (At at) = ltb i (length ends) && leb at (end_of ends i - start_of ends i)

-- each of `count` places from place i on is good
unfoldable pub good_from : List ℕ → List RunPlace → ℕ → ℕ → Bool
good_from ends places zero i = true
good_from ends places (suc count) i = good_place ends i (place_of places i) && good_from ends places count (suc i)

unfoldable pub good_places : List ℕ → List RunPlace → Bool
good_places ends places = good_from ends places file_count 0

-- what is refused before a cursor is made
unfoldable pub new_check : ℕ → List ℕ → Verdict
new_check size ends = asking (good_runs size ends) BadRuns (Ok tt)

-- what is refused before an entry is looked for
unfoldable pub next_check : ℕ → List ℕ → List RunPlace → Verdict
next_check size ends places = asking (good_runs size ends) BadRuns (asking (good_places ends places) BadState (Ok tt))

-- A run's place: gone, or a position that counts from the run's start (docs/RULES.md, Runs). Assumes nothing.
use Rattle.std.specs.Prelude.{List, ℕ, get_or, replicate}
use Rattle.types.specs.Build.{file_count}
use Rattle.cursor.specs.declared.place.Place.{Place}
use Rattle.cursor.specs.declared.place.Place.TheVariants.{At, Gone}
use Rattle.cursor.specs.declared.place.RunPlace.{RunPlace}

abbrev pub gone : RunPlace
gone = record { place = Gone }

abbrev pub at_place : ℕ → RunPlace
at_place at = record { place = At at }

-- run i's place; there is none past the last run
abbrev pub place_of : List RunPlace → ℕ → Place
place_of places i = (get_or places i gone).place

abbrev pub all_gone : List RunPlace
all_gone = replicate file_count gone

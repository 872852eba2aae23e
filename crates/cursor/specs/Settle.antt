-- Passes until the lowest key is not deleted (docs/RULES.md, Merge). Assumes nothing.
use Rattle.std.specs.Prelude.{Bool, false, cond, List, ℕ, zero, suc, ◌+◌, ◌-◌, Ok, Err, Some, None}
use Rattle.types.specs.Build.{file_count}
use Rattle.run.specs.Kinds.{Bound}
use Rattle.cursor.specs.Pass.{pass_of, Lowest}
use Rattle.cursor.specs.Places.{place_of}
use Rattle.cursor.specs.Runs.{start_of, end_of}
use Rattle.cursor.specs.declared.pass.Pass.{Pass}
use Rattle.cursor.specs.declared.place.Place.{Place}
use Rattle.cursor.specs.declared.place.Place.TheVariants.{At, Gone}
use Rattle.cursor.specs.declared.place.RunPlace.{RunPlace}

-- whether the lowest key is a deletion
unfoldable pub is_hidden : Lowest → Bool
is_hidden (Ok None) = false
is_hidden (Ok (Some held)) = held.head.deleted
is_hidden (Err why) = false

-- the bytes that a run of `size` bytes has left
unfoldable pub left_at : ℕ → Place → ℕ
left_at size (At at) = size - at
left_at size Gone = 0

abbrev pub ahead_in : List ℕ → List RunPlace → ℕ → ℕ
ahead_in ends places i = left_at (end_of ends i - start_of ends i) (place_of places i)

-- the sum of f 0 to f (n - 1)
unfoldable pub sum_to : ℕ → (ℕ → ℕ) → ℕ
sum_to zero f = 0
sum_to (suc n) f = f n + sum_to n f

-- the bytes that all runs have left
unfoldable pub bytes_ahead : List ℕ → List RunPlace → ℕ
bytes_ahead ends places = sum_to file_count (ahead_in ends places)

-- a pass, and after a deletion another one from where it stepped on to, with at most `more` further passes
unfoldable pub settle_from : List ℕ → List ℕ → Bound → List ℕ → ℕ → List RunPlace → Pass
settle_from bytes ends bound upper zero places = pass_of bytes ends bound upper places
settle_from bytes ends bound upper (suc more) places =
    cond (is_hidden (pass_of bytes ends bound upper places).lowest)
    (settle_from bytes ends bound upper more (pass_of bytes ends bound upper places).stepped)
    (pass_of bytes ends bound upper places)

-- each pass over a deletion leaves fewer bytes, so as many more passes as bytes are enough
unfoldable pub settled : List ℕ → List ℕ → Bound → List ℕ → List RunPlace → Pass
settled bytes ends bound upper places = settle_from bytes ends bound upper (bytes_ahead ends places) places

-- The checks of the run ends and of the places: one turn of each loop. Assumes nothing.
use mathlib.Core.Path.{◌≡◌, ap}
use mathlib.Core.Bool.{Bool, true, false, ◌&&◌}
use mathlib.Core.List.{List}
use Prim.Native.Nat.{ℕ, zero, suc, ◌+◌, ◌≤◌, ◌<◌}
use native.Mathlib.Numerals.{add-one}
use native.Mathlib.Omega.{arith}
use lib.Dec.{leb}
use lib.ListN.{length, drop, drop_of_length-le}
use lib.Seq.{drop-cons}
use borrow.Author.Tests.{leb-true, lt-leb, le-leb}
use Rattle.types.specs.Build.{file_count}
use Rattle.types.proofs.TestLaws.{both_true}
use Rattle.cursor.specs.Checks.{rising_ends, good_runs, good_place, good_from}
use Rattle.std.specs.List.{list_all, enumerate_from}
use Rattle.cursor.specs.Places.{gone, place_of}
use Rattle.cursor.specs.Runs.{end_of}
use Rattle.cursor.specs.declared.place.RunPlace.{RunPlace}

-- ---- the run ends

pub runs-many : (size : ℕ) (ends : List ℕ) → file_count < length ends → false ≡ good_runs size ends
unfolding good_runs
runs-many size ends h = rw (lt-leb (length ends) file_count h)

pub runs-few : (size : ℕ) (ends : List ℕ) → length ends ≤ file_count → rising_ends size 0 ends ≡ good_runs size ends
unfolding good_runs
runs-few size ends h = rw (le-leb (length ends) file_count h)

module _ (size from : ℕ) (ends : List ℕ) (i : ℕ) (answer : Bool) (rest : rising_ends size from (drop i ends) ≡ answer) where
  pub ends-none : length ends ≤ i → true ≡ answer
  unfolding rising_ends
  ends-none h = rw (drop_of_length-le ends h) at rest

  module _ (h : i < length ends) where
    pub end-bad : (leb from (end_of ends i) && leb (end_of ends i) size) ≡ false → false ≡ answer
    unfolding rising_ends
    end-bad b = rw (drop-cons ends i 0 h, b) at rest

    pub end-good : (leb from (end_of ends i) && leb (end_of ends i) size) ≡ true
        → rising_ends size (end_of ends i) (drop (i + 1) ends) ≡ answer
    unfolding rising_ends
    end-good b = rw (add-one i) (rw (drop-cons ends i 0 h, b) at rest)

-- ---- the places

-- whether a place with its number is good
abbrev pub NumberedGood : List ℕ → ℕ × RunPlace → Bool
NumberedGood ends x = good_place ends x.0 x.1.place

pub numbered : (ends : List ℕ) (places : List RunPlace) (count i : ℕ) → i + count ≡ length places
    → list_all (NumberedGood ends) (enumerate_from i (drop i places)) ≡ good_from ends places count i
unfolding good_from
numbered ends places zero i h = rw (drop_of_length-le places {i = i} (omega arith))
numbered ends places (suc count) i h =
    rw (drop-cons places i gone (omega arith)) (rw (add-one i) (ap (λ (b : Bool). good_place ends i (place_of places i) && b) (numbered ends places count (suc i) (omega arith))))

-- ---- what a passed check tells

pub good-few : (size : ℕ) (ends : List ℕ) → good_runs size ends ≡ true → length ends ≤ file_count
unfolding good_runs
good-few size ends g = leb-true _ _ (both_true _ _ g).0

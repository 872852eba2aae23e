-- A pass looks at all heads in run order (docs/RULES.md, Merge). It carries two rows of places: one with the
-- runs found gone, and the same with the holders of the lowest key stepped on. Assumes nothing.
use Rattle.std.specs.declared.option.Option.{Option}
use Rattle.cursor.specs.declared.look.Holder.{Holder}
use Rattle.std.specs.declared.result.Result.{Result}
use Rattle.std.specs.Prelude.{cond, List, [], ℕ, zero, suc, length, set, Ok, Err, Some, None}
use Rattle.types.specs.declared.refusal.Refusal.{Refusal}
use Rattle.run.specs.Bounds.{is_past}
use Rattle.keys.specs.Keys.{compare_keys}
use Rattle.run.specs.Records.{head_at, key_in, value_in, Head}
use Rattle.run.specs.Kinds.{Bound}
use Rattle.std.specs.declared.cmp.Ordering.{Ordering}
use Rattle.std.specs.declared.cmp.Ordering.TheVariants.{Less, Equal, Greater}
use Rattle.run.specs.declared.record.Record.{Record}
use Rattle.cursor.specs.Places.{gone, at_place, place_of}
use Rattle.cursor.specs.Runs.{run_of}
use Rattle.cursor.specs.declared.look.Look.{Look}
use Rattle.cursor.specs.declared.look.Look.TheVariants as look
use Rattle.cursor.specs.declared.pass.Pass.{Pass}
use Rattle.cursor.specs.declared.place.Place.{Place}
use Rattle.cursor.specs.declared.place.Place.TheVariants.{At, Gone}
use Rattle.cursor.specs.declared.place.RunPlace.{RunPlace}

-- the record with the lowest key so far, in the highest run that holds it; none where there is none, or a refusal
abbrev pub Lowest : Type 0
Lowest = Result (Option Holder) Refusal

-- ---- one run's head

-- how a key stands to the lowest so far: below it where there is none
unfoldable pub against_lowest : Lowest → List ℕ → List ℕ → Ordering
against_lowest (Ok None) low key = Less
against_lowest (Ok (Some held)) low key = compare_keys key low
against_lowest (Err why) low key = Less

unfoldable pub look_by : Ordering → Record → Result Look Refusal
look_by Less r = Ok (look.Below r)
look_by Equal r = Ok (look.Level r)
look_by Greater r = Ok look.Above

-- a record past the upper bound ends the run; any other is held against the lowest key
unfoldable pub look_head : List ℕ → Bound → List ℕ → Lowest → List ℕ → Head → Result Look Refusal
look_head run bound upper lowest low (Ok None) = Ok look.Gone
look_head run bound upper lowest low (Ok (Some r)) =
    cond (is_past bound upper (key_in run r)) (Ok look.Gone) (look_by (against_lowest lowest low (key_in run r)) r)
look_head run bound upper lowest low (Err why) = Err why

unfoldable pub look_at : List ℕ → Place → Bound → List ℕ → Lowest → List ℕ → Result Look Refusal
look_at run Gone bound upper lowest low = Ok look.Gone
look_at run (At at) bound upper lowest low = look_head run bound upper lowest low (head_at run at)

-- ---- all of them

-- the key and the value of the lowest record
unfoldable pub lowest_key : List ℕ → List ℕ → Lowest → List ℕ
lowest_key bytes ends (Ok None) = []
lowest_key bytes ends (Ok (Some held)) = key_in (run_of bytes ends held.run) held.head
lowest_key bytes ends (Err why) = []

unfoldable pub lowest_value : List ℕ → List ℕ → Lowest → List ℕ
lowest_value bytes ends (Ok None) = []
lowest_value bytes ends (Ok (Some held)) = value_in (run_of bytes ends held.run) held.head
lowest_value bytes ends (Err why) = []

-- what run i shows to a pass
unfoldable pub shows : List ℕ → List ℕ → Bound → List ℕ → ℕ → Pass → Result Look Refusal
shows bytes ends bound upper i p =
    look_at (run_of bytes ends i) (place_of p.places i) bound upper p.lowest (lowest_key bytes ends p.lowest)

-- a run without a head is gone
abbrev pub with_gone : ℕ → Pass → Pass
with_gone i p = record { places = set p.places i gone; stepped = set p.stepped i gone; lowest = p.lowest }

-- a holder of the lowest key steps on with the others, and decides, since it is the newest so far
abbrev pub with_holder : ℕ → Record → Pass → Pass
with_holder i r p = record { places = p.places; stepped = set p.stepped i (at_place r.next); lowest = Ok (Some (record { run = i; head = r })) }

-- the holder of a lower key is the only one that steps on
abbrev pub with_lowest : ℕ → Record → Pass → Pass
with_lowest i r p = record { places = p.places; stepped = set p.places i (at_place r.next); lowest = Ok (Some (record { run = i; head = r })) }

abbrev pub with_refusal : Refusal → Pass → Pass
with_refusal why p = record { places = p.places; stepped = p.stepped; lowest = Err why }

-- what a look changes, with the looks at the later runs at hand; a refusal ends the pass
unfoldable pub change : Result Look Refusal → ℕ → Pass → (Pass → Pass) → Pass
change (Ok look.Gone) i p later = later (with_gone i p)
change (Ok look.Above) i p later = later p
change (Ok (look.Level r)) i p later = later (with_holder i r p)
change (Ok (look.Below r)) i p later = later (with_lowest i r p)
change (Err why) i p later = with_refusal why p

-- a pass over `count` runs from run i on
unfoldable pub pass_from : List ℕ → List ℕ → Bound → List ℕ → ℕ → ℕ → Pass → Pass
pass_from bytes ends bound upper zero i p = p
pass_from bytes ends bound upper (suc count) i p =
    change (shows bytes ends bound upper i p) i p (λ q. pass_from bytes ends bound upper count (suc i) q)

abbrev pub unseen : List RunPlace → Pass
unseen places = record { places = places; stepped = places; lowest = Ok None }

unfoldable pub pass_of : List ℕ → List ℕ → Bound → List ℕ → List RunPlace → Pass
pass_of bytes ends bound upper places = pass_from bytes ends bound upper (length ends) 0 (unseen places)

-- The tables of bounds, of room and of an entry before a refusal hold, case by case. Assumes nothing.
use mathlib.Core.Path.{◌≡◌, refl}
use mathlib.Core.List.{map, flatten}
use Rattle.types.specs.Histories.{told_by_each}
use Rattle.types.specs.Bytes.{word}
use Rattle.run.specs.Bounds.{past_by}
use Rattle.keys.specs.Keys.{compare_keys}
use Rattle.slices.specs.Parts.{part_to}
use Rattle.slices.specs.Patch.{over}
use Rattle.run.specs.Records.{body_at, head_by, head_at}
use Rattle.run.specs.Search.{sought_by, sought_head, sought_from, search_in}
use Rattle.cursor.specs.Checks.{rising_ends, good_runs, good_place, good_from, good_places, new_check, next_check}
use Rattle.cursor.specs.New.{after_search, new_from, new_of}
use Rattle.cursor.specs.Next.{fitted, answer_by, places_by, put_by, moved_by, next_of, next_key, next_value}
use Rattle.cursor.specs.Pass.{against_lowest, look_by, look_head, look_at, lowest_key, lowest_value, shows, change, pass_from, pass_of}
use Rattle.cursor.specs.Runs.{start_of}
use Rattle.cursor.specs.Settle.{is_hidden, left_at, sum_to, bytes_ahead, settle_from, settled}
use Rattle.cursor.specs.ReferenceCases.{live_b, live_c, ends_from, shown_key, shown_value, places_in, effect_of, effects_of, given, expected, call}
use Rattle.cursor.specs.BoundTable.{BoundCase, RoomCase, three_keys, bound_cases, keys_by, keys_from, bound_outcome, room_cases, room_outcome, damaged_run}

pub bound-table : (map bound_outcome bound_cases ≡ map (λ (x : BoundCase). x.keys) bound_cases)
    × (map room_outcome room_cases ≡ map (λ (x : RoomCase). x.number) room_cases) × (effects_of damaged_run ≡ expected damaged_run)
unfolding word past_by compare_keys part_to body_at head_by head_at sought_by sought_head sought_from search_in rising_ends good_runs good_place good_from
    good_places new_check next_check after_search new_from new_of fitted answer_by places_by over put_by moved_by next_of next_key against_lowest
    look_by look_head look_at lowest_key shows change pass_from pass_of start_of is_hidden left_at sum_to bytes_ahead settle_from settled live_b live_c
    lowest_value three_keys bound_cases keys_by keys_from bound_outcome room_cases room_outcome next_value flatten ends_from shown_key shown_value
    places_in effect_of told_by_each effects_of given expected call damaged_run
bound-table = (refl, refl, refl)

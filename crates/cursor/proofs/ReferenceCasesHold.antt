-- The reference cases on runs hold: one claim over the table, by computation. Assumes nothing.
use mathlib.Core.Path.{◌≡◌, refl}
use mathlib.Core.List.{map, flatten}
use Rattle.types.specs.Histories.{told_by_each}
use Rattle.types.specs.Bytes.{word}
use Rattle.run.specs.Bounds.{past_by}
use Rattle.keys.specs.Keys.{compare_keys}
use Rattle.slices.specs.Parts.{part_to}
use Rattle.slices.specs.Patch.{over}
use Rattle.run.specs.Records.{body_at, head_by, head_at}
use Rattle.run.specs.Search.{sought_by, sought_head, sought_from, search_in}
use Rattle.cursor.specs.Checks.{rising_ends, good_runs, good_place, good_from, good_places, new_check, next_check}
use Rattle.cursor.specs.New.{after_search, new_from, new_of}
use Rattle.cursor.specs.Next.{fitted, answer_by, places_by, put_by, moved_by, next_of, next_key, next_value}
use Rattle.cursor.specs.Pass.{against_lowest, look_by, look_head, look_at, lowest_key, lowest_value, shows, change, pass_from, pass_of}
use Rattle.cursor.specs.Runs.{start_of}
use Rattle.cursor.specs.Settle.{is_hidden, left_at, sum_to, bytes_ahead, settle_from, settled}
use Rattle.cursor.specs.ReferenceCases.{live_b, live_c, both_runs, ends_from, shown_key, shown_value, places_in, effect_of, effects_of}
use Rattle.cursor.specs.ReferenceCases.{given, expected, call, room_for_all, no_room_first, reference_cases}

pub reference-cases-hold : map effects_of reference_cases ≡ map expected reference_cases
unfolding word past_by compare_keys part_to body_at head_by head_at sought_by sought_head sought_from search_in rising_ends good_runs good_place good_from
    good_places new_check next_check after_search new_from new_of fitted answer_by places_by over put_by moved_by next_of next_key next_value
    against_lowest look_by look_head look_at lowest_key lowest_value shows change pass_from pass_of start_of is_hidden left_at sum_to bytes_ahead settle_from
    settled live_b live_c both_runs flatten ends_from shown_key shown_value places_in effect_of told_by_each effects_of given expected call
    room_for_all no_room_first reference_cases
reference-cases-hold = refl

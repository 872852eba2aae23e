-- The claims on a merge, on two small runs that meet their premises: a new cursor is made, next comes to its end, and what it hands out
-- is the merge. The calls themselves are computed. Assumes nothing.
use Rattle.std.specs.Prelude.{Ok}
use mathlib.Core.Path.{◌≡◌, refl}
use mathlib.Core.Bool.{true, false}
use mathlib.Core.List.{List, [], flatten}
use Prim.Native.Nat.{ℕ, zero, suc, ◌≤◌, ◌<◌}
use native.Mathlib.Nat.{le_refl}
use native.Mathlib.Omega.{arith}
use lib.ListN.{length}
use Rattle.types.specs.Build.{max_key_size, max_value_size}
use Rattle.types.specs.Bytes.{word}
use Rattle.run.specs.Bounds.{past_by}
use Rattle.run.specs.Items.{Reads, Below, Rising}
use Rattle.run.specs.Kinds.{Unbounded}
use Rattle.keys.specs.Keys.{compare_keys}
use Rattle.slices.specs.Parts.{part_to}
use Rattle.slices.specs.Patch.{over}
use Rattle.run.specs.Records.{body_at, head_by, head_at}
use Rattle.run.specs.Records as records
use Rattle.run.specs.Search.{sought_by, sought_head, sought_from, search_in}
use Rattle.cursor.specs.Checks.{rising_ends, good_runs, good_place, good_from, good_places, new_check, next_check}
use Rattle.cursor.specs.Merged.{between, Pair, Hands, Merged}
use Rattle.cursor.specs.New.{after_search, new_from, new_of}
use Rattle.cursor.specs.Next.{fitted, answer_by, places_by, put_by, moved_by, next_of, next_key, next_value}
use Rattle.cursor.specs.Pass.{against_lowest, look_by, look_head, look_at, lowest_key, lowest_value, shows, change, pass_from, pass_of}
use Rattle.cursor.specs.Runs.{start_of, run_of}
use Rattle.cursor.specs.Settle.{is_hidden, left_at, sum_to, bytes_ahead, settle_from, settled}
use Rattle.cursor.specs.ReferenceCases.{live_b, live_c, both_runs, ends_from}
use Rattle.cursor.specs.WorkedMerge.{worked_bytes, worked_ends, worked_items, key_buffer, value_buffer, worked_pairs}
use Rattle.cursor.proofs.MergeClaims.{merge-hands, merge-exact}

-- ---- the premises

good : good_runs (length worked_bytes) worked_ends ≡ true
unfolding rising_ends good_runs live_b live_c flatten ends_from both_runs worked_bytes worked_ends
good = refl

reads-0 : Reads (run_of worked_bytes worked_ends 0) 0 (worked_items 0)
unfolding word part_to body_at head_by head_at start_of live_b live_c flatten ends_from both_runs worked_bytes worked_ends worked_items
reads-0 = Reads.more (records.record_with false 6 1 1) refl (Reads.more (records.record_with false 14 1 1) refl (Reads.end refl))

reads-1 : Reads (run_of worked_bytes worked_ends 1) 0 (worked_items 1)
unfolding word part_to body_at head_by head_at start_of live_b live_c flatten ends_from both_runs worked_bytes worked_ends worked_items
reads-1 = Reads.more (records.record_with true 6 1 0) refl (Reads.more (records.record_with false 13 1 1) refl (Reads.end refl))

rises : Rising (worked_items 0) × Rising (worked_items 1)
unfolding compare_keys Below Rising worked_items
rises = (((refl, tt), (tt, tt)), ((refl, tt), (tt, tt)))

-- there are two runs
two : (i : ℕ) → suc (suc i) < length worked_ends → ⊥
unfolding live_b live_c flatten ends_from both_runs worked_ends
two i b = let few : suc (suc i) < 2 = b in omega arith

reads : (i : ℕ) → i < length worked_ends → Reads (run_of worked_bytes worked_ends i) 0 (worked_items i)
reads zero b = reads-0
reads (suc zero) b = reads-1
reads (suc (suc i)) b = absurd (two i b)

rising : (i : ℕ) → i < length worked_ends → Rising (worked_items i)
rising zero b = rises.0
rising (suc zero) b = rises.1
rising (suc (suc i)) b = absurd (two i b)

rooms : (max_key_size ≤ length key_buffer) × (max_value_size ≤ length value_buffer)
unfolding key_buffer value_buffer
rooms = (le_refl max_key_size, le_refl max_value_size)

-- ---- the claims on them

pub worked-hands : ((new_of worked_bytes worked_ends Unbounded []).answer ≡ Ok tt)
    × ((pairs : List Pair) × Hands worked_bytes worked_ends Unbounded [] (new_of worked_bytes worked_ends Unbounded []).cursor key_buffer value_buffer pairs
    × Merged (length worked_ends) worked_items (between Unbounded [] Unbounded []) pairs)
worked-hands = merge-hands worked_bytes worked_ends good worked_items reads rising Unbounded [] Unbounded [] key_buffer value_buffer rooms.0 rooms.1

-- a, which the newer run deletes, is left out
handed : Hands worked_bytes worked_ends Unbounded [] (new_of worked_bytes worked_ends Unbounded []).cursor key_buffer value_buffer worked_pairs
unfolding word past_by compare_keys part_to body_at head_by head_at sought_by sought_head sought_from search_in rising_ends good_runs good_place good_from
    good_places new_check next_check after_search new_from new_of fitted answer_by places_by over put_by moved_by next_of next_key next_value
    against_lowest look_by look_head look_at lowest_key lowest_value shows change pass_from pass_of start_of is_hidden left_at sum_to bytes_ahead settle_from settled
    live_b live_c flatten ends_from both_runs worked_bytes worked_ends key_buffer value_buffer worked_pairs
handed = Hands.entry 1 1 refl (Hands.entry 1 1 refl (Hands.end refl))

pub worked-merge : Merged (length worked_ends) worked_items (between Unbounded [] Unbounded []) worked_pairs
worked-merge =
    merge-exact worked_bytes worked_ends good worked_items reads rising Unbounded [] Unbounded [] key_buffer value_buffer rooms.0 rooms.1 worked_pairs handed

-- The reference cases (docs/RULES.md, Reference cases), all of them, as one table of cases in its order. Each case stands in
-- the crate whose calls it is about, and comes to what the definitions give that those calls promise. Assumes nothing.
use Rattle.page.specs.Chunks.{Step}
use Rattle.std.specs.Prelude.{List, [], ◌∷◌}
use Rattle.types.specs.Answers.{Told}
use Rattle.page.specs.WalkTable as walks
use Rattle.run.specs.Items.{Item}
use Rattle.run.specs.RecordTable as records
use Rattle.cursor.specs.ReferenceCases as merges
use Rattle.alloc.specs.Rows as allocations
use Rattle.writer.specs.ReferenceCases as additions

-- an input, and what must come out
pub data Case : Type 0 where
  addition : additions.Case → Case
  walk : walks.WalkCase → Case
  allocation : allocations.Row → Case
  merge : merges.Case → Case
  record_bytes : records.RecordCase → Case

pub data Result : Type 0 where
  added : additions.Result → Result
  walked : Step → Result
  allocated : List Told → Result
  merged : List merges.Effect → Result
  says : List Item → Result

-- what comes out
unfoldable pub result_of : Case → Result
result_of (addition c) = added (additions.result_of c)
result_of (walk c) = walked (walks.walk_outcome c)
result_of (allocation c) = allocated (allocations.result_of c)
result_of (merge c) = merged (merges.effects_of c)
result_of (record_bytes c) = says (records.record_outcome c)

-- what must come out
unfoldable pub expected : Case → Result
expected (addition c) = added (additions.expected c)
expected (walk c) = walked c.finds
expected (allocation c) = allocated c.answers
expected (merge c) = merged (merges.expected c)
expected (record_bytes c) = says (c.says ∷ [])

unfoldable pub reference_cases : List Case
reference_cases =
    -- a page header
    addition additions.header
    -- a chunk that is added, whole and cut
    ∷ addition additions.one_added
    ∷ addition additions.one_cut
    -- a cut after which nothing more is added
    ∷ addition additions.zero_cut
    -- the longest payload, and one byte less
    ∷ addition additions.full
    ∷ addition additions.not_full
    -- a page that ends before the longest payload
    ∷ addition additions.higher_header
    -- the last offsets of a page, walked and written
    ∷ walk walks.header_at_4088
    ∷ walk walks.end_at_4092
    ∷ addition additions.at4088
    ∷ addition additions.at4084
    -- a chunk that just fits, and two that are too long
    ∷ walk walks.longest_at_12
    ∷ walk walks.longest_at_16
    ∷ walk walks.too_long
    -- pages in turn
    ∷ allocation allocations.in_turn
    -- two runs, and the bytes of their first records
    ∷ merge merges.room_for_all
    ∷ record_bytes records.live_a
    ∷ record_bytes records.deleted_a
    -- the same runs, first without room
    ∷ merge merges.no_room_first
    -- too few pages
    ∷ allocation allocations.too_few
    ∷ []

-- The table of records holds, case by case. Assumes nothing.
use mathlib.Core.Path.{◌≡◌, refl}
use mathlib.Core.List.{[], ◌∷◌, map}
use Rattle.types.specs.Bytes.{word, bytes_of}
use Rattle.slices.specs.Parts.{part_to}
use Rattle.run.specs.RecordTable.{RecordCase, record_cases, whole_item, record_outcome, HeadCase, kind_cases, limit_cases, order_cases, head_cases, record_of, head_outcome}
use Rattle.run.specs.Records.{body_at, head_by, head_at}

pub record-table : map record_outcome record_cases ≡ map (λ (c : RecordCase). c.says ∷ []) record_cases
unfolding whole_item record_outcome word part_to body_at head_by head_at
record-table = refl

pub head-table : map head_outcome head_cases ≡ map (λ (c : HeadCase). c.number) head_cases
unfolding kind_cases limit_cases order_cases head_cases record_of head_outcome word bytes_of body_at head_by head_at
head-table = refl

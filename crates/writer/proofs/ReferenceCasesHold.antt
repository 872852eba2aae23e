-- The reference cases on adding to a page hold: one claim over the table, by computation. Assumes nothing.
use mathlib.Core.Bool.{xor}
use mathlib.Core.Path.{◌≡◌, refl}
use mathlib.Core.List.{map}
use Rattle.types.specs.Bytes.{word, bytes_of}
use Rattle.types.specs.Histories.{left_after, told_by_each}
use Rattle.crc.specs.Published as crc
use Rattle.crc.specs.Register.{tap, stepped, steps, taken, updated}
use Rattle.slices.specs.Patch.{over, patch, blank}
use Rattle.page.specs.Checks.{open_check}
use Rattle.page.specs.Chunks.{chunk_header, chunk_at}
use Rattle.page.specs.Headers.{page_header}
use Rattle.page.specs.Walks.{walk, walk_from, all_erased}
use Rattle.writer.specs.Calls.{answer_to, made_by, left_by}
use Rattle.writer.specs.Commits.{chunk_ops}
use Rattle.writer.specs.Headings.{header_ops}
use Rattle.writer.specs.Openings.{opened, appended}
use Rattle.writer.specs.ReferenceCases.{extent_of, effect_of, result_of, expected, reference_cases}
use Rattle.writer.specs.States.{in_range}
use Rattle.writer.specs.Checks.{writer_check, heading_check}
use Rattle.writer.specs.Writes.{group_of, buffer_of, payload_ops, taking_ops}

pub reference-cases-hold : map result_of reference_cases ≡ map expected reference_cases
unfolding word bytes_of crc.bits crc.number crc.message crc.among crc.terms crc.generator xor crc.plus crc.divided crc.dividend crc.remainder
    crc.published tap stepped steps taken updated over patch blank chunk_header chunk_at page_header walk walk_from all_erased answer_to made_by left_by
    left_after told_by_each chunk_ops header_ops opened appended extent_of effect_of result_of expected reference_cases in_range writer_check heading_check
    open_check group_of buffer_of payload_ops taking_ops
reference-cases-hold = refl

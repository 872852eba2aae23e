-- What each call answers, the reader that it hands back, and the bytes that it puts (docs/RULES.md, Reading): the refusal of its
-- checks, with the reader and the bytes as they were, or its work. Assumes nothing.
use Rattle.reader.specs.declared.answers.EndTest.{EndTest}
use Rattle.std.specs.declared.result.Result.{Result}
use Rattle.types.specs.declared.refusal.Corrupted.{Corrupted}
use Rattle.std.specs.Prelude.{◌||◌, cond, List, ℕ, ◌+◌, ◌-◌, min, length, Ok, Err, ⊤}
use Rattle.types.specs.Build.{page_header_size}
use Rattle.types.specs.Checks.{corruption, refused_or}
use Rattle.types.specs.declared.page_id.PageID.{PageID}
use Rattle.types.specs.declared.refusal.Refusal.{Refusal}
use Rattle.types.specs.declared.refusal.Refusal.TheVariants as row
use Rattle.flash.specs.Geometry.{page_of}
use Rattle.slices.specs.Patch.{over}
use Rattle.page.specs.Checks.{open_check}
use Rattle.page.specs.Chunks.{payload_fine, checked_at}
use Rattle.page.specs.Headers.{header_of, page_header_fine}
use Rattle.reader.specs.Checks.{state_check, reader_check}
use Rattle.reader.specs.Moves.{arriving, ready, rest_of, past, skipped}
use Rattle.reader.specs.States.{unread, stored, restored}
use Rattle.reader.specs.declared.answers.EndTest.TheVariants as end_test
use Rattle.reader.specs.declared.answers.Passage.{Passage}
use Rattle.reader.specs.declared.moves.Passed.{Passed}
use Rattle.reader.specs.declared.dehydrated.DehydratedPageReader.{DehydratedPageReader}
use Rattle.reader.specs.declared.page_reader.PageReader.{PageReader}

module _ {A : Type 0} where
  -- what a call comes to: its answer, and the reader that it leads to; or the refusal, and the reader as at entry
  abbrev pub passage_from : PageReader → Result (A × PageReader) Refusal → Passage A
  passage_from r (Ok done) = record { answer = Ok done.0; reader = done.1 }
  passage_from r (Err why) = record { answer = Err why; reader = r }

-- ---- read_header

-- 1 where the page header is not fine
unfoldable pub read_header : List ℕ → ℕ → PageID → ℕ → Result ⊤ Refusal
read_header flash magic page h =
    refused_or (open_check (length flash) h page) Err
    (cond (page_header_fine (page_of page.0 flash) magic page.0 h) (Ok tt) (Err row.Corrupted))

-- the header buffer afterwards: the higher header's bytes, where nothing was refused
abbrev pub filled : Result ⊤ Refusal → List ℕ → List ℕ → List ℕ
filled (Ok tt) bytes header = bytes
filled (Err why) bytes header = header

unfoldable pub read_header_bytes : List ℕ → ℕ → PageID → List ℕ → List ℕ
read_header_bytes flash magic page header =
    filled (read_header flash magic page (length header)) (header_of (page_of page.0 flash) (length header)) header

-- ---- open

-- the page header is checked, then the first chunk's header, then its sum
abbrev pub opening : List ℕ → ℕ → PageID → ℕ → Result PageReader Corrupted
opening bytes magic page h =
    cond (page_header_fine bytes magic page.0 h) (arriving (unread page) (page_header_size + h) (checked_at bytes (page_header_size + h))) (Err corruption)

-- refused, with the reader as at entry
abbrev pub refused_opening : PageReader → Refusal → Passage ⊤
refused_opening r why = record { answer = Err why; reader = r }

-- the reader that comes back: the one that arrived, or the one at entry
abbrev pub opening_of : PageReader → Result PageReader Corrupted → Passage ⊤
opening_of r (Ok s) = record { answer = Ok tt; reader = s }
opening_of r (Err w) = refused_opening r row.Corrupted

unfoldable pub open_page : PageReader → List ℕ → ℕ → PageID → ℕ → Passage ⊤
open_page r flash magic page h =
    refused_or (open_check (length flash) h page) (refused_opening r) (opening_of r (opening (page_of page.0 flash) magic page h))

-- the header buffer afterwards, which keeps its bytes where the first chunk is bad
unfoldable pub open_bytes : PageReader → List ℕ → ℕ → PageID → List ℕ → List ℕ
open_bytes r flash magic page header =
    filled (open_page r flash magic page (length header)).answer (header_of (page_of page.0 flash) (length header)) header

-- ---- read

-- refused, with the reader as at entry
abbrev pub refused_passage : PageReader → Refusal → Passage ℕ
refused_passage r why = record { answer = Err why; reader = r }

-- the smaller of the room and what is left is read
abbrev pub read_of : List ℕ → PageReader → ℕ → Result PageReader Corrupted → Passage ℕ
read_of page r room (Ok s) =
    record { answer = Ok (min room (length (rest_of page s))); reader = past s (min room (length (rest_of page s))) }
read_of page r room (Err w) = refused_passage r row.Corrupted

unfoldable pub read : PageReader → List ℕ → ℕ → Passage ℕ
read r flash room =
    refused_or (reader_check (length flash) r) (refused_passage r)
    (read_of (page_of r.page.0 flash) r room (ready (page_of r.page.0 flash) r))

-- the buffer afterwards: what was read over its start, the rest as it was
abbrev pub laid_over : List ℕ → List ℕ → Result PageReader Corrupted → List ℕ
laid_over page buffer (Ok s) = over (rest_of page s) buffer
laid_over page buffer (Err w) = buffer

unfoldable pub read_bytes : PageReader → List ℕ → List ℕ → List ℕ
read_bytes r flash buffer =
    refused_or (reader_check (length flash) r) (λ _. buffer) (laid_over (page_of r.page.0 flash) buffer (ready (page_of r.page.0 flash) r))

-- ---- skip

-- the bytes passed are those asked for, less those that were missing
abbrev pub passage_of : PageReader → ℕ → Result Passed Corrupted → Passage ℕ
passage_of r n (Ok passed') = record { answer = Ok (n - passed'.left); reader = passed'.reader }
passage_of r n (Err w) = refused_passage r row.Corrupted

unfoldable pub skip : PageReader → List ℕ → ℕ → Passage ℕ
skip r flash n = refused_or (reader_check (length flash) r) (refused_passage r) (passage_of r n (skipped (page_of r.page.0 flash) n r))

-- ---- is_at_eof

-- refused, with the reader as at entry
abbrev pub refused_end_test : PageReader → Refusal → Passage EndTest
refused_end_test r why = record { answer = Err why; reader = r }

-- whether the reader that arrived has ended
abbrev pub tested : PageReader → Result PageReader Corrupted → Passage EndTest
tested r (Ok s) = record { answer = cond s.ended (Ok end_test.AtEnd) (Ok end_test.More); reader = s }
tested r (Err w) = refused_end_test r row.Corrupted

unfoldable pub is_at_eof : PageReader → List ℕ → Passage EndTest
is_at_eof r flash = refused_or (reader_check (length flash) r) (refused_end_test r) (tested r (ready (page_of r.page.0 flash) r))

-- ---- dehydrate, rehydrate_from

unfoldable pub dehydrate : PageReader → Result DehydratedPageReader Refusal
dehydrate r = refused_or (state_check r) Err (Ok (stored r))

-- a kept reader: one at its end, or one whose chunk's payload is all there and has the sum that it kept
abbrev pub rehydrating : List ℕ → PageReader → Result PageReader Corrupted
rehydrating page s = cond (s.ended || payload_fine page s.offset s.len s.crc) (Ok s) (Err corruption)

unfoldable pub rehydrate_from : PageReader → List ℕ → DehydratedPageReader → Passage ⊤
rehydrate_from r flash d =
    refused_or (reader_check (length flash) (restored d)) (refused_opening r) (opening_of r (rehydrating (page_of d.page.0 flash) (restored d)))

-- ---- page_id

unfoldable pub page_id : PageReader → Result PageID Refusal
page_id r = refused_or (state_check r) Err (Ok r.page)

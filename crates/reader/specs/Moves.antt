-- How a reader goes over its page (docs/RULES.md, Reading). The page is the list of its bytes. Assumes nothing.
use Rattle.types.specs.Checks.{corruption}
use Rattle.std.specs.declared.result.Result.{Result}
use Rattle.types.specs.declared.refusal.Corrupted.{Corrupted}
use Rattle.std.specs.Prelude.{◌≡◌, true, false, cond, List, [], ℕ, zero, suc, ◌+◌, ◌-◌, ◌/◌, ◌≤◌, eqb, leb, length, drop, Ok, Err, Some, None}
use Rattle.types.specs.Build.{page_size, chunk_header_size}
use Rattle.page.specs.Chunks.{next_offset, payload_at, checked_at, Step}
use Rattle.reader.specs.declared.moves.Passed.{Passed}
use Rattle.reader.specs.declared.page_reader.PageReader.{PageReader}

-- a reader whose chunk, if it is in one, lies within the page, and its position within the chunk
abbrev pub Whole : PageReader → Type 0
Whole r = r.ended ≡ false → (r.offset + chunk_header_size + r.len ≤ page_size) × (r.position ≤ r.len)

-- the reader r at what was found at o: at the start of a chunk, or at the end, where it keeps what it knew of the last chunk
abbrev pub arriving : PageReader → ℕ → Step → Result PageReader Corrupted
arriving r o (Ok None) = Ok (record { page = r.page; ended = true; offset = o; len = r.len; crc = r.crc; position = r.position })
arriving r o (Err w) = Err corruption
arriving r o (Ok (Some chunk)) = Ok (record { page = r.page; ended = false; offset = o; len = chunk.len; crc = chunk.crc; position = 0 })

-- the reader moved to the chunk after its own, whose header and sum are checked
unfoldable pub moved : List ℕ → PageReader → Result PageReader Corrupted
moved page r = arriving r (next_offset r.offset r.len) (checked_at page (next_offset r.offset r.len))

-- the reader before it reads: moved once where its chunk is used up
unfoldable pub ready : List ℕ → PageReader → Result PageReader Corrupted
ready page r = cond r.ended (Ok r) (cond (eqb r.position r.len) (moved page r) (Ok r))

-- what is left of the payload of the reader's chunk
unfoldable pub rest_of : List ℕ → PageReader → List ℕ
rest_of page r = cond r.ended [] (drop r.position (payload_at page r.offset r.len))

-- the reader n bytes further in its chunk
abbrev pub past : PageReader → ℕ → PageReader
past r n =
    record { page = r.page; ended = r.ended; offset = r.offset; len = r.len; crc = r.crc; position = r.position + n }

-- go on where the reader arrived
abbrev pub onward : (PageReader → (Result Passed Corrupted)) → Result PageReader Corrupted → Result Passed Corrupted
onward further (Ok s) = further s
onward further (Err w) = Err corruption

-- the reader past `count` bytes, over at most n chunks: if the present chunk has too few, the others come from the chunks after it
unfoldable pub skip_by : ℕ → List ℕ → ℕ → PageReader → Result Passed Corrupted
skip_by zero page count r = Ok (record { reader = r; left = count })
skip_by (suc n) page count r =
    cond r.ended (Ok (record { reader = r; left = count }))
    (cond (leb count (length (rest_of page r))) (Ok (record { reader = past r count; left = 0 }))
    (onward (skip_by n page (count - length (rest_of page r))) (moved page (past r (length (rest_of page r))))))

-- the reader past `count` bytes, or at the end: every chunk takes at least its header, so no page has more chunks
unfoldable pub skipped : List ℕ → ℕ → PageReader → Result Passed Corrupted
skipped page count r = skip_by (suc (page_size / chunk_header_size)) page count r

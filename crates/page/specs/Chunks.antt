-- A chunk: mark u16, length u16, the sum of the payload, then the payload and padding to a multiple of 4
-- (docs/FORMAT.md, Pages). Assumes nothing.
use Rattle.std.specs.declared.option.Option.{Option}
use Rattle.std.specs.declared.result.Result.{Result}
use Rattle.types.specs.declared.refusal.Corrupted.{Corrupted}
use Rattle.page.specs.declared.chunk.ChunkAt.{ChunkAt}
use Rattle.types.specs.Checks.{corruption}
use Rattle.std.specs.Prelude.{Bool, cond, ◌&&◌, List, ◌++◌, ℕ, ◌+◌, ◌-◌, ◌*◌, ◌/◌, eqb, ltb, length, take, drop, Ok, Err, Some, None}
use Rattle.types.specs.Build.{page_size, align, chunk_header_size, max_chunk_size}
use Rattle.types.specs.Bytes.{bytes_of}
use Rattle.crc.specs.Published.{published}
use Rattle.slices.specs.Fields.{field}

-- a chunk, none where the chunks end, or a refusal
abbrev pub Step : Type 0
Step = Result (Option ChunkAt) Corrupted

-- a chunk of len bytes with this sum, and where the next one starts
abbrev pub found_chunk : ℕ → ℕ → ℕ → Step
found_chunk len crc next = Ok (Some (record { len = len; crc = crc; next = next }))

-- the mark of a chunk
abbrev pub chunk_magic : ℕ
chunk_magic = 0x59C5

-- n rounded up to a multiple of 4
abbrev pub align_up : ℕ → ℕ
align_up n = (n + (align - 1)) / align * align

-- the header of a chunk
unfoldable pub chunk_header : ℕ → ℕ → List ℕ
chunk_header len crc = bytes_of 2 chunk_magic ++ (bytes_of 2 len ++ bytes_of 4 crc)

-- where the chunk after one at o with len bytes starts
abbrev pub next_offset : ℕ → ℕ → ℕ
next_offset o len = align_up (o + chunk_header_size + len)

-- a chunk at o whose header says len: it is too long, passes the page's end or the bytes that are there, or is one
abbrev pub chunk_of : List ℕ → ℕ → ℕ → ℕ → Step
chunk_of page o len crc =
    cond (ltb max_chunk_size len) (Err corruption)
    (cond (ltb page_size (o + chunk_header_size + len)) (Err corruption)
    (cond (ltb (length page) (o + chunk_header_size + len)) (Err corruption) (found_chunk len crc (next_offset o len))))

-- what the walk finds at o: no room for a header, bytes too few for one, and a wrong mark are the end
unfoldable pub chunk_at : List ℕ → ℕ → Step
chunk_at page o =
    cond (ltb page_size (o + chunk_header_size)) (Ok None)
    (cond (ltb (length page) (o + chunk_header_size)) (Ok None)
    (cond (eqb (field 2 page o) chunk_magic) (chunk_of page o (field 2 page (o + 2)) (field 4 page (o + 4))) (Ok None)))

-- the payload of a chunk at o with len bytes
abbrev pub payload_at : List ℕ → ℕ → ℕ → List ℕ
payload_at page o len = take len (drop (o + chunk_header_size) page)

-- whether a payload is all there, and its sum is right
abbrev pub payload_fine : List ℕ → ℕ → ℕ → ℕ → Bool
payload_fine page o len crc = eqb (length (payload_at page o len)) len && eqb (published (payload_at page o len)) crc

-- a chunk whose payload is not all there, or whose sum is wrong, is corrupted
abbrev pub sum_checked : List ℕ → ℕ → Step → Step
sum_checked page o (Ok None) = Ok None
sum_checked page o (Err w) = Err corruption
sum_checked page o (Ok (Some chunk)) = cond (payload_fine page o chunk.len chunk.crc) (Ok (Some chunk)) (Err corruption)

-- what a reader finds at o: the header is checked, then the sum
unfoldable pub checked_at : List ℕ → ℕ → Step
checked_at page o = sum_checked page o (chunk_at page o)

-- What a new reader finds on a page, by the calls' own definitions: open, then reads until one answers 0 or refuses. And what
-- the page's walk says of it. Assumes nothing.
use Rattle.types.specs.Checks.{Verdict}
use Rattle.std.specs.declared.result.Result.{Result}
use Rattle.types.specs.declared.refusal.Corrupted.{Corrupted}
use Rattle.types.specs.declared.refusal.Refusal.{Refusal}
use Rattle.std.specs.Prelude.{Bool, cond, ℕ, zero, suc, ◌≤◌, length, take, drop, Ok, Err, ⊤}
use mathlib.Core.List.{List, [], ◌∷◌, flatten}
use Rattle.types.specs.Build.{page_size, max_chunk_size}
use Rattle.types.specs.declared.page_id.PageID.{PageID}
use Rattle.types.specs.declared.refusal.Refusal.TheVariants as row
use Rattle.slices.specs.Patch.{blank}
use Rattle.page.specs.Chunks.{payload_at, payload_fine}
use Rattle.page.specs.Walks.{Chunk, walk_from}
use Rattle.reader.specs.Calls.{open_page, read, read_bytes}
use Rattle.reader.specs.States.{new_reader}
use Rattle.reader.specs.declared.page_reader.PageReader.{PageReader}

-- what was handed out, call by call, and how it ended: with nothing more, or refused
pub record Found : Type 0 where
  pub parts : List (List ℕ)
  pub ends : Verdict

abbrev pub nothing_more : Verdict → Found
nothing_more v = record { parts = []; ends = v }

abbrev pub and_then : List ℕ → Found → Found
and_then part rest = record { parts = part ∷ rest.parts; ends = rest.ends }

-- ---- by the calls

-- after a read: at 0 and at a refusal it ends, else the first bytes of the buffer were handed out
abbrev pub read_on : (PageReader → Found) → List ℕ → Result ℕ Refusal → PageReader → Found
read_on further buffer (Ok zero) r = nothing_more (Ok tt)
read_on further buffer (Ok (suc n)) r = and_then (take (suc n) buffer) (further r)
read_on further buffer (Err why) r = nothing_more (Err why)

-- at most n reads, each into the next of the buffers
unfoldable pub reads : ℕ → (ℕ → List ℕ) → List ℕ → PageReader → Found
reads zero buffers flash r = nothing_more (Ok tt)
reads (suc n) buffers flash r =
    read_on (reads n (λ i. buffers (suc i)) flash) (read_bytes r flash (buffers 0)) (read r flash (length (buffers 0))).answer (read r flash (length (buffers 0))).reader

abbrev pub read_all : (PageReader → Found) → Result ⊤ Refusal → PageReader → Found
read_all further (Ok tt) r = further r
read_all further (Err why) r = nothing_more (Err why)

-- with these buffers: each read but the last hands out a byte or more, so a page has no more of them
unfoldable pub found_with : (ℕ → List ℕ) → List ℕ → ℕ → PageID → ℕ → Found
found_with buffers flash magic page h =
    read_all (reads (suc page_size) buffers flash) (open_page new_reader flash magic page h).answer (open_page new_reader flash magic page h).reader

-- with buffers that hold a whole chunk
unfoldable pub found : List ℕ → ℕ → PageID → ℕ → Found
found flash magic page h = found_with (λ i. blank 0 max_chunk_size) flash magic page h

-- ---- by the walk

abbrev pub payload_of : List ℕ → Chunk → List ℕ
payload_of page c = payload_at page c.offset c.len

abbrev pub NotEmpty : Chunk → Type 0
NotEmpty c = 1 ≤ c.len

-- its payload is all there, and the sum is right
abbrev pub sum_right : List ℕ → Chunk → Bool
sum_right page c = payload_fine page c.offset c.len c.crc

-- the end of a walk, or a chunk that cannot be
abbrev pub end_verdict : Result ℕ Corrupted → Verdict
end_verdict (Ok o) = Ok tt
end_verdict (Err w) = Err row.Corrupted

-- the payloads up to the first chunk whose sum is wrong, which is refused; after the last one the walk's end decides
unfoldable pub good_part : List ℕ → List Chunk → Result ℕ Corrupted → Found
good_part page [] e = nothing_more (end_verdict e)
good_part page (c ∷ cs) e = cond (sum_right page c) (and_then (payload_of page c) (good_part page cs e)) (nothing_more (Err row.Corrupted))

-- the walk's chunks from o on, so far as they are good
abbrev pub walk_finds : List ℕ → ℕ → Found
walk_finds page o = good_part page (walk_from page o).chunks (walk_from page o).ending

-- ---- all bytes as one

pub record Joined : Type 0 where
  pub bytes : List ℕ
  pub ends : Verdict

abbrev pub joined : Found → Joined
joined f = record { bytes = flatten f.parts; ends = f.ends }

-- without the first n of them
abbrev pub without : ℕ → Joined → Joined
without n j = record { bytes = drop n j.bytes; ends = j.ends }

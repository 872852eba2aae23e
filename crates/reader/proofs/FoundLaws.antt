-- What a new reader finds is what the walk says: the payloads of the walk's chunks, and a refusal exactly at the first chunk
-- whose header or sum is bad. Assumes nothing.
use Rattle.std.specs.Prelude.{Ok, Err, Some, None}
use Rattle.types.specs.Checks.{corruption}
use mathlib.Core.Path.{◌≡◌, refl, sym, ap, ap₂, ◌∙◌}
use mathlib.Core.Bool.{Bool, true, false}
use mathlib.Core.List.{List, [], ◌∷◌, map}
use Prim.Native.Nat.{ℕ, zero, suc, ◌+◌, ◌-◌, ◌%◌, ◌≤◌, ◌<◌, min}
use native.Mathlib.Nat.{not-suc-le-zero}
use native.Mathlib.Omega.{arith}
use lib.ListN.{length, take, length-take, length-drop}
use lib.Seq.{take_all}
use Rattle.types.specs.Build.{page_size, align, page_header_size, chunk_header_size, max_chunk_size}
use Rattle.types.specs.declared.page_id.PageID.{PageID}
use Rattle.types.specs.declared.refusal.Refusal.{Refusal}
use Rattle.types.specs.declared.refusal.Refusal.TheVariants as row
use Rattle.flash.specs.Geometry.{page_start, page_of}
use Rattle.slices.specs.Patch.{blank}
use Rattle.flash.proofs.GeometryLaws.{length-page}
use Rattle.slices.proofs.OverLaws.{take-over}
use Rattle.slices.proofs.PatchLaws.{length-blank}
use Rattle.page.specs.Checks.{open_check}
use Rattle.page.specs.Chunks.{next_offset, chunk_at, payload_at, checked_at, Step, found_chunk}
use Rattle.page.specs.Headers.{page_header_fine}
use Rattle.page.specs.Walks.{Walked, walk_from}
use Rattle.page.proofs.CheckLaws.{Inside, open-checked}
use Rattle.page.proofs.ChunkLaws as chunks
use Rattle.page.proofs.ChunkLaws.{chunk-found, checked-found}
use Rattle.page.proofs.LaidLaws.{All, walk-count}
use Rattle.page.proofs.WalkLaws.{walk-chunk}
use Rattle.reader.specs.Calls.{refused_passage, read, read_bytes, opening_of, open_page}
use Rattle.reader.specs.Checks.{reader_check}
use Rattle.reader.specs.Finds.{NotEmpty, nothing_more, and_then, read_on, reads, read_all, found_with, found, payload_of, walk_finds}
use Rattle.reader.specs.Moves.{arriving, moved, ready, rest_of, past}
use Rattle.reader.specs.States.{new_reader, unread}
use Rattle.reader.specs.declared.answers.Passage.{Passage}
use Rattle.reader.specs.declared.page_reader.PageReader.{PageReader}
use Rattle.reader.proofs.CheckLaws.{InRange, reader-fine}
use Rattle.reader.proofs.GoodLaws.{Right, good-whole, finds_at, finds-step}
use Rattle.reader.proofs.MoveLaws.{apart, ready-ended, ready-used, ready-in, rest_in, rest_ended}
use Rattle.reader.proofs.ReadLaws.{read-bad, read_at}

-- ---- one read of many

module _ (flash : List ℕ) (r : PageReader) (v : reader_check (length flash) r ≡ Ok tt) (n : ℕ) (buffers : ℕ → List ℕ) where
  reads_as : (p : Passage ℕ) → p ≡ read r flash (length (buffers 0))
      → reads (suc n) buffers flash r ≡ read_on (reads n (λ i. buffers (suc i)) flash) (read_bytes r flash (buffers 0)) p.answer p.reader
  unfolding reads
  reads_as p e = rw e

  pub reads-bad : ready (page_of r.page.0 flash) r ≡ Err corruption → reads (suc n) buffers flash r ≡ nothing_more (Err row.Corrupted)
  reads-bad a = reads_as (refused_passage r row.Corrupted) (read-bad r flash v (buffers 0) a).0

  pub reads_end : (s : PageReader) → ready (page_of r.page.0 flash) r ≡ Ok s → rest_of (page_of r.page.0 flash) s ≡ []
      → reads (suc n) buffers flash r ≡ nothing_more (Ok tt)
  reads_end s a e =
      let none : length (rest_of (page_of r.page.0 flash) s) ≡ 0 = ap length e in
      reads_as (record { answer = Ok 0; reader = past s 0 }) (read_at r flash v (buffers 0) s 0 a (omega arith)).0

  pub reads-some : (s : PageReader) (k : ℕ) → ready (page_of r.page.0 flash) r ≡ Ok s
      → suc k ≡ min (length (buffers 0)) (length (rest_of (page_of r.page.0 flash) s))
      → reads (suc n) buffers flash r
      ≡ and_then (take (suc k) (rest_of (page_of r.page.0 flash) s)) (reads n (λ i. buffers (suc i)) flash (past s (suc k)))
  reads-some s k a e =
      let rest = rest_of (page_of r.page.0 flash) s in
      let at = read_at r flash v (buffers 0) s (suc k) a e in
      reads_as (record { answer = Ok (suc k); reader = past s (suc k) }) at.0
      ∙ ap (λ (l : List ℕ). and_then (take (suc k) l) (reads n (λ i. buffers (suc i)) flash (past s (suc k)))) (sym at.1)
      ∙ ap (λ (l : List ℕ). and_then l (reads n (λ i. buffers (suc i)) flash (past s (suc k)))) (take-over (suc k) rest (buffers 0) (omega arith) (omega arith))

-- ---- a good chunk in a walk

pub record InWalk (page : List ℕ) (o len crc next : ℕ) : Type 0 where
  pub found : chunks.Found page o len crc next
  pub walked : walk_from page o
      ≡ record { chunks = record { offset = o; len = len; crc = crc } ∷ (walk_from page next).chunks; ending = (walk_from page next).ending }
  pub some : 1 ≤ len
  pub others : All NotEmpty (walk_from page next).chunks

pub chunk-in-walk : (page : List ℕ) (o len crc next : ℕ) → checked_at page o ≡ found_chunk len crc next → All NotEmpty (walk_from page o).chunks
    → InWalk page o len crc next
chunk-in-walk page o len crc next c full =
    let e : chunk_at page o ≡ found_chunk len crc next = (checked-found page o len crc next c).0 in
    let w = walk-chunk page o len crc next e in
    let all : All NotEmpty (record { offset = o; len = len; crc = crc } ∷ (walk_from page next).chunks) = rw w at full in
    record { found = chunk-found page o len crc next e; walked = w; some = all.0; others = all.1 }

-- ---- all reads, over the walk

-- a reader of this page
abbrev pub on : PageID → Bool → ℕ → ℕ → ℕ → ℕ → PageReader
on page ended offset len crc position = record { page = page; ended = ended; offset = offset; len = len; crc = crc; position = position }

-- buffers that hold a whole chunk
abbrev big : ℕ → List ℕ
big i = blank 0 max_chunk_size

module _ (flash : List ℕ) (page : PageID) (inside : Inside (length flash) page.0) where
  -- in a chunk that lies within the page a reader is in range
  pub on-range : (o len crc position : ℕ) → o % align ≡ 0 → page_header_size ≤ o → o + chunk_header_size + len ≤ page_size → position ≤ len
      → InRange (on page false o len crc position)
  on-range o len crc position g s f w = record { low = inside.low; chunk = λ e. record { group = g; start = s; fits = f; within = w } }

  pub on_fine : (r : PageReader) → r.page ≡ page → InRange r → reader_check (length flash) r ≡ Ok tt
  on_fine r e k = reader-fine (length flash) r inside.fine (rw e inside.has) k

  pub length-payload : (o len : ℕ) → o + chunk_header_size + len ≤ page_size → length (payload_at (page_of page.0 flash) o len) ≡ len
  length-payload o len h =
      let l : length (page_of page.0 flash) ≡ page_size = length-page (page_start page.0) flash inside.whole in
      rw (length-take, length-drop) (omega arith)

  -- n reads of a reader that is about to be at o, where n are enough
  abbrev Says : ℕ → ℕ → Type 0
  Says n o =
      (t u : Bool) (a b c d a' b' c' d' : ℕ) → InRange (on page t a b c d)
      → ready (page_of page.0 flash) (on page t a b c d) ≡ arriving (on page u a' b' c' d') o (checked_at (page_of page.0 flash) o)
      → o % align ≡ 0 → page_header_size ≤ o → All NotEmpty (walk_from (page_of page.0 flash) o).chunks
      → length (walk_from (page_of page.0 flash) o).chunks < n
      → reads n big flash (on page t a b c d) ≡ walk_finds (page_of page.0 flash) o

  says-step : (n : ℕ) → ((o : ℕ) → Says n o) → (o : ℕ) (x : Step) → checked_at (page_of page.0 flash) o ≡ x → Says (suc n) o
  unfolding moved
  says-step n ih o (Ok None) e t u a b c d a' b' c' d' k arrived g s full h =
      let bytes = page_of page.0 flash in
      let q = on page true o b' c' d' in
      reads_end flash (on page t a b c d) (on_fine (on page t a b c d) refl k) n big q (arrived ∙ ap (arriving (on page u a' b' c' d') o) e) (rest_ended bytes q refl)
      ∙ sym (finds-step bytes o ∙ ap (finds_at bytes o) e)
  says-step n ih o (Err w) e t u a b c d a' b' c' d' k arrived g s full h =
      let bytes = page_of page.0 flash in
      reads-bad flash (on page t a b c d) (on_fine (on page t a b c d) refl k) n big (arrived ∙ ap (arriving (on page u a' b' c' d') o) e)
      ∙ sym (finds-step bytes o ∙ ap (finds_at bytes o) e)
  says-step n ih o (Ok (Some chunk)) e t u a b c d a' b' c' d' k arrived g s full h =
      let bytes = page_of page.0 flash in
      let at = chunk-in-walk bytes o chunk.len chunk.crc chunk.next e full in
      let fits : o + 8 + chunk.len ≤ page_size = at.found.fits in
      let small : chunk.len ≤ max_chunk_size = at.found.small in
      let after : chunk.next ≡ next_offset o chunk.len = at.found.after in
      let some : 1 ≤ chunk.len = at.some in
      let count : length (walk_from bytes o).chunks ≡ suc (length (walk_from bytes chunk.next).chunks) = ap (λ (w : Walked). length w.chunks) at.walked in
      let q = on page false o chunk.len chunk.crc 0 in
      let z = on page false o chunk.len chunk.crc (0 + suc (chunk.len - 1)) in
      let rest-is : rest_of bytes q ≡ payload_at bytes o chunk.len = rest_in bytes q refl in
      let l : length (rest_of bytes q) ≡ chunk.len = ap length rest-is ∙ length-payload o chunk.len fits in
      let room : length (big 0) ≡ max_chunk_size = length-blank 0 max_chunk_size in
      let whole : take (suc (chunk.len - 1)) (rest_of bytes q) ≡ payload_at bytes o chunk.len = take_all (suc (chunk.len - 1)) (rest_of bytes q) (omega arith) ∙ rest-is in
      let onward : ready bytes z ≡ arriving z chunk.next (checked_at bytes chunk.next) =
      ready-used bytes z refl (omega arith) ∙ ap (λ (x : ℕ). arriving z x (checked_at bytes x)) (sym after) in
      reads-some flash (on page t a b c d) (on_fine (on page t a b c d) refl k) n big q (chunk.len - 1) (arrived ∙ ap (arriving (on page u a' b' c' d') o) e) (omega arith)
      ∙ ap₂ and_then whole
      (ih chunk.next false false o chunk.len chunk.crc (0 + suc (chunk.len - 1)) o chunk.len chunk.crc (0 + suc (chunk.len - 1))
      (on-range o chunk.len chunk.crc (0 + suc (chunk.len - 1)) g s fits (omega arith)) onward (omega arith) (omega arith) at.others (omega arith))
      ∙ sym (finds-step bytes o ∙ ap (finds_at bytes o) e)

  reads-are-walk : (n o : ℕ) → Says n o
  reads-are-walk zero o = λ t u a b c d a' b' c' d' k arrived g s full h. absurd (not-suc-le-zero h)
  reads-are-walk (suc n) o = says-step n (reads-are-walk n) o (checked_at (page_of page.0 flash) o) refl

  -- after an open that passed the page header
  opened-finds : (o : ℕ) → o % align ≡ 0 → page_header_size ≤ o → o ≤ page_size → All NotEmpty (walk_from (page_of page.0 flash) o).chunks
      → (r : PageReader) (x : Step) → checked_at (page_of page.0 flash) o ≡ x
      → read_all (reads (suc page_size) big flash) (opening_of r (arriving (unread page) o x)).answer (opening_of r (arriving (unread page) o x)).reader
      ≡ walk_finds (page_of page.0 flash) o
  opened-finds o g s w full r (Err bad) c = sym (finds-step (page_of page.0 flash) o ∙ ap (finds_at (page_of page.0 flash) o) c)
  opened-finds o g s w full r (Ok None) c =
      let bytes = page_of page.0 flash in
      reads-are-walk 4097 o true false o 0 0 0 0 0 0 0 (record { low = inside.low; chunk = λ e. absurd (apart refl e) })
      (ready-ended bytes (on page true o 0 0 0) refl ∙ ap (arriving (unread page) o) (sym c)) g s full (omega (arith, walk-count bytes o w))
  opened-finds o g s w full r (Ok (Some chunk)) c =
      let bytes = page_of page.0 flash in
      let at = chunk-in-walk bytes o chunk.len chunk.crc chunk.next c full in
      let some : 1 ≤ chunk.len = at.some in
      reads-are-walk 4097 o false false o chunk.len chunk.crc 0 0 0 0 0 (on-range o chunk.len chunk.crc 0 g s at.found.fits (omega arith))
      (ready-in bytes (on page false o chunk.len chunk.crc 0) refl (λ (q : 0 ≡ chunk.len). omega arith) ∙ ap (arriving (unread page) o) (sym c)) g s full (omega (arith, walk-count bytes o w))

-- ---- the whole way, from a new reader

module _ (flash : List ℕ) (magic : ℕ) (page : PageID) (h : ℕ) where
  -- FOUND IS WALK: what a new reader finds on a page whose chunks are not empty
  pub found-is-walk : open_check (length flash) h page ≡ Ok tt → page_header_fine (page_of page.0 flash) magic page.0 h ≡ true
      → All NotEmpty (walk_from (page_of page.0 flash) (page_header_size + h)).chunks
      → found flash magic page h ≡ walk_finds (page_of page.0 flash) (page_header_size + h)
  unfolding found found_with open_page
  found-is-walk v f full =
      let k = open-checked (length flash) h page v in
      let group : h % 4 ≡ 0 = k.group in
      let small : h ≤ 64 = k.small in
      rw (v, f)
      (opened-finds flash page k.flash (12 + h) (omega arith) (omega arith) (omega arith) full new_reader (checked_at (page_of page.0 flash) (12 + h)) refl)

  -- all sums are right and the walk ends: exactly the payloads of the walk's list
  pub found-whole : (e : ℕ) → open_check (length flash) h page ≡ Ok tt → page_header_fine (page_of page.0 flash) magic page.0 h ≡ true
      → All NotEmpty (walk_from (page_of page.0 flash) (page_header_size + h)).chunks
      → All (Right (page_of page.0 flash)) (walk_from (page_of page.0 flash) (page_header_size + h)).chunks
      → (walk_from (page_of page.0 flash) (page_header_size + h)).ending ≡ Ok e
      → found flash magic page h ≡ record { parts = map (payload_of (page_of page.0 flash)) (walk_from (page_of page.0 flash) (page_header_size + h)).chunks; ends = Ok tt }
  found-whole e v f full right end =
      let w = walk_from (page_of page.0 flash) (12 + h) in
      found-is-walk v f full ∙ good-whole (page_of page.0 flash) w.chunks w.ending right ∙ rw end

  -- nothing is found where the page header, or a check before it, refuses
  pub found-refused : (buffers : ℕ → List ℕ) (w : Refusal) → open_check (length flash) h page ≡ Err w
      → found_with buffers flash magic page h ≡ nothing_more (Err w)
  unfolding found_with open_page
  found-refused buffers w v = rw v

  pub found-wrong : (buffers : ℕ → List ℕ) → open_check (length flash) h page ≡ Ok tt → page_header_fine (page_of page.0 flash) magic page.0 h ≡ false
      → found_with buffers flash magic page h ≡ nothing_more (Err row.Corrupted)
  unfolding found_with open_page
  found-wrong buffers v f = rw (v, f)

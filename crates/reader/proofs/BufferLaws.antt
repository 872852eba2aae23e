-- Buffers of any sizes from 1 on hand out the same bytes, in other pieces. Assumes nothing.
use Rattle.std.specs.Prelude.{Ok, Err, Some, None}
use Rattle.types.specs.Checks.{Verdict}
use mathlib.Core.Path.{◌≡◌, refl, sym, ap, subst, ◌∙◌}
use mathlib.Core.Bool.{Bool, true, false, cond}
use mathlib.Core.List.{List, [], ◌∷◌, ◌++◌, append_assoc, flatten}
use mathlib.Core.Logic.{⊎_elim}
use Prim.Native.Nat.{ℕ, zero, suc, ◌+◌, ◌-◌, ◌%◌, ◌≤◌, ◌<◌, min}
use native.Mathlib.Nat.{not-suc-le-zero}
use native.Mathlib.Omega.{arith}
use lib.ListN.{length, take, drop, length-drop, take-append-drop, drop_of_length-le}
use lib.Seq.{drop-drop}
use Rattle.types.specs.Build.{page_size, align, page_header_size, chunk_header_size}
use Rattle.types.specs.declared.page_id.PageID.{PageID}
use Rattle.types.proofs.TestLaws.{decided, eq-or-ne, le-or-lt}
use Rattle.flash.specs.Geometry.{page_of}
use Rattle.page.specs.Checks.{open_check}
use Rattle.page.specs.Chunks.{next_offset, payload_at, checked_at, Step}
use Rattle.page.specs.Headers.{page_header_fine}
use Rattle.page.specs.Walks.{Chunk, Walked, walk_from}
use Rattle.page.proofs.CheckLaws.{Inside, open-checked}
use Rattle.page.proofs.LaidLaws.{All, end_of, end-within, walk-laid}
use Rattle.reader.specs.Finds.{Found, Joined, NotEmpty, joined, nothing_more, and_then, reads, read_all, found_with, walk_finds}
use Rattle.reader.specs.Calls.{opening_of, open_page}
use Rattle.reader.specs.Checks.{reader_check}
use Rattle.reader.specs.Moves.{arriving, moved, ready, rest_of, past}
use Rattle.reader.specs.States.{new_reader, unread}
use Rattle.reader.specs.declared.page_reader.PageReader.{PageReader}
use Rattle.reader.proofs.CheckLaws.{reader-checked}
use Rattle.reader.proofs.MoveLaws.{apart, ready-ended, ready-in, ready-used, rest_in, rest_ended}
use Rattle.reader.proofs.GoodLaws.{finds_at, finds-step}
use Rattle.reader.proofs.FoundLaws.{on, on-range, on_fine, length-payload, reads-bad, reads_end, reads-some, chunk-in-walk, found-refused, found-wrong}

-- bytes in front of what is joined
abbrev pub ahead : List ℕ → Joined → Joined
ahead bytes j = record { bytes = bytes ++ j.bytes; ends = j.ends }

pub joined-then : (part : List ℕ) (f : Found) → joined (and_then part f) ≡ ahead part (joined f)
unfolding flatten
joined-then part f = refl

-- ---- how many bytes a walk has

abbrev total : List Chunk → ℕ
total [] = 0
total (c ∷ cs) = c.len + total cs

total-within : (o : ℕ) (cs : List Chunk) → o + total cs ≤ end_of o cs
total-within o [] = omega arith
total-within o (c ∷ cs) = omega (arith, total-within (next_offset o c.len) cs)

pub walk-total : (page : List ℕ) (o : ℕ) → o ≤ page_size → o + total (walk_from page o).chunks ≤ page_size
walk-total page o h =
    let cs = (walk_from page o).chunks in
    omega (arith, total-within o cs, end-within o cs h (walk-laid page o))

-- ---- the reads of a reader in a chunk

ahead-ahead : (a b c : List ℕ) (j : Joined) → a ++ b ≡ c → ahead a (ahead b j) ≡ ahead c j
ahead-ahead a b c j e = ap (λ (l : List ℕ). record { bytes = l; ends = j.ends }) (sym (append_assoc a b j.bytes)) ∙ ap (λ (l : List ℕ). ahead l j) e

-- a read of some bytes, and the reads after it
some-ahead : (j : ℕ) (rest : List ℕ) (f : Found) (g : Joined) → joined f ≡ ahead (drop (suc j) rest) g → joined (and_then (take (suc j) rest) f) ≡ ahead rest g
some-ahead j rest f g e =
    joined-then (take (suc j) rest) f ∙ ap (ahead (take (suc j) rest)) e
    ∙ ahead-ahead (take (suc j) rest) (drop (suc j) rest) rest g (take-append-drop (suc j) rest)

min-some : (a b : ℕ) → 1 ≤ a → 1 ≤ b → suc (min a b - 1) ≡ min a b
min-some a b h k = omega arith

min-few : (a b : ℕ) → 1 ≤ a → 1 ≤ b → suc (min a b - 1) ≤ b
min-few a b h k = omega arith

-- a reader at position k of the chunk at o, and n reads that are enough for what is left of the page
record Reading (flash : List ℕ) (page : PageID) (n o len k : ℕ) (buffers : ℕ → List ℕ) : Type 0 where
  room : (i : ℕ) → 1 ≤ length (buffers i)
  group : o % align ≡ 0
  start : page_header_size ≤ o
  fits : o + chunk_header_size + len ≤ page_size
  within : k ≤ len
  full : All NotEmpty (walk_from (page_of page.0 flash) (next_offset o len)).chunks
  enough : len - k + total (walk_from (page_of page.0 flash) (next_offset o len)).chunks < n

-- they hand out the rest of its chunk, and what the walk finds behind it
abbrev HandOut : List ℕ → PageID → ℕ → ℕ → ℕ → ℕ → ℕ → (ℕ → List ℕ) → Type 0
HandOut flash page n o len crc k buffers =
    joined (reads n buffers flash (on page false o len crc k))
    ≡ ahead (drop k (payload_at (page_of page.0 flash) o len)) (joined (walk_finds (page_of page.0 flash) (next_offset o len)))

abbrev Enough : List ℕ → PageID → ℕ → Type 0
Enough flash page n = (o len crc k : ℕ) (buffers : ℕ → List ℕ) → Reading flash page n o len k buffers → HandOut flash page n o len crc k buffers

module _ (flash : List ℕ) (page : PageID) (inside : Inside (length flash) page.0) where
  -- some of what it can read at once, and the reads after that
  hand-some : (n : ℕ) → Enough flash page n → (r : PageReader) → reader_check (length flash) r ≡ Ok tt → (buffers : ℕ → List ℕ) → 1 ≤ length (buffers 0)
      → (o len crc k : ℕ) → ready (page_of r.page.0 flash) r ≡ Ok (on page false o len crc k) → page_of r.page.0 flash ≡ page_of page.0 flash
      → o + chunk_header_size + len ≤ page_size → k < len
      → ((j : ℕ) → suc j ≤ len - k → Reading flash page n o len (k + suc j) (λ i. buffers (suc i)))
      → joined (reads (suc n) buffers flash r)
      ≡ ahead (drop k (payload_at (page_of page.0 flash) o len)) (joined (walk_finds (page_of page.0 flash) (next_offset o len)))
  hand-some n ih r v buffers some o len crc k at same fits less after =
      let bytes = page_of page.0 flash in
      let q = on page false o len crc k in
      let payload = payload_at bytes o len in
      let rest-is : rest_of (page_of r.page.0 flash) q ≡ drop k payload = ap (λ (x : List ℕ). rest_of x q) same ∙ rest_in bytes q refl in
      let l : length (rest_of (page_of r.page.0 flash) q) ≡ len - k =
      ap length rest-is ∙ length-drop k payload ∙ ap (λ (x : ℕ). x - k) (length-payload flash page inside o len fits) in
      let j = min (length (buffers 0)) (len - k) - 1 in
      let few : suc j ≤ len - k = min-few (length (buffers 0)) (len - k) some (omega arith) in
      let exact : suc j ≡ min (length (buffers 0)) (length (rest_of (page_of r.page.0 flash) q)) = rw l (min-some (length (buffers 0)) (len - k) some (omega arith)) in
      ap joined (reads-some flash r v n buffers q j at exact ∙ ap (λ (x : List ℕ). and_then (take (suc j) x) (reads n (λ i. buffers (suc i)) flash (past q (suc j)))) rest-is)
      ∙ some-ahead j (drop k payload) (reads n (λ i. buffers (suc i)) flash (past q (suc j))) (joined (walk_finds bytes (next_offset o len)))
      (ih o len crc (k + suc j) (λ i. buffers (suc i)) (after j few)
      ∙ ap (λ (x : List ℕ). ahead x (joined (walk_finds bytes (next_offset o len)))) (sym (drop-drop (suc j) k payload)))

  -- in its own chunk
  hand_in : (n : ℕ) → Enough flash page n → (o len crc k : ℕ) (buffers : ℕ → List ℕ) → Reading flash page (suc n) o len k buffers → (k ≡ len → ⊥)
      → HandOut flash page (suc n) o len crc k buffers
  hand_in n ih o len crc k buffers d more =
      let r = on page false o len crc k in
      let less : k < len = ⊎_elim (λ (q : len ≤ k). absurd (more (omega (arith, d.within)))) (λ q. q) (le-or-lt len k) in
      hand-some n ih r (on_fine flash page inside r refl (on-range flash page inside o len crc k d.group d.start d.fits d.within)) buffers (d.room 0) o len crc k
      (ready-in (page_of page.0 flash) r refl more) refl d.fits less
      (λ j few.
      record { room = λ i. d.room (suc i); group = d.group; start = d.start; fits = d.fits; within = omega arith; full = d.full; enough = omega (arith, d.enough) })

  -- its chunk is used up: what stands behind it decides
  hand-next : (n : ℕ) → Enough flash page n → (o len crc k : ℕ) (buffers : ℕ → List ℕ) → Reading flash page (suc n) o len k buffers → k ≡ len
      → (x : Step) → checked_at (page_of page.0 flash) (next_offset o len) ≡ x
      → joined (reads (suc n) buffers flash (on page false o len crc k)) ≡ joined (walk_finds (page_of page.0 flash) (next_offset o len))
  unfolding moved
  hand-next n ih o len crc k buffers d used x e =
      let bytes = page_of page.0 flash in
      let r = on page false o len crc k in
      let v = on_fine flash page inside r refl (on-range flash page inside o len crc k d.group d.start d.fits d.within) in
      by x e v (ready-used bytes r refl used ∙ ap (arriving r (next_offset o len)) e)
      ∙ sym (ap joined (finds-step bytes (next_offset o len) ∙ ap (finds_at bytes (next_offset o len)) e))
    where
      by : (x : Step) → checked_at (page_of page.0 flash) (next_offset o len) ≡ x → reader_check (length flash) (on page false o len crc k) ≡ Ok tt
          → ready (page_of page.0 flash) (on page false o len crc k) ≡ arriving (on page false o len crc k) (next_offset o len) x
          → joined (reads (suc n) buffers flash (on page false o len crc k)) ≡ joined (finds_at (page_of page.0 flash) (next_offset o len) x)
      by (Ok None) e v at =
          let q = on page true (next_offset o len) len crc k in
          ap joined (reads_end flash (on page false o len crc k) v n buffers q at (rest_ended (page_of page.0 flash) q refl))
      by (Err w) e v at = ap joined (reads-bad flash (on page false o len crc k) v n buffers at)
      by (Ok (Some chunk)) e v at =
          let bytes = page_of page.0 flash in
          let o' = next_offset o len in
          let c = chunk-in-walk bytes o' chunk.len chunk.crc chunk.next e d.full in
          let fits : o' + 8 + chunk.len ≤ page_size = c.found.fits in
          let after : chunk.next ≡ next_offset o' chunk.len = c.found.after in
          let some : 1 ≤ chunk.len = c.some in
          let start : 12 ≤ o = d.start in
          let sum : total (walk_from bytes o').chunks ≡ chunk.len + total (walk_from bytes chunk.next).chunks = ap (λ (w : Walked). total w.chunks) c.walked in
          hand-some n ih (on page false o len crc k) v buffers (d.room 0) o' chunk.len chunk.crc 0 at refl fits (omega arith)
          (λ j few.
          record {
            room = λ i. d.room (suc i);
            group = omega arith;
            start = omega arith;
            fits = fits;
            within = omega arith;
            full = subst (λ (m : ℕ). All NotEmpty (walk_from bytes m).chunks) after c.others;
            enough = subst (λ (m : ℕ). chunk.len - (0 + suc j) + total (walk_from bytes m).chunks < n) after (omega (arith, d.enough));
          })
          ∙ sym (joined-then (payload_at bytes o' chunk.len) (walk_finds bytes chunk.next) ∙ ap (λ (m : ℕ). ahead (payload_at bytes o' chunk.len) (joined (walk_finds bytes m))) after)

  hand-out : (n : ℕ) → Enough flash page n
  hand-out zero o len crc k buffers d = absurd (not-suc-le-zero d.enough)
  hand-out (suc n) o len crc k buffers d =
      let bytes = page_of page.0 flash in
      ⊎_elim
      (λ (used : k ≡ len).
      let l : length (payload_at bytes o len) ≡ len = length-payload flash page inside o len d.fits in
      let short : length (payload_at bytes o len) ≤ k = omega arith in
      let none : drop k (payload_at bytes o len) ≡ [] = drop_of_length-le (payload_at bytes o len) short in
      hand-next n (hand-out n) o len crc k buffers d used (checked_at bytes (next_offset o len)) refl
      ∙ sym (ap (λ (l : List ℕ). ahead l (joined (walk_finds bytes (next_offset o len)))) none))
      (λ more. hand_in n (hand-out n) o len crc k buffers d more)
      (eq-or-ne k len)

  -- ---- after an open that passed the page header

  opened-hands-out : (o : ℕ) → o % align ≡ 0 → page_header_size ≤ o → o ≤ page_size → All NotEmpty (walk_from (page_of page.0 flash) o).chunks
      → (buffers : ℕ → List ℕ) → ((i : ℕ) → 1 ≤ length (buffers i)) → (r : PageReader) (x : Step) → checked_at (page_of page.0 flash) o ≡ x
      → joined (read_all (reads (suc page_size) buffers flash) (opening_of r (arriving (unread page) o x)).answer (opening_of r (arriving (unread page) o x)).reader)
      ≡ joined (finds_at (page_of page.0 flash) o x)
  opened-hands-out o g s w full buffers room r (Err bad) c = refl
  opened-hands-out o g s w full buffers room r (Ok None) c =
      let bytes = page_of page.0 flash in
      let q = on page true o 0 0 0 in
      ap joined
      (reads_end flash q (on_fine flash page inside q refl (record { low = inside.low; chunk = λ e. absurd (apart refl e) })) page_size buffers q (ready-ended bytes q refl) (rest_ended bytes q refl))
  opened-hands-out o g s w full buffers room r (Ok (Some chunk)) c =
      let bytes = page_of page.0 flash in
      let k = chunk-in-walk bytes o chunk.len chunk.crc chunk.next c full in
      let after : chunk.next ≡ next_offset o chunk.len = k.found.after in
      let sum : total (walk_from bytes o).chunks ≡ chunk.len + total (walk_from bytes chunk.next).chunks = ap (λ (w : Walked). total w.chunks) k.walked in
      hand-out 4097 o chunk.len chunk.crc 0 buffers
      (record {
        room = room;
        group = g;
        start = s;
        fits = k.found.fits;
        within = omega arith;
        full = subst (λ (m : ℕ). All NotEmpty (walk_from bytes m).chunks) after k.others;
        enough = subst (λ (m : ℕ). chunk.len - 0 + total (walk_from bytes m).chunks < 4097) after (omega (arith, walk-total bytes o w));
      })
      ∙ sym (joined-then (payload_at bytes o chunk.len) (walk_finds bytes chunk.next) ∙ ap (λ (m : ℕ). ahead (payload_at bytes o chunk.len) (joined (walk_finds bytes m))) after)

-- ---- the reads of any reader in range, whatever brought it there

-- no byte, and this end
abbrev pub no_bytes : Verdict → Joined
no_bytes v = record { bytes = []; ends = v }

pub joined-none : (v : Verdict) → joined (nothing_more v) ≡ no_bytes v
unfolding flatten
joined-none v = refl

-- what is left for a reader: the rest of its chunk, and what the walk finds behind it
abbrev pub remaining : List ℕ → PageReader → Joined
remaining page r = cond r.ended (no_bytes (Ok tt)) (ahead (rest_of page r) (joined (walk_finds page (next_offset r.offset r.len))))

pub remaining-ended : (page : List ℕ) (r : PageReader) → r.ended ≡ true → remaining page r ≡ no_bytes (Ok tt)
remaining-ended page r e = rw e

pub remaining-in : (page : List ℕ) (r : PageReader) → r.ended ≡ false
    → remaining page r ≡ ahead (rest_of page r) (joined (walk_finds page (next_offset r.offset r.len)))
remaining-in page r e = rw e

-- no chunk behind its own is empty
abbrev pub FullBehind : List ℕ → PageReader → Type 0
FullBehind page r = r.ended ≡ false → All NotEmpty (walk_from page (next_offset r.offset r.len)).chunks

pub reads-remaining : (flash : List ℕ) (r : PageReader) → reader_check (length flash) r ≡ Ok tt → FullBehind (page_of r.page.0 flash) r
    → (buffers : ℕ → List ℕ) → ((i : ℕ) → 1 ≤ length (buffers i))
    → joined (reads (suc page_size) buffers flash r) ≡ remaining (page_of r.page.0 flash) r
reads-remaining flash r v full buffers room =
    let bytes = page_of r.page.0 flash in
    let known = reader-checked (length flash) r v in
    ⊎_elim
    (λ (e : r.ended ≡ true).
    ap joined (reads_end flash r v page_size buffers r (ready-ended bytes r e) (rest_ended bytes r e)) ∙ joined-none (Ok tt) ∙ sym (remaining-ended bytes r e))
    (λ (e : r.ended ≡ false).
    let c = known.range.chunk e in
    let fits : r.offset + 8 + r.len ≤ page_size = c.fits in
    let within : r.position ≤ r.len = c.within in
    let next = next_offset r.offset r.len in
    let low : next ≤ page_size = omega arith in
    ap (λ (t : Bool). joined (reads 4097 buffers flash (on r.page t r.offset r.len r.crc r.position))) e
    ∙ hand-out flash r.page known.flash 4097 r.offset r.len r.crc r.position buffers
    (record { room = room; group = c.group; start = c.start; fits = fits; within = within; full = full e; enough = omega (arith, walk-total bytes next low) })
    ∙ sym (remaining-in bytes r e ∙ ap (λ (l : List ℕ). ahead l (joined (walk_finds bytes next))) (rest_in bytes r e)))
    (decided r.ended)

-- ---- the whole way, from a new reader

module _ (flash : List ℕ) (magic : ℕ) (page : PageID) (h : ℕ) where
  -- what buffers of any sizes hand out, joined, is what the walk finds, joined
  pub joined-is-walk : open_check (length flash) h page ≡ Ok tt → page_header_fine (page_of page.0 flash) magic page.0 h ≡ true
      → All NotEmpty (walk_from (page_of page.0 flash) (page_header_size + h)).chunks → (buffers : ℕ → List ℕ) → ((i : ℕ) → 1 ≤ length (buffers i))
      → joined (found_with buffers flash magic page h) ≡ joined (walk_finds (page_of page.0 flash) (page_header_size + h))
  unfolding found_with open_page
  joined-is-walk v f full buffers room =
      let k = open-checked (length flash) h page v in
      let group : h % 4 ≡ 0 = k.group in
      let small : h ≤ 64 = k.small in
      rw (v, f)
      (opened-hands-out flash page k.flash (12 + h) (omega arith) (omega arith) (omega arith) full buffers room new_reader (checked_at (page_of page.0 flash) (12 + h)) refl)
      ∙ sym (ap joined (finds-step (page_of page.0 flash) (12 + h)))

  -- ANY BUFFERS: the sizes make no difference to the bytes, nor to how they end
  pub any-buffers : All NotEmpty (walk_from (page_of page.0 flash) (page_header_size + h)).chunks → (a b : ℕ → List ℕ)
      → ((i : ℕ) → 1 ≤ length (a i)) → ((i : ℕ) → 1 ≤ length (b i))
      → joined (found_with a flash magic page h) ≡ joined (found_with b flash magic page h)
  any-buffers full a b ha hb =
      by (open_check (length flash) h page) refl (page_header_fine (page_of page.0 flash) magic page.0 h) refl
    where
      by : (v : Verdict) → open_check (length flash) h page ≡ v → (t : Bool) → page_header_fine (page_of page.0 flash) magic page.0 h ≡ t
          → joined (found_with a flash magic page h) ≡ joined (found_with b flash magic page h)
      by (Err w) v t f = ap joined (found-refused flash magic page h a w v ∙ sym (found-refused flash magic page h b w v))
      by (Ok tt) v false f = ap joined (found-wrong flash magic page h a v f ∙ sym (found-wrong flash magic page h b v f))
      by (Ok tt) v true f = joined-is-walk v f full a ha ∙ sym (joined-is-walk v f full b hb)

-- A reader that was opened, and moved on by calls on the same flash, stands in a chunk of the walk from where it was opened, and that
-- chunk's sum is right. Assumes nothing.
use Rattle.std.specs.Prelude.{Ok, Err}
use Rattle.types.specs.Checks.{corruption}
use Rattle.std.specs.declared.result.Result.{Result}
use Rattle.types.specs.declared.refusal.Corrupted.{Corrupted}
use Rattle.types.specs.declared.refusal.Refusal.{Refusal}
use mathlib.Core.Path.{◌≡◌, refl, sym, ap, subst, ◌∙◌}
use mathlib.Core.Bool.{Bool, true, false, cond, ◌||◌}
use mathlib.Core.List.{List, [], ◌∷◌, ◌++◌, append_assoc}
use mathlib.Core.Logic.{⊎_elim}
use Prim.Native.Nat.{ℕ, zero, suc, ◌+◌, ◌-◌, ◌≤◌, min}
use native.Mathlib.Omega.{arith}
use lib.ListN.{length, take, drop, length-take, length-drop}
use Rattle.types.specs.Build.{page_header_size}
use Rattle.types.specs.Checks.{refused_or, Verdict}
use Rattle.types.specs.declared.page_id.PageID.{PageID}
use Rattle.types.proofs.TestLaws.{decided, le-or-lt}
use Rattle.flash.specs.Geometry.{page_of}
use Rattle.slices.specs.Patch.{over}
use Rattle.slices.proofs.OverLaws.{over-parts}
use Rattle.page.specs.Checks.{open_check}
use Rattle.page.specs.Chunks.{next_offset, payload_at, payload_fine, checked_at}
use Rattle.page.specs.Headers.{page_header_fine}
use Rattle.page.specs.Walks.{Chunk, Walked, walk_from}
use Rattle.page.proofs.ChunkLaws.{checked-fine}
use Rattle.page.proofs.WalkLaws.{walk-chunk}
use Rattle.reader.specs.Calls.{refused_passage, read_of, laid_over, passage_of, refused_end_test, tested, refused_opening, opening_of}
use Rattle.reader.specs.Calls.{read, read_bytes, skip, is_at_eof, open_page, rehydrate_from}
use Rattle.reader.specs.Checks.{reader_check}
use Rattle.reader.specs.Finds.{payload_of, sum_right}
use Rattle.reader.specs.Moves.{arriving, moved, ready, rest_of, past, onward, skip_by, skipped}
use Rattle.reader.specs.States.{unread, restored}
use Rattle.reader.specs.declared.dehydrated.DehydratedPageReader.{DehydratedPageReader}
use Rattle.reader.specs.declared.moves.Passed.{Passed}
use Rattle.reader.specs.declared.page_reader.PageReader.{PageReader}
use Rattle.reader.proofs.MoveLaws.{Arriving, arriving-known, moved-known, ready-known, rest_in, rest_ended}
use Rattle.reader.proofs.SkipLaws.{by-ended, by-here, by-on}

-- ---- a chunk of a walk

-- the walk from o comes to this chunk and goes on behind it, and the chunk's sum is right
pub record GoodChunk (page : List ℕ) (o : ℕ) (c : Chunk) : Type 0 where
  pub earlier : List Chunk
  pub walked : (walk_from page o).chunks ≡ earlier ++ c ∷ (walk_from page (next_offset c.offset c.len)).chunks
  pub sum : sum_right page c ≡ true

abbrev pub own_chunk : PageReader → Chunk
own_chunk r = record { offset = r.offset; len = r.len; crc = r.crc }

-- what stands at o is the first chunk of the walk from there
chunk-first : (page : List ℕ) (o : ℕ) (r s : PageReader) → Arriving page r o s → s.ended ≡ false → GoodChunk page o (own_chunk s)
chunk-first page o r s k e =
    let next = next_offset o s.len in
    let f = checked-fine page o s.len s.crc next (k.chunk e) in
    let w : (walk_from page o).chunks ≡ record { offset = o; len = s.len; crc = s.crc } ∷ (walk_from page next).chunks =
    ap (λ (x : Walked). x.chunks) (walk-chunk page o s.len s.crc next f.0) in
    subst (λ (x : ℕ). GoodChunk page o (record { offset = x; len = s.len; crc = s.crc })) (sym k.at)
    (record { earlier = []; walked = w; sum = f.1 })

-- the chunk behind a chunk of the walk is the walk's next one
chunk_next : (page : List ℕ) (o : ℕ) (c : Chunk) (r s : PageReader) → GoodChunk page o c → Arriving page r (next_offset c.offset c.len) s
    → s.ended ≡ false → GoodChunk page o (own_chunk s)
chunk_next page o c r s g k e =
    let d = chunk-first page (next_offset c.offset c.len) r s k e in
    record {
      earlier = g.earlier ++ (c ∷ d.earlier);
      walked =
          g.walked ∙ ap (λ (l : List Chunk). g.earlier ++ c ∷ l) d.walked
          ∙ sym (append_assoc g.earlier (c ∷ d.earlier) (own_chunk s ∷ (walk_from page (next_offset s.offset s.len)).chunks));
      sum = d.sum;
    }

-- ---- moves

-- a reader of this page that has ended, or stands in a good chunk of the walk from o
abbrev pub Stands : PageID → List ℕ → ℕ → PageReader → Type 0
Stands page bytes o r = (r.page ≡ page) × (r.ended ≡ false → GoodChunk bytes o (own_chunk r))

module _ (page : PageID) (bytes : List ℕ) (o : ℕ) where
  moved-stands : (r s : PageReader) → r.ended ≡ false → Stands page bytes o r → moved bytes r ≡ Ok s → Stands page bytes o s
  moved-stands r s e k a =
      let m = moved-known bytes r s a in
      (m.page-kept ∙ k.0, λ f. chunk_next bytes o (own_chunk r) r s (k.1 e) m f)

  ready-stands : (r s : PageReader) → Stands page bytes o r → ready bytes r ≡ Ok s → Stands page bytes o s
  ready-stands r s k a = ⊎_elim (λ f. rw f k) (λ m. moved-stands r s m.0 k m.1.1) (ready-known bytes r s a)

  abbrev StandsOf : Result Passed Corrupted → Type 0
  StandsOf (Ok passed') = Stands page bytes o passed'.reader
  StandsOf (Err w) = Unit

  onward-stands : (f : PageReader → (Result Passed Corrupted)) (a : Result PageReader Corrupted) → ((s : PageReader) → a ≡ Ok s → StandsOf (f s)) → StandsOf (onward f a)
  onward-stands f (Ok s) h = h s refl
  onward-stands f (Err w) h = tt

  by-stands : (n count : ℕ) (r : PageReader) → Stands page bytes o r → StandsOf (skip_by n bytes count r)
  unfolding skip_by
  by-stands zero count r k = k
  by-stands (suc n) count r k =
      let left = length (rest_of bytes r) in
      ⊎_elim
      (λ e. rw (by-ended bytes (suc n) count r e) k)
      (λ e.
      ⊎_elim
      (λ h. rw (by-here bytes n count r e h) k)
      (λ h.
      rw (by-on bytes n count r e h)
      (onward-stands (skip_by n bytes (count - left)) (moved bytes (past r left))
      (λ s a. by-stands n (count - left) s (moved-stands (past r left) s e k a))))
      (le-or-lt count left))
      (decided r.ended)

  -- ---- after the checks of a call

  module _ (r : PageReader) (k : Stands page bytes o r) where
    taken-stands : (room : ℕ) (v : Verdict) → Stands page bytes o (refused_or v (refused_passage r) (read_of bytes r room (ready bytes r))).reader
    taken-stands room (Err w) = k
    taken-stands room (Ok tt) = by (ready bytes r) refl
      where
        by : (a : Result PageReader Corrupted) → ready bytes r ≡ a → Stands page bytes o (read_of bytes r room a).reader
        by (Ok s) e = ready-stands r s k e
        by (Err w) e = k

    tested-stands : (v : Verdict) → Stands page bytes o (refused_or v (refused_end_test r) (tested r (ready bytes r))).reader
    tested-stands (Err w) = k
    tested-stands (Ok tt) = by (ready bytes r) refl
      where
        by : (a : Result PageReader Corrupted) → ready bytes r ≡ a → Stands page bytes o (tested r a).reader
        by (Ok s) e = ready-stands r s k e
        by (Err w) e = k

    passed-stands : (n : ℕ) (v : Verdict) → Stands page bytes o (refused_or v (refused_passage r) (passage_of r n (skipped bytes n r))).reader
    unfolding skipped
    passed-stands n (Err w) = k
    passed-stands n (Ok tt) = by (skip_by 513 bytes n r) (by-stands 513 n r k)
      where
        by : (p : Result Passed Corrupted) → StandsOf p → Stands page bytes o (passage_of r n p).reader
        by (Ok passed') h = h
        by (Err w) h = k

-- ---- the calls

module _ (flash : List ℕ) (page : PageID) (o : ℕ) (r : PageReader) (k : Stands page (page_of page.0 flash) o r) where
  same_bytes : page_of page.0 flash ≡ page_of r.page.0 flash
  same_bytes = ap (λ (p : PageID). page_of p.0 flash) (sym k.0)

  pub read-stands : (room : ℕ) → Stands page (page_of page.0 flash) o (read r flash room).reader
  unfolding read
  read-stands room =
      let v = reader_check (length flash) r in
      subst (λ (b : List ℕ). Stands page (page_of page.0 flash) o (refused_or v (refused_passage r) (read_of b r room (ready b r))).reader) same_bytes
      (taken-stands page (page_of page.0 flash) o r k room v)

  pub eof-stands : Stands page (page_of page.0 flash) o (is_at_eof r flash).reader
  unfolding is_at_eof
  eof-stands =
      let v = reader_check (length flash) r in
      subst (λ (b : List ℕ). Stands page (page_of page.0 flash) o (refused_or v (refused_end_test r) (tested r (ready b r))).reader) same_bytes
      (tested-stands page (page_of page.0 flash) o r k v)

  pub skip-stands : (n : ℕ) → Stands page (page_of page.0 flash) o (skip r flash n).reader
  unfolding skip
  skip-stands n =
      let v = reader_check (length flash) r in
      subst (λ (b : List ℕ). Stands page (page_of page.0 flash) o (refused_or v (refused_passage r) (passage_of r n (skipped b n r))).reader) same_bytes
      (passed-stands page (page_of page.0 flash) o r k n v)

-- an open that is not refused stands in the first chunk behind a good header
pub open-stands : (r : PageReader) (flash : List ℕ) (magic : ℕ) (page : PageID) (h : ℕ) → (open_page r flash magic page h).answer ≡ Ok tt
    → (page_header_fine (page_of page.0 flash) magic page.0 h ≡ true)
    × Stands page (page_of page.0 flash) (page_header_size + h) (open_page r flash magic page h).reader
unfolding open_page
open-stands r flash magic page h e =
    by (open_check (length flash) h page) (page_header_fine bytes magic page.0 h) refl (arriving (unread page) (12 + h) (checked_at bytes (12 + h))) refl e
  where
    bytes : List ℕ
    bytes = page_of page.0 flash

    by : (v : Verdict) (t : Bool) → page_header_fine bytes magic page.0 h ≡ t → (a : Result PageReader Corrupted) → arriving (unread page) (12 + h) (checked_at bytes (12 + h)) ≡ a
        → (refused_or v (refused_opening r) (opening_of r (cond t a (Err corruption)))).answer ≡ Ok tt
        → (t ≡ true) × Stands page bytes (12 + h) (refused_or v (refused_opening r) (opening_of r (cond t a (Err corruption)))).reader
    by (Err w) t f a g e = let z : ◌≡◌ {A = ℕ} 0 1 = cc in absurd (omega arith)
    by (Ok tt) false f a g e = let z : ◌≡◌ {A = ℕ} 0 1 = cc in absurd (omega arith)
    by (Ok tt) true f (Err w) g e = let z : ◌≡◌ {A = ℕ} 0 1 = cc in absurd (omega arith)
    by (Ok tt) true f (Ok s) g e =
        let m = arriving-known bytes (unread page) (12 + h) s g in
        (refl, (m.page-kept, λ q. chunk-first bytes (12 + h) (unread page) s m q))

-- rehydrate_from hands back the kept reader, where it is not refused
pub rehydrate-restores : (r : PageReader) (flash : List ℕ) (d : DehydratedPageReader) → (rehydrate_from r flash d).answer ≡ Ok tt
    → (rehydrate_from r flash d).reader ≡ restored d
unfolding rehydrate_from
rehydrate-restores r flash d e =
    by (reader_check (length flash) (restored d)) ((restored d).ended || payload_fine (page_of d.page.0 flash) d.offset d.len d.crc) e
  where
    by : (v : Verdict) (t : Bool) → (refused_or v (refused_opening r) (opening_of r (cond t (Ok (restored d)) (Err corruption)))).answer ≡ Ok tt
        → (refused_or v (refused_opening r) (opening_of r (cond t (Ok (restored d)) (Err corruption)))).reader ≡ restored d
    by (Err w) t e = let z : ◌≡◌ {A = ℕ} 0 1 = cc in absurd (omega arith)
    by (Ok tt) false e = let z : ◌≡◌ {A = ℕ} 0 1 = cc in absurd (omega arith)
    by (Ok tt) true e = refl

-- ---- what a read puts

-- n bytes of what is left of a payload lie within the payload
rest-covers : (page : List ℕ) (o len position n : ℕ) → n ≤ length (drop position (payload_at page o len)) → 1 ≤ n → position + n ≤ len
rest-covers page o len position n h some =
    let payload = payload_at page o len in
    let l : length payload ≤ len = simp length-take (omega arith) in
    let d : length (drop position payload) ≡ length payload - position = length-drop position payload in
    omega arith

-- n bytes of a good chunk of the walk from o, from a position on, over the start of what was lent
pub record Handed (page : List ℕ) (o : ℕ) (lent after : List ℕ) (n : ℕ) : Type 0 where
  pub chunk : Chunk
  pub position : ℕ
  pub good : GoodChunk page o chunk
  pub within : position + n ≤ chunk.len
  pub many : length (take n (drop position (payload_of page chunk))) ≡ n
  pub put : after ≡ take n (drop position (payload_of page chunk)) ++ drop n lent

-- by a read's answer
abbrev pub HandedBy : List ℕ → ℕ → List ℕ → List ℕ → Result ℕ Refusal → Type 0
HandedBy page o lent after (Ok zero) = after ≡ lent
HandedBy page o lent after (Ok (suc n)) = Handed page o lent after (suc n)
HandedBy page o lent after (Err why) = after ≡ lent

module _ (page : PageID) (bytes : List ℕ) (o : ℕ) (r : PageReader) (k : Stands page bytes o r) (buffer : List ℕ) where
  some-handed : (s : PageReader) (n : ℕ) → ready bytes r ≡ Ok s → suc n ≡ min (length buffer) (length (rest_of bytes s))
      → Handed bytes o buffer (over (rest_of bytes s) buffer) (suc n)
  some-handed s n at e =
      let rest = rest_of bytes s in
      ⊎_elim
      (λ (f : s.ended ≡ true). let none : length rest ≡ 0 = ap length (rest_ended bytes s f) in absurd (omega arith))
      (λ (f : s.ended ≡ false).
      let left = drop s.position (payload_at bytes s.offset s.len) in
      let rest-is : rest ≡ left = rest_in bytes s f in
      let long : length rest ≡ length left = ap length rest-is in
      let enough : suc n ≤ length left = omega arith in
      let taken_as : length (take (suc n) left) ≡ min (suc n) (length left) = length-take (suc n) left in
      record {
        chunk = own_chunk s;
        position = s.position;
        good = (ready-stands page bytes o r s k at).1 f;
        within = rest-covers bytes s.offset s.len s.position (suc n) enough (omega arith);
        many = omega arith;
        put = over-parts rest buffer (suc n) e ∙ ap (λ (l : List ℕ). take (suc n) l ++ drop (suc n) buffer) rest-is;
      })
      (decided s.ended)

  at-handed : (s : PageReader) (n : ℕ) → ready bytes r ≡ Ok s → n ≡ min (length buffer) (length (rest_of bytes s))
      → HandedBy bytes o buffer (over (rest_of bytes s) buffer) (Ok n)
  at-handed s zero at e = over-parts (rest_of bytes s) buffer 0 e
  at-handed s (suc n) at e = some-handed s n at e

  work-handed : (v : Verdict)
      → HandedBy bytes o buffer (refused_or v (λ _. buffer) (laid_over bytes buffer (ready bytes r))) (refused_or v (refused_passage r) (read_of bytes r (length buffer) (ready bytes r))).answer
  work-handed (Err w) = refl
  work-handed (Ok tt) = by (ready bytes r) refl
    where
      by : (a : Result PageReader Corrupted) → ready bytes r ≡ a → HandedBy bytes o buffer (laid_over bytes buffer a) (read_of bytes r (length buffer) a).answer
      by (Ok s) e = at-handed s (min (length buffer) (length (rest_of bytes s))) e refl
      by (Err w) e = refl

pub read-hands : (flash : List ℕ) (page : PageID) (o : ℕ) (r : PageReader) → Stands page (page_of page.0 flash) o r → (buffer : List ℕ)
    → HandedBy (page_of page.0 flash) o buffer (read_bytes r flash buffer) (read r flash (length buffer)).answer
unfolding read read_bytes
read-hands flash page o r k buffer =
    let v = reader_check (length flash) r in
    let bytes = page_of page.0 flash in
    subst
    (λ (b : List ℕ).
    HandedBy bytes o buffer (refused_or v (λ _. buffer) (laid_over b buffer (ready b r))) (refused_or v (refused_passage r) (read_of b r (length buffer) (ready b r))).answer)
    (same_bytes flash page o r k) (work-handed page bytes o r k buffer v)

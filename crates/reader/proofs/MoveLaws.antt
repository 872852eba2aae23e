-- How a reader moves: where it arrives, what is left of its chunk, and that each move goes up within the page. Assumes nothing.
use Rattle.std.specs.Prelude.{Ok, Err, Some, None}
use mathlib.Core.Path.{◌≡◌, refl, sym, ◌∙◌}
use mathlib.Core.Bool.{Bool, true, false}
use mathlib.Core.List.{List, []}
use mathlib.Core.Logic.{◌⊎◌, inl, inr, ⊎_elim}
use Prim.Native.Nat.{ℕ, ◌+◌, ◌≤◌}
use native.Mathlib.Omega.{arith}
use lib.ListN.{length, take, drop, length-take, length-drop}
use lib.Seq.{take_all}
use borrow.Author.Tests.{eq-eqb, ne_eqb}
use Rattle.types.specs.Build.{page_size, chunk_header_size}
use Rattle.types.proofs.TestLaws.{decided, eq-or-ne}
use Rattle.page.specs.Chunks.{next_offset, payload_at, checked_at, Step, found_chunk}
use Rattle.page.proofs.ChunkLaws.{chunk-found, checked-found}
use Rattle.std.specs.declared.result.Result.{Result}
use Rattle.types.specs.declared.refusal.Corrupted.{Corrupted}
use Rattle.reader.specs.Moves.{Whole, arriving, moved, ready, rest_of}
use Rattle.reader.specs.declared.page_reader.PageReader.{PageReader}

-- ---- before a read

module _ (page : List ℕ) (r : PageReader) where
  pub ready-ended : r.ended ≡ true → ready page r ≡ Ok r
  unfolding ready
  ready-ended e = rw e

  pub ready-used : r.ended ≡ false → r.position ≡ r.len → ready page r ≡ moved page r
  unfolding ready
  ready-used e f = rw (e, eq-eqb r.position r.len f)

  pub ready-in : r.ended ≡ false → (r.position ≡ r.len → ⊥) → ready page r ≡ Ok r
  unfolding ready
  ready-in e n = rw (e, ne_eqb r.position r.len n)

  -- ---- what is left

  pub rest_ended : r.ended ≡ true → rest_of page r ≡ []
  unfolding rest_of
  rest_ended e = rw e

  pub rest_in : r.ended ≡ false → rest_of page r ≡ drop r.position (payload_at page r.offset r.len)
  unfolding rest_of
  rest_in e = rw e

  -- a part that reaches to the payload's end
  pub rest_part : r.ended ≡ false
      → take (length (payload_at page r.offset r.len)) (drop r.position (payload_at page r.offset r.len)) ≡ rest_of page r
  rest_part e =
      let payload = payload_at page r.offset r.len in
      let l : length (drop r.position payload) ≤ length payload = simp length-drop (omega arith) in
      take_all (length payload) (drop r.position payload) l ∙ sym (rest_in e)

  -- no position passes the payload's length
  pub rest-within : r.ended ≡ false → r.position ≤ r.len → r.position + length (rest_of page r) ≤ r.len
  rest-within e h =
      let payload = payload_at page r.offset r.len in
      let l : length payload ≤ r.len = simp length-take (omega arith) in
      rw (rest_in e, length-drop) (omega arith)

-- ---- where a reader arrives

-- s is r at o of a page
pub record Arriving (page : List ℕ) (r : PageReader) (o : ℕ) (s : PageReader) : Type 0 where
  pub page-kept : s.page ≡ r.page
  pub at : s.offset ≡ o
  pub end_kept : s.ended ≡ true → s.position ≡ r.position
  pub chunk_start : s.ended ≡ false → s.position ≡ 0
  pub chunk : s.ended ≡ false → checked_at page o ≡ found_chunk s.len s.crc (next_offset o s.len)

-- a test that holds does not fail
pub apart : {t : Bool} → t ≡ true → t ≡ false → ⊥
apart e f = let z : ◌≡◌ {A = ℕ} 0 1 = cc in omega arith

pub arriving-known : (page : List ℕ) (r : PageReader) (o : ℕ) (s : PageReader) → arriving r o (checked_at page o) ≡ Ok s → Arriving page r o s
arriving-known page r o s e = by (checked_at page o) refl e
  where
    by : (t : Step) → checked_at page o ≡ t → arriving r o t ≡ Ok s → Arriving page r o s
    by (Ok None) c e =
        let ended : s.ended ≡ true = cc in
        record {
          page-kept = cc;
          at = cc;
          end_kept = λ f. cc;
          chunk_start = λ f. absurd (apart ended f);
          chunk = λ f. absurd (apart ended f);
        }
    by (Err w) c e = let z : ◌≡◌ {A = ℕ} 0 1 = cc in absurd (omega arith)
    by (Ok (Some found)) c e =
        let ended : s.ended ≡ false = cc in
        let l : s.len ≡ found.len = cc in
        let m : s.crc ≡ found.crc = cc in
        let n : found.next ≡ next_offset o found.len = (chunk-found page o found.len found.crc found.next (checked-found page o found.len found.crc found.next c).0).after in
        record {
          page-kept = cc;
          at = cc;
          end_kept = λ f. absurd (apart f ended);
          chunk_start = λ f. cc;
          chunk = λ f. c ∙ rw (l, m, n);
        }

-- what it arrives at is whole
pub arriving-whole : (page : List ℕ) (r : PageReader) (o : ℕ) (s : PageReader) → Arriving page r o s → Whole s
arriving-whole page r o s k e =
    let f = chunk-found page o s.len s.crc (next_offset o s.len) (checked-found page o s.len s.crc (next_offset o s.len) (k.chunk e)).0 in
    let at : s.offset ≡ o = k.at in
    let start : s.position ≡ 0 = k.chunk_start e in
    let fits : o + 8 + s.len ≤ page_size = f.fits in
    (omega arith, omega arith)

pub moved-known : (page : List ℕ) (r s : PageReader) → moved page r ≡ Ok s → Arriving page r (next_offset r.offset r.len) s
unfolding moved
moved-known page r s e = arriving-known page r (next_offset r.offset r.len) s e

-- a move goes up by at least a header
pub moved_up : (page : List ℕ) (r s : PageReader) → moved page r ≡ Ok s → r.offset + chunk_header_size + r.len ≤ s.offset
moved_up page r s e = let at : s.offset ≡ next_offset r.offset r.len = (moved-known page r s e).at in omega arith

pub moved-whole : (page : List ℕ) (r s : PageReader) → moved page r ≡ Ok s → Whole s
moved-whole page r s e = arriving-whole page r (next_offset r.offset r.len) s (moved-known page r s e)

-- the reader before a read: the one that it was, or one that has moved
pub ready-known : (page : List ℕ) (r s : PageReader) → ready page r ≡ Ok s
    → (s ≡ r) ⊎ ((r.ended ≡ false) × ((r.position ≡ r.len) × (moved page r ≡ Ok s)))
ready-known page r s e =
    ⊎_elim
    (λ f. inl (same (sym (ready-ended page r f) ∙ e)))
    (λ f.
    ⊎_elim
    (λ g. inr (f, (g, sym (ready-used page r f g) ∙ e)))
    (λ n. inl (same (sym (ready-in page r f n) ∙ e)))
    (eq-or-ne r.position r.len))
    (decided r.ended)
  where
    same : ◌≡◌ {A = Result PageReader Corrupted} (Ok r) (Ok s) → s ≡ r
    same e = cc

pub ready-whole : (page : List ℕ) (r s : PageReader) → Whole r → ready page r ≡ Ok s → Whole s
ready-whole page r s w e = ⊎_elim (λ f. rw f w) (λ k. moved-whole page r s k.1.1) (ready-known page r s e)

pub ready-end-kept : (page : List ℕ) (r s : PageReader) → ready page r ≡ Ok s → s.ended ≡ true → s.position ≡ r.position
ready-end-kept page r s e f = ⊎_elim (λ g. rw g) (λ k. (moved-known page r s k.1.1).end_kept f) (ready-known page r s e)

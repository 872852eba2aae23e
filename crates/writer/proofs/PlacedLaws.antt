-- Every call's operations in their order: the erase, the payload's stores, the chunk's header. For a writer in range all lie within
-- the page, and behind the page header. Assumes nothing.
use Rattle.std.specs.Prelude.{Ok}
use mathlib.Core.Path.{◌≡◌, refl, ap, ◌∙◌}
use mathlib.Core.Bool.{true, false}
use mathlib.Core.List.{List, [], ◌∷◌, ◌++◌}
use mathlib.Core.Logic.{◌⊎◌, inl, inr, ⊎_elim}
use Prim.Native.Nat.{ℕ, ◌+◌, ◌≤◌}
use native.Mathlib.Omega.{arith}
use lib.ListN.{length}
use borrow.Author.Tests.{eq-eqb, ne_eqb, eqb-true}
use Rattle.types.specs.Build.{page_size, align, chunk_header_size, max_chunk_size}
use Rattle.types.proofs.TestLaws.{decided, eq-or-ne}
use Rattle.crc.specs.Register.{finished}
use Rattle.flash.specs.Operations.{Op, store}
use Rattle.page.specs.Chunks.{chunk_header, next_offset}
use Rattle.page.specs.Headers.{page_header}
use Rattle.page.proofs.PutLaws.{length-chunk_header, length-page_header}
use Rattle.writer.specs.Commits.{group_at, erase_ops, rest_ops, seal_op, chunk_ops, commit_ops}
use Rattle.writer.specs.Headings.{header_ops}
use Rattle.writer.specs.States.{first_chunk, most_pending}
use Rattle.writer.specs.Checks.{heading_check}
use Rattle.writer.specs.Writes.{takes, grown, is_full, close_ops, payload_ops, taking_ops, taken_of, write_ops}
use Rattle.writer.specs.declared.page_writer.PageWriter.{PageWriter}
use Rattle.writer.proofs.CheckLaws.{InRange, heading-checked}
use Rattle.writer.proofs.PlaceLaws.{payload-rising, rest-rising, full-ops}
use Rattle.writer.proofs.RangeLaws.{taken-room, taken-some}
use Rattle.writer.proofs.StoreLaws.{Rising, rising-from, rising-to}

-- the operations of a write or a commit on the chunk at the writer's offset, where there are any
pub record Placed (e : ℕ) (w : PageWriter) (ops : List Op) : Type 0 where
  pub payload : List Op
  pub seal : List Op
  pub parts : ops ≡ erase_ops e w ++ payload ++ seal
  pub behind : first_chunk w.h ≤ w.offset
  pub rising : Rising (w.offset + chunk_header_size) page_size payload
  pub header : (seal ≡ []) ⊎ ((bytes : List ℕ) × ((seal ≡ store w.offset bytes ∷ []) × (length bytes ≡ chunk_header_size)))

-- where bytes are pending, the chunk has room in the page
pending-room : (o p : ℕ) → p ≤ most_pending o → (p ≡ 0 → ⊥) → o + chunk_header_size + p ≤ page_size
pending-room o p h n = omega arith

seal-bytes : (w : PageWriter) → (bytes : List ℕ) × ((◌≡◌ {A = List Op} (seal_op w ∷ []) (store w.offset bytes ∷ [])) × (length bytes ≡ chunk_header_size))
seal-bytes w = (chunk_header w.pending (finished w.crc), (refl, length-chunk_header w.pending (finished w.crc)))

chunk-placed : (e : ℕ) (w : PageWriter) → InRange w → length w.buf ≡ align → (w.pending ≡ 0 → ⊥) → Placed e w (chunk_ops e w)
unfolding chunk_ops
chunk-placed e w s four n =
    let fits = pending-room w.offset w.pending s.room n in
    record {
      payload = rest_ops w;
      seal = seal_op w ∷ [];
      parts = refl;
      behind = s.after;
      rising = rising-from (w.offset + 8) (group_at w) page_size (rest_ops w) (omega arith)
          (rising-to (group_at w) (next_offset w.offset w.pending) page_size (rest_ops w) (omega arith) (rest-rising w four s.even));
      header = inr (seal-bytes w);
    }

pub commit-placed : (e : ℕ) (w : PageWriter) → InRange w → length w.buf ≡ align → (commit_ops e w ≡ []) ⊎ Placed e w (commit_ops e w)
commit-placed e w s four =
    ⊎_elim (λ (z : w.pending ≡ 0). inl (rw (eq-eqb w.pending 0 z)))
    (λ (n : w.pending ≡ 0 → ⊥). inr (rw (ne_eqb w.pending 0 n) (chunk-placed e w s four n)))
    (eq-or-ne w.pending 0)

-- the header of a chunk that is full
close-sealed : (e : ℕ) (w : PageWriter) → w.armed ≡ false
    → (close_ops e w ≡ []) ⊎ ((bytes : List ℕ) × ((close_ops e w ≡ store w.offset bytes ∷ []) × (length bytes ≡ chunk_header_size)))
close-sealed e w a =
    ⊎_elim
    (λ (f : is_full w ≡ true). inr (rw (f, full-ops e w a (eqb-true w.pending max_chunk_size f)) (seal-bytes w)))
    (λ (f : is_full w ≡ false). inl (rw f))
    (decided (is_full w))

taking-placed : (e : ℕ) (w : PageWriter) (bytes : List ℕ) → InRange w → length w.buf ≡ align → w.offset + chunk_header_size + (w.pending + length bytes) ≤ page_size
    → Placed e w (taking_ops e w bytes)
unfolding taking_ops
taking-placed e w bytes s four fits =
    record {
      payload = payload_ops w bytes;
      seal = close_ops e (grown w bytes);
      parts = refl;
      behind = s.after;
      rising = rising-from (w.offset + 8) (group_at w) page_size (payload_ops w bytes) (omega arith)
          (rising-to (group_at w) (group_at (grown w bytes)) page_size (payload_ops w bytes) (omega arith) (payload-rising w bytes four));
      header = close-sealed e (grown w bytes) refl;
    }

pub write-placed : (e : ℕ) (w : PageWriter) (bytes : List ℕ) → InRange w → length w.buf ≡ align → (write_ops e w bytes ≡ []) ⊎ Placed e w (write_ops e w bytes)
write-placed e w bytes s four =
    ⊎_elim (λ (z : takes (length bytes) w ≡ 0). inl (rw (eq-eqb (takes (length bytes) w) 0 z)))
    (λ (n : takes (length bytes) w ≡ 0 → ⊥).
    inr (rw (ne_eqb (takes (length bytes) w) 0 n)
    (taking-placed e w (taken_of w bytes) s four (pending-room w.offset (w.pending + length (taken_of w bytes)) (taken-room w bytes n) (taken-some w bytes n)))))
    (eq-or-ne (takes (length bytes) w) 0)

-- the page header ends where the chunks start
pub header-placed : (n : ℕ) (e : ℕ) (w : PageWriter) (magic : ℕ) (header : List ℕ) → heading_check n w (length header) ≡ Ok tt
    → (bytes : List ℕ) × ((header_ops e w magic header ≡ erase_ops e w ++ (store 0 bytes ∷ [])) × (length bytes ≡ first_chunk w.h))
unfolding header_ops
header-placed n e w magic header v =
    let m = (heading-checked n w (length header) v).own in
    (page_header magic w.page.0 header, (refl, length-page_header magic w.page.0 header ∙ ap (λ (k : ℕ). 12 + k) m))

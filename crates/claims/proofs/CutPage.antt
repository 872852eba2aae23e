-- A cut of an addition leaves a good page with the old payloads, or with those and the new one. Assumes nothing.
use Rattle.std.specs.Prelude.{⊤}
use mathlib.Core.Path.{◌≡◌, sym, ap, subst, ◌∙◌}
use mathlib.Core.Bool.{Bool, true, false, cond}
use mathlib.Core.List.{List, [], ◌∷◌, ◌++◌}
use Prim.Native.Nat.{ℕ, ◌+◌, ◌%◌, ◌≤◌, ◌<◌}
use lib.ListN.{length, take}
use Rattle.types.specs.Build.{page_size, page_header_size}
use Rattle.types.specs.Bytes.{Bytes, word}
use Rattle.types.proofs.BytesLaws.{bytes-none, bytes-append}
use Rattle.types.specs.declared.page_id.PageID.{PageID}
use Rattle.crc.specs.Published.{published}
use Rattle.crc.proofs.WordLaws.{bytes_take}
use Rattle.flash.specs.Geometry.{flash_fine, has_page, page_of}
use Rattle.flash.specs.Operations.{Op, applied}
use Rattle.slices.specs.Patch.{blank}
use Rattle.flash.proofs.PageLaws.{length-applied}
use Rattle.page.specs.Chunks.{chunk_magic, next_offset}
use Rattle.page.specs.Headers.{header_of}
use Rattle.page.specs.Walks.{Chunk, walk_from}
use Rattle.page.proofs.ChunkLaws.{payload-fine}
use Rattle.page.proofs.HeaderLaws.{header_of-below}
use Rattle.page.proofs.LaidLaws.{walk-ended}
use Rattle.writer.specs.Openings.{appended, resume_at}
use Rattle.writer.specs.States.{fresh}
use Rattle.writer.specs.Writes.{takes, taken_of, written}
use Rattle.writer.specs.declared.answers.Ended.{Ended}
use Rattle.writer.specs.declared.page_writer.PageWriter.{PageWriter}
use Rattle.claims.specs.Additions.{fills, addition, addition_ops, added, new_payload, store_count}
use Rattle.reader.specs.Finds.{payload_of}
use Rattle.claims.specs.Pages.{AllBytes, Good, payloads}
use Rattle.writer.proofs.ClosingLaws.{Stored}
use Rattle.claims.proofs.CutLaws.{Shape, append-as, added-page, even, room, stored}
use Rattle.claims.proofs.GoodLaws.{good-same, good_more}
use Rattle.claims.proofs.PageCutLaws.{Room, walk_before, walk-after, payload-after, below-kept}

-- ---- what is taken of bytes is bytes

addition-bytes : (pieces : List (List ℕ)) (w : PageWriter) → AllBytes pieces → Bytes (addition w pieces)
unfolding addition
addition-bytes [] w p = bytes-none
addition-bytes (bytes ∷ pieces) w p =
    bytes-append (taken_of w bytes) _ (bytes_take (takes (length bytes) w) bytes p.0) (by (fills w bytes) (addition-bytes pieces (written w bytes) p.1))
  where
    by : (t : Bool) → Bytes (addition (written w bytes) pieces) → Bytes (cond t [] (addition (written w bytes) pieces))
    by true q = bytes-none
    by false q = q

-- ---- the cut

module _ (e : ℕ) (unmarked : word (blank e 2) ≡ chunk_magic → ⊥) (xs : List ℕ) (page : PageID) (magic h o : ℕ) (w : PageWriter) (k : ℕ) (pieces : List (List ℕ))
    (fine : flash_fine (length xs) ≡ true) (there : has_page (length xs) page.0 ≡ true) (good : Good magic page.0 h o (page_of page.0 xs)) (bytes : AllBytes pieces)
    (some : 0 < length (new_payload e xs page h w k pieces)) where
  abbrev before : List ℕ
  before = page_of page.0 xs

  abbrev after : List ℕ
  after = page_of page.0 (added e xs page h w k pieces)

  shape : Shape (length xs) page.0 h
  shape = record { flash = fine; header = good.length-fine; there = there }

  abbrev writer : PageWriter
  writer = fresh false page h (resume_at e before o)

  is-writer : (appended e xs page h w k).writer ≡ writer
  is-writer = ap (λ (r : Ended ⊤). r.writer) (append-as e xs page h w k o shape good.ends)

  abbrev payload : List ℕ
  payload = addition writer pieces

  abbrev ops : List Op
  ops = addition_ops e writer pieces

  payload-is : new_payload e xs page h w k pieces ≡ payload
  payload-is = ap (λ (v : PageWriter). addition v pieces) is-writer

  count-is : store_count e xs page h w k pieces ≡ length ops
  count-is = ap (λ (v : PageWriter). length (addition_ops e v pieces)) is-writer

  some-taken : 0 < length payload
  some-taken = subst (λ (l : List ℕ). 0 < length l) payload-is some

  page-is : after ≡ applied 0 (take k ops) before
  page-is = added-page e xs page h w k o shape good.ends pieces

  -- what the page-wide laws ask
  abbrev at-page : {A : Type 0} → ((r : Room e before (page_header_size + h) o) → Bytes payload → o % 4 ≡ 0 → Stored before o payload before ops → A) → A
  at-page f =
      f (room e xs page h w k o shape good.ends pieces some-taken) (addition-bytes pieces writer bytes) (even e xs page h w k o shape good.ends)
      (stored e xs page h w k o shape good.ends pieces some-taken)

  long : length after ≡ page_size
  long = ap length page-is ∙ length-applied 0 (take k ops) before ∙ good.whole

  same : take o after ≡ take o before
  same = ap (take o) page-is ∙ at-page (λ r b v s. below-kept e unmarked before (page_header_size + h) o r payload b ops v s k)

  -- the higher header stays, wherever the cut fell
  pub header-kept : header_of after h ≡ header_of before h
  header-kept = header_of-below h o before after (walk-ended before (page_header_size + h) o good.ends).up same

  -- BEFORE THE LAST STORE: the old payloads
  pub page-before : k < store_count e xs page h w k pieces → Good magic page.0 h o after × (payloads after h ≡ payloads before h)
  page-before cut =
      good-same magic page.0 h o before after good long same
      (ap (λ (p : List ℕ). walk_from p (page_header_size + h)) page-is
      ∙ at-page (λ r b v s. walk_before e unmarked before (page_header_size + h) o r payload b ops v s k (subst (λ (n : ℕ). k < n) count-is cut)))

  -- AFTER IT: the old ones and the new one
  pub page-after : store_count e xs page h w k pieces ≤ k
      → Good magic page.0 h (next_offset o (length (new_payload e xs page h w k pieces))) after × (payloads after h ≡ payloads before h ++ (new_payload e xs page h w k pieces ∷ []))
  page-after all =
      let all' : length ops ≤ k = subst (λ (n : ℕ). n ≤ k) count-is all in
      let c : Chunk = record { offset = o; len = length payload; crc = published payload } in
      let there-is : payload_of after c ≡ payload =
      ap (λ (p : List ℕ). payload_of p c) page-is ∙ at-page (λ r b v s. payload-after e unmarked before (page_header_size + h) o r payload b ops v s k all') in
      let more = good_more magic page.0 h o before after good long same c (next_offset o (length payload))
      (ap (λ (p : List ℕ). walk_from p (page_header_size + h)) page-is
      ∙ at-page (λ r b v s. walk-after e unmarked before (page_header_size + h) o r payload b ops v s k all'))
      (record { some = some-taken; sum = payload-fine after o payload there-is }) in (
        subst (λ (l : List ℕ). Good magic page.0 h (next_offset o (length l)) after) (sym payload-is) more.0,
        more.1 ∙ ap (λ (l : List ℕ). payloads before h ++ (l ∷ [])) (there-is ∙ sym payload-is),
      )

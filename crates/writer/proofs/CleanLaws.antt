-- A writer that was opened to add stores within its page, on erased bytes alone: its places are erased when it is opened, and its own calls keep the
-- later ones so, until one is refused. The page header is the one store that goes over what is there; it ends before those places.
-- Assumes nothing.
use Rattle.std.specs.Prelude.{Ok, Err}
use Rattle.std.specs.declared.result.Result.{Result}
use Rattle.types.specs.declared.refusal.Corrupted.{Corrupted}
use mathlib.Core.Path.{◌≡◌, refl, sym, ap, subst, ◌∙◌}
use mathlib.Core.Bool.{Bool, true, false, cond}
use mathlib.Core.List.{List, [], ◌∷◌}
use mathlib.Core.Logic.{⊎_elim}
use Prim.Native.Nat.{ℕ, ◌+◌, ◌-◌, ◌*◌, ◌/◌, ◌%◌, ◌≤◌, ◌<◌}
use native.Mathlib.Nat.{le_refl}
use native.Mathlib.Omega.{arith}
use lib.ListN.{length, drop, get_or, length-take, get_or-eq_default}
use lib.Seq.{get_or-drop}
use borrow.Author.Tests.{eq-eqb, ne_eqb}
use Rattle.types.specs.Build.{page_size, align, chunk_header_size}
use Rattle.types.specs.Checks.{refused_or, Verdict}
use Rattle.types.specs.declared.page_id.PageID.{PageID}
use Rattle.types.proofs.TestLaws.{decided, eq-or-ne, le-or-lt}
use Rattle.crc.specs.Register.{finished}
use Rattle.flash.specs.Geometry.{page_of}
use Rattle.flash.specs.Operations.{Op, store, applied}
use Rattle.flash.proofs.OperationLaws.{applied-append}
use Rattle.flash.proofs.PageLaws.{length-applied}
use Rattle.slices.proofs.PatchLaws.{get_or-blank}
use Rattle.page.specs.Checks.{open_check}
use Rattle.page.specs.Chunks.{next_offset}
use Rattle.page.specs.Headers.{page_header}
use Rattle.page.specs.Walks.{walk_end, all_erased}
use Rattle.page.proofs.ErasedLaws.{erased-blank}
use Rattle.page.proofs.PutLaws.{length-chunk_header, length-page_header}
use Rattle.writer.specs.Commits.{group_at, rest_ops, seal_op, chunk_ops, next_chunk, commit_ops, committed}
use Rattle.writer.specs.Headings.{header_ops, headed}
use Rattle.writer.specs.Landings.{Erased, Lands}
use Rattle.writer.specs.Openings.{appended_at, appended}
use Rattle.writer.specs.Outcomes.{refused_at}
use Rattle.writer.specs.States.{first_chunk, fresh}
use Rattle.writer.specs.Checks.{heading_check}
use Rattle.writer.specs.Writes.{takes, grown, is_full, close_ops, closed, payload_ops, taking_ops, taken_of, write_ops, written}
use Rattle.writer.specs.declared.page_writer.PageWriter.{PageWriter}
use Rattle.writer.proofs.CheckLaws.{InRange, heading-checked}
use Rattle.writer.proofs.LiesOnLaws.{in-page}
use Rattle.writer.proofs.PlaceLaws.{taking-unarmed, length-buffer_of, payload-rising, rest-rising}
use Rattle.writer.proofs.RangeLaws.{taken-room, taken-some}
use Rattle.writer.proofs.StoreLaws.{Rising, lands-append, rising-lands, erased-below, erased-behind}

-- on page p the chunk's header is still to come, and nothing is stored from the group that is not finished on
pub record Clean (e : ℕ) (w : PageWriter) (p : List ℕ) : Type 0 where
  pub unarmed : w.armed ≡ false
  pub four : length w.buf ≡ align
  pub head : Erased e w.offset (w.offset + chunk_header_size) p
  pub rest : (b : ℕ) → Erased e (group_at w) b p

-- ---- opening

erased-from : (e o : ℕ) (p : List ℕ) → all_erased e (drop o p) ≡ true → (i : ℕ) → o ≤ i → get_or p i e ≡ e
erased-from e o p h i f =
    let k : o + (i - o) ≡ i = omega arith in
    let b = erased-blank e (drop o p) h in
    ap (λ (j : ℕ). get_or p j e) (sym k)
    ∙ sym (get_or-drop o p (i - o) e)
    ∙ ⊎_elim
    (λ (past : length (drop o p) ≤ i - o). get_or-eq_default (drop o p) e past)
    (λ (within : i - o < length (drop o p)). ap (λ (l : List ℕ). get_or l (i - o) e) b ∙ get_or-blank e (length (drop o p)) (i - o) e within)
    (le-or-lt (length (drop o p)) (i - o))

fresh-clean : (e : ℕ) (page : PageID) (h o : ℕ) (p : List ℕ) → ((i : ℕ) → o ≤ i → get_or p i e ≡ e) → Clean e (fresh false page h o) p
fresh-clean e page h o p f =
    record { unarmed = refl; four = refl; head = λ i low high. f i low; rest = λ b i low high. f i (omega arith) }

resume-clean : (e : ℕ) (page : PageID) (h o : ℕ) (p : List ℕ) (t : Bool) → length p ≤ page_size → all_erased e (drop o p) ≡ t → Clean e (fresh false page h (cond t o page_size)) p
resume-clean e page h o p true short q = fresh-clean e page h o p (erased-from e o p q)
resume-clean e page h o p false short q = fresh-clean e page h page_size p (λ i low. get_or-eq_default p e (let l : length p ≤ i = omega arith in l))

pub append-clean : (e : ℕ) (xs : List ℕ) (page : PageID) (h : ℕ) (w : PageWriter) (left : ℕ) → (appended e xs page h w left).answer ≡ Ok tt
    → Clean e (appended e xs page h w left).writer (page_of page.0 xs)
unfolding appended
append-clean e xs page h w left = by (open_check (length xs) h page) (walk_end (page_of page.0 xs) (first_chunk h))
  where
    by : (v : Verdict) (end : Result ℕ Corrupted) → (refused_or v (refused_at w left) (appended_at e (page_of page.0 xs) page h w left end)).answer ≡ Ok tt
        → Clean e (refused_or v (refused_at w left) (appended_at e (page_of page.0 xs) page h w left end)).writer (page_of page.0 xs)
    by (Err why) end a = let z : ◌≡◌ {A = ℕ} 0 1 = cc in absurd (omega arith)
    by (Ok tt) (Err w) a = let z : ◌≡◌ {A = ℕ} 0 1 = cc in absurd (omega arith)
    by (Ok tt) (Ok o) a =
        resume-clean e page h o (page_of page.0 xs) (all_erased e (drop o (page_of page.0 xs))) (rw length-take (omega arith)) refl

-- ---- commit

next_up : (o p : ℕ) → o % 4 ≡ 0 → (o + 8 ≤ o + 8 + (p - p % 4)) × ((o + 8 + (p - p % 4) ≤ (o + 8 + p + 3) / 4 * 4) × (o + 8 ≤ (o + 8 + p + 3) / 4 * 4))
next_up o p e = (omega arith, (omega arith, omega arith))

-- a chunk that fits into a page ends within it, its padding too
chunk_end : (o p long : ℕ) → long ≡ page_size → o + 8 + p ≤ page_size → (o + 8 ≤ long) × ((o + 8 + p + 3) / 4 * 4 ≤ long)
chunk_end o p long whole fits = (omega arith, omega arith)

seal-rising : (w : PageWriter) → Rising w.offset (w.offset + chunk_header_size) (seal_op w ∷ [])
seal-rising w = (le_refl w.offset, rw (length-chunk_header w.pending (finished w.crc)) (le_refl (w.offset + 8)))

chunk-clean : (e : ℕ) (w : PageWriter) (p : List ℕ) → w.offset % align ≡ 0 → length p ≡ page_size → w.offset + chunk_header_size + w.pending ≤ page_size → Clean e w p
    → Lands e (chunk_ops e w) p × Clean e (next_chunk w) (applied 0 (chunk_ops e w) p)
unfolding chunk_ops
chunk-clean e w p even whole fits c =
    let inside = chunk_end w.offset w.pending (length p) whole fits in
    let up = next_up w.offset w.pending even in
    let next = next_offset w.offset w.pending in
    let r = rest-rising w c.four even in
    let s = seal-rising w in
    let p₁ = applied 0 (rest_ops w) p in
    let later : (a b : ℕ) → next ≤ a → Erased e a b (applied 0 (seal_op w ∷ []) p₁) =
    λ a b h. erased-behind e a b w.offset (w.offset + 8) (seal_op w ∷ []) p₁ (omega arith) s
    (erased-behind e a b (group_at w) next (rest_ops w) p h r (λ i f g. c.rest b i (omega arith) g)) in
    rw (c.unarmed, applied-append 0 (rest_ops w) (seal_op w ∷ []) p) (
      lands-append e (rest_ops w) (seal_op w ∷ []) p
          (rising-lands e (group_at w) next (rest_ops w) p inside.1 (c.rest next) r)
          (rising-lands e w.offset (w.offset + 8) (seal_op w ∷ []) p₁ (rw (length-applied 0 (rest_ops w) p) inside.0)
          (erased-below e w.offset (w.offset + 8) (group_at w) next (rest_ops w) p up.0 r c.head) s),
      record { unarmed = refl; four = c.four; head = later next (next + 8) (le_refl next); rest = λ b. later (next + 8 + 0) b (omega arith) },
    )

pub commit-clean : (e : ℕ) (w : PageWriter) (p : List ℕ) → InRange w → length p ≡ page_size → Clean e w p
    → Lands e (commit_ops e w) p × Clean e (committed w) (applied 0 (commit_ops e w) p)
commit-clean e w p s whole c =
    ⊎_elim
    (λ (z : w.pending ≡ 0). rw (eq-eqb w.pending 0 z) (tt, c))
    (λ (n : w.pending ≡ 0 → ⊥). rw (ne_eqb w.pending 0 n) (chunk-clean e w p s.even whole (in-page w.offset w.pending s.room n) c))
    (eq-or-ne w.pending 0)

-- ---- write

group-up : (o p n : ℕ) → (o + 8 ≤ o + 8 + (p - p % 4)) × (o + 8 + (p - p % 4) ≤ o + 8 + (p + n - (p + n) % 4))
group-up o p n = (omega arith, omega arith)

group-end : (o p long : ℕ) → long ≡ page_size → o + 8 + p ≤ page_size → o + 8 + (p - p % 4) ≤ long
group-end o p long whole fits = omega arith

grown-clean : (e : ℕ) (w : PageWriter) (bytes p : List ℕ) → length p ≡ page_size → w.offset + chunk_header_size + (w.pending + length bytes) ≤ page_size → Clean e w p
    → Lands e (payload_ops w bytes) p × Clean e (grown w bytes) (applied 0 (payload_ops w bytes) p)
grown-clean e w bytes p whole fits c =
    let g = group_at (grown w bytes) in
    let up = group-up w.offset w.pending (length bytes) in
    let r = payload-rising w bytes c.four in (
      rising-lands e (group_at w) g (payload_ops w bytes) p (group-end w.offset (w.pending + length bytes) (length p) whole fits) (c.rest g) r,
      record {
        unarmed = refl;
        four = length-buffer_of w bytes ∙ c.four;
        head = erased-below e w.offset (w.offset + 8) (group_at w) g (payload_ops w bytes) p up.0 r c.head;
        rest = λ b. erased-behind e g b (group_at w) g (payload_ops w bytes) p (le_refl g) r (λ i low high. c.rest b i (omega arith) high);
      },
    )

close-clean : (e : ℕ) (w : PageWriter) (p : List ℕ) → w.offset % align ≡ 0 → length p ≡ page_size → w.offset + chunk_header_size + w.pending ≤ page_size → Clean e w p
    → Lands e (close_ops e w) p × Clean e (closed w) (applied 0 (close_ops e w) p)
close-clean e w p even whole fits c =
    ⊎_elim (λ (f : is_full w ≡ true). rw f (chunk-clean e w p even whole fits c)) (λ (f : is_full w ≡ false). rw f (tt, c)) (decided (is_full w))

taking-clean : (e : ℕ) (w : PageWriter) (bytes p : List ℕ) → w.offset % align ≡ 0 → length p ≡ page_size
    → w.offset + chunk_header_size + (w.pending + length bytes) ≤ page_size → Clean e w p
    → Lands e (taking_ops e w bytes) p × Clean e (closed (grown w bytes)) (applied 0 (taking_ops e w bytes) p)
taking-clean e w bytes p even whole fits c =
    let a = grown-clean e w bytes p whole fits c in
    let b = close-clean e (grown w bytes) (applied 0 (payload_ops w bytes) p) even (length-applied 0 (payload_ops w bytes) p ∙ whole) fits a.1 in
    rw (taking-unarmed e w bytes c.unarmed) (
      lands-append e (payload_ops w bytes) (close_ops e (grown w bytes)) p a.0 b.0,
      subst (λ (q : List ℕ). Clean e (closed (grown w bytes)) q) (sym (applied-append 0 (payload_ops w bytes) (close_ops e (grown w bytes)) p)) b.1,
    )

pub write-clean : (e : ℕ) (w : PageWriter) (bytes p : List ℕ) → InRange w → length p ≡ page_size → Clean e w p
    → Lands e (write_ops e w bytes) p × Clean e (written w bytes) (applied 0 (write_ops e w bytes) p)
write-clean e w bytes p s whole c =
    ⊎_elim
    (λ (z : takes (length bytes) w ≡ 0). rw (eq-eqb (takes (length bytes) w) 0 z) (tt, c))
    (λ (n : takes (length bytes) w ≡ 0 → ⊥). rw (ne_eqb (takes (length bytes) w) 0 n)
    (taking-clean e w (taken_of w bytes) p s.even whole (in-page w.offset (w.pending + length (taken_of w bytes)) (taken-room w bytes n) (taken-some w bytes n)) c))
    (eq-or-ne (takes (length bytes) w) 0)

-- ---- write_header

pub heading-clean : (n e : ℕ) (w : PageWriter) (magic : ℕ) (header p : List ℕ) → heading_check n w (length header) ≡ Ok tt → Clean e w p
    → Clean e (headed w) (applied 0 (header_ops e w magic header) p)
unfolding header_ops
heading-clean n e w magic header p v c =
    let o = w.offset in
    let bytes = page_header magic w.page.0 header in
    let k = heading-checked n w (length header) v in
    let h : length header ≡ w.h = k.own in
    let after = k.writer.range.after in
    let long : length bytes ≡ 12 + length header = length-page_header magic w.page.0 header in
    let ops : List Op = store 0 bytes ∷ [] in
    let r : Rising 0 o ops = (le_refl 0, rw long (omega arith)) in
    let stays : (a b : ℕ) → o ≤ a → Erased e a b p → Erased e a b (applied 0 ops p) = λ a b f. erased-behind e a b 0 o ops p f r in
    rw c.unarmed
    (record {
      unarmed = refl;
      four = c.four;
      head = stays o (o + 8) (le_refl o) c.head;
      rest = λ b. stays (group_at w) b (omega arith) (c.rest b);
    })

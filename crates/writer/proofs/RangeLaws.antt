-- A state in range stays in range, whatever the call and whether or not it is refused, and opening gives one. Assumes nothing.
use Rattle.std.specs.Prelude.{Ok, Err, ⊤}
use Rattle.std.specs.declared.result.Result.{Result}
use Rattle.types.specs.declared.refusal.Corrupted.{Corrupted}
use mathlib.Core.Path.{◌≡◌, refl, ap, ◌∙◌}
use mathlib.Core.Bool.{Bool, true, false, cond}
use mathlib.Core.List.{List}
use mathlib.Core.Logic.{◌⊎◌, inl, inr, ⊎_elim}
use Prim.Native.Nat.{ℕ, ◌+◌, ◌-◌, ◌*◌, ◌/◌, ◌%◌, ◌≤◌, ◌<◌, min}
use native.Mathlib.Omega.{arith}
use lib.ListN.{length, drop, length-take}
use borrow.Author.Tests.{eq-eqb, ne_eqb, eqb-true}
use Rattle.types.specs.Build.{page_size, align, max_page_count, max_chunk_size}
use Rattle.types.specs.Checks.{refused_or, Verdict}
use Rattle.types.specs.declared.page_id.PageID.{PageID}
use Rattle.types.proofs.TestLaws.{decided, eq-or-ne}
use Rattle.flash.specs.Geometry.{page_of}
use Rattle.flash.specs.Operations.{spent}
use Rattle.page.specs.Checks.{open_check}
use Rattle.page.specs.Headers.{header_fine}
use Rattle.page.specs.Walks.{walk_end, all_erased}
use Rattle.page.proofs.CheckLaws.{open-checked}
use Rattle.page.proofs.LaidLaws.{walk-ended}
use Rattle.writer.specs.Commits.{next_chunk, committed}
use Rattle.writer.specs.Duties.{Duty, write_duty, commit_duty, heading_duty, hands_back}
use Rattle.writer.specs.Headings.{headed}
use Rattle.writer.specs.Openings.{open_as, opened, resume_at, appended_at, appended}
use Rattle.writer.specs.Outcomes.{refused_at, wrote}
use Rattle.writer.specs.States.{first_chunk, most_pending, in_range, fresh, new_writer}
use Rattle.writer.specs.Writes.{takes, grown, is_full, closed, taken_of, written}
use Rattle.writer.specs.declared.answers.Ended.{Ended}
use Rattle.writer.specs.declared.page_writer.PageWriter.{PageWriter}
use Rattle.writer.proofs.CheckLaws.{InRange, range-known, range-in}
use Rattle.writer.proofs.OutcomeLaws.{by-check}

-- ---- write and commit

next-stays : (w : PageWriter) → InRange w → (w.pending ≡ 0 → ⊥) → InRange (next_chunk w)
next-stays w s n =
    let fits = next_fits w.h w.offset w.pending w.total s.after s.within s.room s.old n in
    record { header = s.header; low = s.low; even = omega arith; after = fits.0; within = fits.1.0; room = omega arith; old = fits.1.1 }
  where
    next_fits : (h o p t : ℕ) → 12 + h ≤ o → o ≤ page_size → p ≤ min max_chunk_size (page_size - 8 - o) → t ≤ o - (12 + h) + p → (p ≡ 0 → ⊥)
        → (12 + h ≤ (o + 8 + p + 3) / 4 * 4) × (((o + 8 + p + 3) / 4 * 4 ≤ page_size) × (t ≤ (o + 8 + p + 3) / 4 * 4 - (12 + h) + 0))
    next_fits h o p t a b c d n =
        let r : o + 8 + p ≤ page_size = omega arith in
        (omega arith, (omega arith, omega arith))

pub commit-stays : (w : PageWriter) → InRange w → InRange (committed w)
commit-stays w s =
    ⊎_elim
    (λ (z : w.pending ≡ 0). rw (eq-eqb w.pending 0 z) s)
    (λ (n : w.pending ≡ 0 → ⊥). rw (ne_eqb w.pending 0 n) (next-stays w s n))
    (eq-or-ne w.pending 0)

-- what is taken has room
pub taken-room : (w : PageWriter) (bytes : List ℕ) → (takes (length bytes) w ≡ 0 → ⊥)
    → w.pending + length (taken_of w bytes) ≤ most_pending w.offset
taken-room w bytes n =
    let o = w.offset in
    let p = w.pending in
    let t = takes (length bytes) w in
    let q = parts (length bytes) (page_size - (o + 8 + p)) (max_chunk_size - p) t refl in
    let r = sums o p t q.0 q.1 n in
    rw length-take (least o p (length bytes) t r.0 r.1)
  where
    parts : (l a b t : ℕ) → t ≡ min l (min a b) → (t ≤ a) × (t ≤ b)
    parts l a b t e = (omega arith, omega arith)

    sums : (o p t : ℕ) → t ≤ page_size - (o + 8 + p) → t ≤ max_chunk_size - p → (t ≡ 0 → ⊥) → (o + 8 + p + t ≤ page_size) × (p + t ≤ max_chunk_size)
    sums o p t a b n = (omega arith, omega arith)

    least : (o p l t : ℕ) → o + 8 + p + t ≤ page_size → p + t ≤ max_chunk_size → p + min t l ≤ min max_chunk_size (page_size - 8 - o)
    least o p l t f g = omega arith

-- where bytes are taken, some are pending
pub taken-some : (w : PageWriter) (bytes : List ℕ) → (takes (length bytes) w ≡ 0 → ⊥) → w.pending + length (taken_of w bytes) ≡ 0 → ⊥
taken-some w bytes n z = n (least (length bytes) w.pending (takes (length bytes) w) (omega arith) (rw length-take at z))
  where
    least : (l p t : ℕ) → t ≤ l → p + min t l ≡ 0 → t ≡ 0
    least l p t h e = omega arith

grown-stays : (w : PageWriter) (bytes : List ℕ) → InRange w → w.pending + length bytes ≤ most_pending w.offset → InRange (grown w bytes)
grown-stays w bytes s r =
    record { header = s.header; low = s.low; even = s.even; after = s.after; within = s.within; room = r; old = omega (arith, s.old) }

closed-stays : (w : PageWriter) → InRange w → InRange (closed w)
closed-stays w s =
    ⊎_elim
    (λ (f : is_full w ≡ true). rw f (next-stays w s (λ (z : w.pending ≡ 0). let g : w.pending ≡ max_chunk_size = eqb-true w.pending max_chunk_size f in omega arith)))
    (λ (f : is_full w ≡ false). rw f s)
    (decided (is_full w))

pub write-stays : (w : PageWriter) (bytes : List ℕ) → InRange w → InRange (written w bytes)
write-stays w bytes s =
    ⊎_elim
    (λ (z : takes (length bytes) w ≡ 0). rw (eq-eqb (takes (length bytes) w) 0 z) s)
    (λ (n : takes (length bytes) w ≡ 0 → ⊥).
    rw (ne_eqb (takes (length bytes) w) 0 n) (closed-stays (grown w (taken_of w bytes)) (grown-stays w (taken_of w bytes) s (taken-room w bytes n))))
    (eq-or-ne (takes (length bytes) w) 0)

pub commit-range : (w : PageWriter) → in_range w ≡ true → in_range (committed w) ≡ true
commit-range w r = range-in (committed w) (commit-stays w (range-known w r))

pub write-range : (w : PageWriter) (bytes : List ℕ) → in_range w ≡ true → in_range (written w bytes) ≡ true
write-range w bytes r = range-in (written w bytes) (write-stays w bytes (range-known w r))

pub heading-range : (w : PageWriter) → in_range (headed w) ≡ in_range w
unfolding in_range
heading-range w = refl

-- whatever a call hands back that owes operations: refused, cut or done
pub duty-range : (d : Duty) (w : PageWriter) (left : ℕ) → in_range w ≡ true → in_range d.next ≡ true → in_range (hands_back d w left).writer ≡ true
duty-range d w left r n = by-check (λ (c : Duty). in_range (hands_back c w left).writer ≡ true) d (λ why. r) (either (spent left d.ops).ok)
  where
    either : (t : Bool) → in_range (cond t d.next w) ≡ true
    either true = n
    either false = r

-- ---- new, open and open_append

pub fresh-range : (armed : Bool) (page : PageID) (h o : ℕ) → header_fine h ≡ true → page.0 < max_page_count → o % align ≡ 0 → first_chunk h ≤ o → o ≤ page_size
    → in_range (fresh armed page h o) ≡ true
fresh-range armed page h o f p a b c =
    range-in (fresh armed page h o) (record { header = f; low = p; even = a; after = b; within = c; room = omega arith; old = omega arith })

pub new-range : in_range new_writer ≡ true
unfolding in_range
new-range = refl

open-fresh : (n : ℕ) (page : PageID) (h o : ℕ) (armed : Bool) → open_check n h page ≡ Ok tt → o % align ≡ 0 → first_chunk h ≤ o → o ≤ page_size
    → in_range (fresh armed page h o) ≡ true
open-fresh n page h o armed e a b c =
    let checked = open-checked n h page e in
    fresh-range armed page h o checked.header checked.flash.low a b c

-- the first chunk's place is one to go on at
first-place : (n h : ℕ) (page : PageID) → open_check n h page ≡ Ok tt → (first_chunk h % align ≡ 0) × (first_chunk h ≤ page_size)
first-place n h page e = let checked = open-checked n h page e in (omega arith, omega arith)

pub open-range : (xs : List ℕ) (page : PageID) (h : ℕ) (w : PageWriter) (left : ℕ) → (opened xs page h w left).answer ≡ Ok tt → in_range (opened xs page h w left).writer ≡ true
unfolding opened
open-range xs page h w left = by (open_check (length xs) h page) refl
  where
    by : (v : Verdict) → open_check (length xs) h page ≡ v → (refused_or v (refused_at w left) (open_as (fresh true page h (first_chunk h)) left)).answer ≡ Ok tt
        → in_range (refused_or v (refused_at w left) (open_as (fresh true page h (first_chunk h)) left)).writer ≡ true
    by (Err why) e a = let z : ◌≡◌ {A = ℕ} 0 1 = cc in absurd (omega arith)
    by (Ok tt) e a = let f = first-place (length xs) h page e in open-fresh (length xs) page h (first_chunk h) true e f.0 (omega arith) f.1

-- where adding goes on: the end of the walk, or the page's end
resume-place : (e h o : ℕ) (bytes : List ℕ) → o % align ≡ 0 → first_chunk h ≤ o → o ≤ page_size
    → (resume_at e bytes o % align ≡ 0) × ((first_chunk h ≤ resume_at e bytes o) × (resume_at e bytes o ≤ page_size))
resume-place e h o bytes a b c = by (all_erased e (drop o bytes))
  where
    by : (t : Bool) → (cond t o page_size % align ≡ 0) × ((first_chunk h ≤ cond t o page_size) × (cond t o page_size ≤ page_size))
    by true = (a, (b, c))
    by false = (refl, (omega arith, omega arith))

pub append-range : (e : ℕ) (xs : List ℕ) (page : PageID) (h : ℕ) (w : PageWriter) (left : ℕ) → (appended e xs page h w left).answer ≡ Ok tt
    → in_range (appended e xs page h w left).writer ≡ true
unfolding appended
append-range e xs page h w left = by (open_check (length xs) h page) refl (walk_end (page_of page.0 xs) (first_chunk h)) refl
  where
    by : (v : Verdict) → open_check (length xs) h page ≡ v → (end : Result ℕ Corrupted) → walk_end (page_of page.0 xs) (first_chunk h) ≡ end
        → (refused_or v (refused_at w left) (appended_at e (page_of page.0 xs) page h w left end)).answer ≡ Ok tt
        → in_range (refused_or v (refused_at w left) (appended_at e (page_of page.0 xs) page h w left end)).writer ≡ true
    by (Err why) p end q a = let z : ◌≡◌ {A = ℕ} 0 1 = cc in absurd (omega arith)
    by (Ok tt) p (Err w) q a = let z : ◌≡◌ {A = ℕ} 0 1 = cc in absurd (omega arith)
    by (Ok tt) p (Ok o) q a =
        let f = first-place (length xs) h page p in
        let t = walk-ended (page_of page.0 xs) (first_chunk h) o q in
        let r = resume-place e h o (page_of page.0 xs) (t.group f.0) t.up (t.within f.1) in
        open-fresh (length xs) page h (resume_at e (page_of page.0 xs) o) false p r.0 r.1.0 r.1.1

-- ---- what each call hands back, refused or not

-- an opening is done, or the writer is as at entry
abbrev DoneOrBack : PageWriter → Ended ⊤ → Type 0
DoneOrBack w o = (o.answer ≡ Ok tt) ⊎ (o.writer ≡ w)

open-or-back : (xs : List ℕ) (page : PageID) (h : ℕ) (w : PageWriter) (left : ℕ) → DoneOrBack w (opened xs page h w left)
unfolding opened
open-or-back xs page h w left = by (open_check (length xs) h page)
  where
    by : (v : Verdict) → DoneOrBack w (refused_or v (refused_at w left) (open_as (fresh true page h (first_chunk h)) left))
    by (Err why) = inr refl
    by (Ok tt) = inl refl

append-or-back : (e : ℕ) (xs : List ℕ) (page : PageID) (h : ℕ) (w : PageWriter) (left : ℕ) → DoneOrBack w (appended e xs page h w left)
unfolding appended
append-or-back e xs page h w left = by (open_check (length xs) h page) (walk_end (page_of page.0 xs) (first_chunk h))
  where
    by : (v : Verdict) (end : Result ℕ Corrupted) → DoneOrBack w (refused_or v (refused_at w left) (appended_at e (page_of page.0 xs) page h w left end))
    by (Err why) end = inr refl
    by (Ok tt) (Err w) = inr refl
    by (Ok tt) (Ok o) = inl refl

module _ (e : ℕ) (xs : List ℕ) (w : PageWriter) (left : ℕ) (r : in_range w ≡ true) where
  pub open-in-range : (page : PageID) (h : ℕ) → in_range (opened xs page h w left).writer ≡ true
  open-in-range page h = ⊎_elim (open-range xs page h w left) (λ q. ap in_range q ∙ r) (open-or-back xs page h w left)

  pub append-in-range : (page : PageID) (h : ℕ) → in_range (appended e xs page h w left).writer ≡ true
  append-in-range page h = ⊎_elim (append-range e xs page h w left) (λ q. ap in_range q ∙ r) (append-or-back e xs page h w left)

  pub write-in-range : (bytes : List ℕ) → in_range (wrote (takes (length bytes) w) (hands_back (write_duty e xs w bytes) w left)).writer ≡ true
  write-in-range bytes = duty-range (write_duty e xs w bytes) w left r (write-range w bytes r)

  pub commit-in-range : in_range (hands_back (commit_duty e xs w) w left).writer ≡ true
  commit-in-range = duty-range (commit_duty e xs w) w left r (commit-range w r)

  pub heading-in-range : (magic : ℕ) (header : List ℕ) → in_range (hands_back (heading_duty e xs w magic header) w left).writer ≡ true
  heading-in-range magic header = duty-range (heading_duty e xs w magic header) w left r (heading-range w ∙ r)

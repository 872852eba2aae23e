-- SKIP IS READ: a skip passes the bytes that reads would hand out, and answers how many. Assumes nothing.
use Rattle.std.specs.Prelude.{Ok, Err}
use Rattle.types.specs.Checks.{Verdict}
use Rattle.std.specs.declared.result.Result.{Result}
use mathlib.Core.Path.{◌≡◌, refl, sym, ap, ap₂, subst, ◌∙◌}
use mathlib.Core.Bool.{Bool, cond}
use mathlib.Core.List.{List, [], ◌∷◌}
use mathlib.Core.Logic.{inl, inr, ⊎_elim}
use Prim.Native.Nat.{ℕ, ◌≤◌, ◌<◌, min}
use native.Mathlib.Omega.{arith}
use lib.ListN.{length}
use borrow.Author.Tests.{le-leb, lt-leb}
use Rattle.types.specs.declared.page_id.PageID.{PageID}
use Rattle.types.specs.declared.refusal.Refusal.{Refusal}
use Rattle.types.proofs.TestLaws.{le-or-lt}
use Rattle.flash.specs.Geometry.{whole_pages, page_of}
use Rattle.page.specs.Chunks.{next_offset}
use Rattle.page.specs.Walks.{Chunk, walk_from}
use Rattle.page.proofs.LaidLaws.{All}
use Rattle.reader.specs.Calls.{skip}
use Rattle.reader.specs.Checks.{reader_check}
use Rattle.reader.specs.Finds.{Joined, NotEmpty, without}
use Rattle.reader.specs.declared.answers.Passage.{Passage}
use Rattle.reader.specs.declared.page_reader.PageReader.{PageReader}
use Rattle.reader.proofs.BufferLaws.{FullBehind, remaining, reads-remaining}
use Rattle.reader.proofs.CheckLaws.{range-known, range-in, reader-checked, reader-fine}
use Rattle.reader.proofs.PassedLaws.{SkippingBy, skip-passes}
use Rattle.reader.proofs.RangeLaws.{skip-in-range}
use Rattle.claims.specs.ReaderHistories.{Among}
use Rattle.claims.specs.Skips.{found_from, answer_of, passed_by, SkipIsRead, NoneEmptyBehind}

-- ---- the answer, from what was passed

all_of : (P : Chunk → Type 0) (cs : List Chunk) → ((c : Chunk) → Among c cs → P c) → All P cs
all_of P [] h = tt
all_of P (c ∷ cs) h = (h c (inl refl), all_of P cs (λ d a. h d (inr a)))

full-behind : (flash : List ℕ) (r : PageReader) → NoneEmptyBehind flash r → FullBehind (page_of r.page.0 flash) r
full-behind flash r none e = all_of NotEmpty (walk_from (page_of r.page.0 flash) (next_offset r.offset r.len)).chunks (none e)

-- n, or all of them where what is found ends well
passed-answer : (n k m : ℕ) (v : Verdict) → k ≡ min n m → (m < n → v ≡ Ok tt) → Ok k ≡ answer_of n m v
passed-answer n k m (Ok tt) e fine = ap Ok e
passed-answer n k m (Err w) e fine =
    ⊎_elim
    (λ (h : n ≤ m).
    let all : k ≡ n = omega arith in
    ap Ok all ∙ ap (λ (t : Bool). cond t (Ok n) (Err w)) (sym (le-leb n m h)))
    (λ (h : m < n).
    let no : Err w ≡ (Ok tt) = fine h in
    let z : ◌≡◌ {A = ℕ} 0 1 = cc in
    absurd (omega arith))
    (le-or-lt n m)

refused-answer : (n m : ℕ) (w : Refusal) → m < n → Err w ≡ answer_of n m (Err w)
refused-answer n m w h = ap (λ (t : Bool). cond t (Ok n) (Err w)) (sym (lt-leb n m h))

-- ---- the claim

-- the reader behind a skip passes the checks too
behind-fine : (flash : List ℕ) (r : PageReader) (n : ℕ) → reader_check (length flash) r ≡ Ok tt → (skip r flash n).reader.page ≡ r.page
    → reader_check (length flash) (skip r flash n).reader ≡ Ok tt
behind-fine flash r n v same =
    let known = reader-checked (length flash) r v in
    let s = (skip r flash n).reader in
    let range = range-known s (skip-in-range r flash (range-in r known.range) n) in
    reader-fine (length flash) s known.flash.fine (subst (λ (p : PageID). p.0 < whole_pages (length flash)) (sym same) known.flash.has) range

-- from any reader that passes its checks, with buffers of any sizes from 1 on. A reader that is refused finds nothing, and refuses a
-- skip of 0 too, so the first premise is needed. And where an empty chunk stands behind the reader's own, a read that arrives there
-- answers 0, so that nothing more is found, while a skip goes on over it: of chunks of 1, 0 and 1 bytes reads find 1 and a skip of 2
-- answers 2
pub skip-is-read : (flash : List ℕ) (r : PageReader) (n : ℕ) (before behind : ℕ → List ℕ) → reader_check (length flash) r ≡ Ok tt → NoneEmptyBehind flash r
    → ((i : ℕ) → 1 ≤ length (before i)) → ((i : ℕ) → 1 ≤ length (behind i)) → SkipIsRead flash r n before behind
skip-is-read flash r n before behind v none some others = by (skip r flash n).answer (skip r flash n).reader refl (skip-passes flash r n v)
  where
    page : List ℕ
    page = page_of r.page.0 flash

    full : FullBehind page r
    full = full-behind flash r none

    all-is : found_from before flash r ≡ remaining page r
    all-is = reads-remaining flash r v full before some

    -- the answer and the reader that comes back, and then what is found by the reads
    both : (a : Result ℕ Refusal) (s : PageReader) → skip r flash n ≡ record { answer = a; reader = s }
        → a ≡ answer_of n (length (remaining page r).bytes) (remaining page r).ends → found_from behind flash s ≡ without (passed_by a) (remaining page r)
        → SkipIsRead flash r n before behind
    both a s went answers finds = record {
      answer = ap (λ (p : Passage ℕ). p.answer) went ∙ answers ∙ sym (ap (λ (j : Joined). answer_of n (length j.bytes) j.ends) all-is);
      found =
          ap (λ (p : Passage ℕ). found_from behind flash p.reader) went ∙ finds
          ∙ sym (ap₂ (λ (p : Passage ℕ) (j : Joined). without (passed_by p.answer) j) went all-is);
    }

    by : (a : Result ℕ Refusal) (s : PageReader) → skip r flash n ≡ record { answer = a; reader = s } → SkippingBy page r n s a → SkipIsRead flash r n before behind
    by (Ok m) s went k =
        let here : (skip r flash n).reader ≡ s = ap (λ (p : Passage ℕ). p.reader) went in
        let fine : reader_check (length flash) s ≡ (Ok tt) =
        subst (λ (q : PageReader). reader_check (length flash) q ≡ Ok tt) here (behind-fine flash r n v (ap (λ (q : PageReader). q.page) here ∙ k.page-kept)) in
        let same : page_of s.page.0 flash ≡ page = ap (λ (p : PageID). page_of p.0 flash) k.page-kept in
        let rest : found_from behind flash s ≡ remaining page s =
        reads-remaining flash s fine (subst (λ (b : List ℕ). FullBehind b s) (sym same) (k.full full)) behind others ∙ ap (λ (b : List ℕ). remaining b s) same in
        both (Ok m) s went (passed-answer n m (length (remaining page r).bytes) (remaining page r).ends k.least k.fine) (rest ∙ k.behind)
    by (Err w) s went k =
        let m = length (remaining page r).bytes in
        both (Err w) s went (refused-answer n m w k.1.0 ∙ ap (answer_of n m) (sym k.1.1))
        (ap (found_from behind flash) k.0 ∙ reads-remaining flash r v full behind others)

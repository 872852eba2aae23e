-- A skip passes what reads would hand out: over the rest of a reader's chunk and the chunks of the walk behind it. Assumes nothing.
use Rattle.std.specs.Prelude.{Ok, Err, Some, None}
use Rattle.types.specs.Checks.{corruption}
use Rattle.std.specs.declared.result.Result.{Result}
use Rattle.types.specs.declared.refusal.Corrupted.{Corrupted}
use Rattle.types.specs.declared.refusal.Refusal.{Refusal}
use mathlib.Core.Path.{◌≡◌, refl, sym, ap, subst, ◌∙◌}
use mathlib.Core.Bool.{true, false}
use mathlib.Core.List.{List, [], ◌∷◌, ◌++◌, append-nil}
use mathlib.Core.Logic.{⊎_elim}
use Prim.Native.Nat.{ℕ, ◌+◌, ◌-◌, ◌≤◌, ◌<◌, min}
use native.Mathlib.Omega.{arith}
use lib.ListN.{length, drop, length-append}
use lib.Seq.{drop-drop, drop-append-le, drop-append-add}
use Rattle.types.specs.declared.refusal.Refusal.TheVariants as row
use Rattle.types.proofs.TestLaws.{decided, le-or-lt}
use Rattle.flash.specs.Geometry.{page_of}
use Rattle.page.specs.Chunks.{next_offset, payload_at, payload_fine, chunk_at, checked_at, Step, found_chunk}
use Rattle.page.specs.Walks.{Walked, walk_from}
use Rattle.page.proofs.ChunkLaws.{chunk-found, checked-found, checked-end, checked-bad, checked-right, checked-wrong}
use Rattle.page.proofs.LaidLaws.{All}
use Rattle.page.proofs.WalkLaws.{walk-chunk, walk-rule}
use Rattle.reader.specs.Calls.{passage_of, skip}
use Rattle.reader.specs.Checks.{reader_check}
use Rattle.reader.specs.Finds.{Joined, NotEmpty, joined, walk_finds, without}
use Rattle.reader.specs.Moves.{arriving, moved, rest_of, past, skipped}
use Rattle.reader.specs.declared.moves.Passed.{Passed}
use Rattle.reader.specs.declared.page_reader.PageReader.{PageReader}
use Rattle.reader.proofs.BufferLaws.{ahead, joined-then, no_bytes, joined-none, remaining, remaining-ended, remaining-in, FullBehind}
use Rattle.reader.proofs.FoundLaws.{on}
use Rattle.reader.proofs.GoodLaws.{finds_at, finds-step}
use Rattle.reader.proofs.MoveLaws.{apart, rest_in}
use Rattle.reader.proofs.SkipLaws.{skip-ended, skip-here, skip-bad, skip-on}

-- r passed count bytes but the last `left`, where j was left for it, and is s now
record Passing (page : List ℕ) (r : PageReader) (count : ℕ) (j : Joined) (s : PageReader) (left : ℕ) : Type 0 where
  few : left ≤ count
  least : count - left ≡ min count (length j.bytes)
  fine : length j.bytes < count → j.ends ≡ Ok tt
  behind : remaining page s ≡ without (count - left) j
  page-kept : s.page ≡ r.page
  full : FullBehind page r → FullBehind page s

-- all of them were passed, or what is corrupted came before that
abbrev PassingOf : List ℕ → PageReader → ℕ → Joined → Result Passed Corrupted → Type 0
PassingOf page r count j (Ok passed') = Passing page r count j passed'.reader passed'.left
PassingOf page r count j (Err w) = (length j.bytes < count) × (j.ends ≡ Err row.Corrupted)

-- ---- bytes in front

drop_past : (front back : List ℕ) (n m : ℕ) → n ≡ length front + m → drop n (front ++ back) ≡ drop m back
drop_past front back n m e = ap (λ (k : ℕ). drop k (front ++ back)) e ∙ drop-append-add front back m

-- a count that passes the front and then goes over what follows
front-few : (count left l : ℕ) → l < count → left ≤ count - l → left ≤ count
front-few count left l h k = omega arith

front-more : (count left l m more : ℕ) → count ≡ l + more → left ≤ more → more - left ≡ min more m → count - left ≡ min count (l + m)
front-more count left l m more h k e = omega arith

front-least : (count left l m : ℕ) → l < count → left ≤ count - l → count - l - left ≡ min (count - l) m → count - left ≡ min count (l + m)
front-least count left l m h k e = front-more count left l m (count - l) (omega arith) k e

module _ (page : List ℕ) where
  -- r went past the front of what was left and then to t, and on from there
  onto-passing : (r t : PageReader) (count : ℕ) (front : List ℕ) (j : Joined) → length front < count → t.page ≡ r.page
      → (FullBehind page r → FullBehind page t) → (p : Result Passed Corrupted) → PassingOf page t (count - length front) j p → PassingOf page r count (ahead front j) p
  onto-passing r t count front j h same full (Ok passed') k =
      let l = length front in
      let long : length (front ++ j.bytes) ≡ l + length j.bytes = length-append front j.bytes in
      let few : passed'.left ≤ count - l = k.few in
      let split : count - passed'.left ≡ l + (count - l - passed'.left) = omega arith in
      record {
        few = front-few count passed'.left l h few;
        least = rw long (front-least count passed'.left l (length j.bytes) h few k.least);
        fine = λ (q : length (front ++ j.bytes) < count). k.fine (omega arith);
        behind = k.behind ∙ ap (λ (b : List ℕ). record { bytes = b; ends = j.ends }) (sym (drop_past front j.bytes (count - passed'.left) (count - l - passed'.left) split));
        page-kept = k.page-kept ∙ same;
        full = λ f. k.full (full f);
      }
  onto-passing r t count front j h same full (Err w) k =
      let long : length (front ++ j.bytes) ≡ length front + length j.bytes = length-append front j.bytes in
      let few : length j.bytes < count - length front = k.0 in
      (omega arith, k.1)

  -- ---- one step

  ended-passing : (count : ℕ) (r : PageReader) → r.ended ≡ true → PassingOf page r count (remaining page r) (skipped page count r)
  ended-passing count r e =
      let none : remaining page r ≡ no_bytes (Ok tt) = remaining-ended page r e in
      let least : count - count ≡ min count 0 = omega arith in
      let zero_left : count - count ≡ 0 = omega arith in
      rw (skip-ended page count r e, none)
      (record {
        few = omega arith;
        least = least;
        fine = λ q. refl;
        behind = none ∙ ap (λ (n : ℕ). without n (no_bytes (Ok tt))) (sym zero_left);
        page-kept = refl;
        full = λ f. f;
      })

  here-passing : (count : ℕ) (r : PageReader) → r.ended ≡ false → count ≤ length (rest_of page r) → PassingOf page r count (remaining page r) (skipped page count r)
  here-passing count r e h =
      let more = joined (walk_finds page (next_offset r.offset r.len)) in
      let payload = payload_at page r.offset r.len in
      let rest = rest_of page r in
      let long : length (rest ++ more.bytes) ≡ length rest + length more.bytes = length-append rest more.bytes in
      let least : count - 0 ≡ min count (length (rest ++ more.bytes)) = omega arith in
      let all : count - 0 ≡ count = omega arith in
      let rest-is : rest_of page (past r count) ≡ drop count rest =
      rest_in page (past r count) e ∙ sym (ap (drop count) (rest_in page r e) ∙ drop-drop count r.position payload) in
      let parts : rest_of page (past r count) ++ more.bytes ≡ drop (count - 0) (rest ++ more.bytes) =
      ap (λ (l : List ℕ). l ++ more.bytes) rest-is ∙ sym (ap (λ (k : ℕ). drop k (rest ++ more.bytes)) all ∙ drop-append-le count rest more.bytes h) in
      rw (skip-here page count r e h, remaining-in page r e)
      (record {
        few = omega arith;
        least = least;
        fine = λ (q : length (rest ++ more.bytes) < count). absurd (omega arith);
        behind = remaining-in page (past r count) e ∙ ap (λ (b : List ℕ). record { bytes = b; ends = more.ends }) parts;
        page-kept = refl;
        full = λ f. f;
      })

  -- what the walk's next step has to give
  abbrev Further : Step → Type 0
  Further (Ok None) = Unit
  Further (Err w) = Unit
  Further (Ok (Some chunk)) =
      (count : ℕ) (r : PageReader) → r.ended ≡ false → next_offset r.offset r.len ≡ chunk.next → PassingOf page r count (remaining page r) (skipped page count r)

  on-passing : (count : ℕ) (r : PageReader) → r.ended ≡ false → length (rest_of page r) < count
      → (x : Step) → checked_at page (next_offset r.offset r.len) ≡ x → Further x → PassingOf page r count (remaining page r) (skipped page count r)
  unfolding moved
  on-passing count r e h (Ok None) c further =
      let o = next_offset r.offset r.len in
      let front = rest_of page r in
      let l = length front in
      let s = on r.page true o r.len r.crc (r.position + l) in
      let goes : moved page (past r l) ≡ Ok s = ap (arriving (past r l) o) c in
      let more : joined (walk_finds page o) ≡ no_bytes (Ok tt) = ap joined (finds-step page o ∙ ap (finds_at page o) c) ∙ joined-none (Ok tt) in
      let is : remaining page r ≡ ahead front (no_bytes (Ok tt)) = remaining-in page r e ∙ ap (ahead front) more in
      rw (is, skip-on page count r s e h goes)
      (onto-passing r s count front (no_bytes (Ok tt)) h refl (λ f q. absurd (apart refl q)) (skipped page (count - l) s) (ended-passing (count - l) s refl))
  on-passing count r e h (Err w) c further =
      let o = next_offset r.offset r.len in
      let front = rest_of page r in
      let l = length front in
      let bad = Err row.Corrupted in
      let goes : moved page (past r l) ≡ (Err corruption) = ap (arriving (past r l) o) c in
      let more : joined (walk_finds page o) ≡ no_bytes bad = ap joined (finds-step page o ∙ ap (finds_at page o) c) ∙ joined-none bad in
      let is : remaining page r ≡ ahead front (no_bytes bad) = remaining-in page r e ∙ ap (ahead front) more in
      let long : length (front ++ []) ≡ l = ap length (append-nil front) in
      let short : length (front ++ []) < count = omega arith in
      rw (is, skip-bad page count r e h goes) (short, refl)
  on-passing count r e h (Ok (Some found)) c further =
      let o = next_offset r.offset r.len in
      let front = rest_of page r in
      let l = length front in
      let s = on r.page false o found.len found.crc 0 in
      let goes : moved page (past r l) ≡ Ok s = ap (arriving (past r l) o) c in
      let chunk : chunk_at page o ≡ found_chunk found.len found.crc found.next = (checked-found page o found.len found.crc found.next c).0 in
      let after : found.next ≡ next_offset o found.len = (chunk-found page o found.len found.crc found.next chunk).after in
      let own : remaining page s ≡ ahead (payload_at page o found.len) (joined (walk_finds page found.next)) =
      remaining-in page s refl ∙ ap (λ (b : List ℕ). ahead b (joined (walk_finds page (next_offset o found.len)))) (rest_in page s refl)
      ∙ ap (λ (n : ℕ). ahead (payload_at page o found.len) (joined (walk_finds page n))) (sym after) in
      let more : joined (walk_finds page o) ≡ remaining page s =
      ap joined (finds-step page o ∙ ap (finds_at page o) c) ∙ joined-then (payload_at page o found.len) (walk_finds page found.next) ∙ sym own in
      let is : remaining page r ≡ ahead front (remaining page s) = remaining-in page r e ∙ ap (ahead front) more in
      let walked : (walk_from page o).chunks ≡ record { offset = o; len = found.len; crc = found.crc } ∷ (walk_from page found.next).chunks =
      ap (λ (w : Walked). w.chunks) (walk-chunk page o found.len found.crc found.next chunk) in
      let full : FullBehind page r → FullBehind page s =
      λ f q.
      let both : All NotEmpty (record { offset = o; len = found.len; crc = found.crc } ∷ (walk_from page found.next).chunks) = rw walked at (f e) in
      subst (λ (n : ℕ). All NotEmpty (walk_from page n).chunks) after both.1 in
      rw (is, skip-on page count r s e h goes)
      (onto-passing r s count front (remaining page s) h refl full (skipped page (count - l) s) (further (count - l) s refl (sym after)))

  -- ---- over the walk

  in-passing : (x : Step) → Further x → (count : ℕ) (r : PageReader) → r.ended ≡ false → checked_at page (next_offset r.offset r.len) ≡ x
      → PassingOf page r count (remaining page r) (skipped page count r)
  in-passing x further count r e c =
      ⊎_elim (λ h. here-passing count r e h) (λ h. on-passing count r e h x c further) (le-or-lt count (length (rest_of page r)))

  walk-passing : (o : ℕ) (count : ℕ) (r : PageReader) → r.ended ≡ false → next_offset r.offset r.len ≡ o
      → PassingOf page r count (remaining page r) (skipped page count r)
  walk-passing =
      walk-rule page
      (λ o w. (count : ℕ) (r : PageReader) → r.ended ≡ false → next_offset r.offset r.len ≡ o → PassingOf page r count (remaining page r) (skipped page count r))
      (λ o c count r e q. in-passing (Ok None) tt count r e (ap (checked_at page) q ∙ checked-end page o c))
      (λ o c count r e q. in-passing (Err corruption) tt count r e (ap (checked_at page) q ∙ checked-bad page o c))
      (λ o len crc next c rest count r e q.
      ⊎_elim
      (λ (t : payload_fine page o len crc ≡ true).
      in-passing (found_chunk len crc next) rest count r e (ap (checked_at page) q ∙ checked-right page o len crc next c t))
      (λ (t : payload_fine page o len crc ≡ false).
      in-passing (Err corruption) tt count r e (ap (checked_at page) q ∙ checked-wrong page o len crc next c t))
      (decided (payload_fine page o len crc)))

  skip-passing : (count : ℕ) (r : PageReader) → PassingOf page r count (remaining page r) (skipped page count r)
  skip-passing count r =
      ⊎_elim (λ e. ended-passing count r e) (λ e. walk-passing (next_offset r.offset r.len) count r e refl) (decided r.ended)

-- ---- the call

-- of what was left for r a skip of n passes k bytes, which are n or all of them, and s comes back
pub record Skipping (page : List ℕ) (r : PageReader) (n : ℕ) (s : PageReader) (k : ℕ) : Type 0 where
  pub least : k ≡ min n (length (remaining page r).bytes)
  pub fine : length (remaining page r).bytes < n → (remaining page r).ends ≡ Ok tt
  pub behind : remaining page s ≡ without k (remaining page r)
  pub page-kept : s.page ≡ r.page
  pub full : FullBehind page r → FullBehind page s

-- by its answer: it is refused where there are fewer, and then comes what is refused
abbrev pub SkippingBy : List ℕ → PageReader → ℕ → PageReader → Result ℕ Refusal → Type 0
SkippingBy page r n s (Ok k) = Skipping page r n s k
SkippingBy page r n s (Err w) = (s ≡ r) × ((length (remaining page r).bytes < n) × ((remaining page r).ends ≡ Err w))

pub skip-passes : (flash : List ℕ) (r : PageReader) (n : ℕ) → reader_check (length flash) r ≡ Ok tt
    → SkippingBy (page_of r.page.0 flash) r n (skip r flash n).reader (skip r flash n).answer
unfolding skip
skip-passes flash r n v = rw v (by (skipped page n r) (skip-passing page n r))
  where
    page : List ℕ
    page = page_of r.page.0 flash

    by : (p : Result Passed Corrupted) → PassingOf page r n (remaining page r) p → SkippingBy page r n (passage_of r n p).reader (passage_of r n p).answer
    by (Ok passed') k = record { least = k.least; fine = k.fine; behind = k.behind; page-kept = k.page-kept; full = k.full }
    by (Err w) k = (refl, k)

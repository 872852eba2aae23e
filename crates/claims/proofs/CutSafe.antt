-- What a new reader finds after a cut (docs/RULES.md, Stores left). A new reader opens the page and reads to the end, each read
-- into a buffer that holds a whole chunk (`found`: what its calls hand out and how they end) or into buffers of any sizes
-- (`found_with`). Assumes nothing.
use Rattle.std.specs.Prelude.{Ok}
use mathlib.Core.Path.{◌≡◌, sym, ap, subst, ◌∙◌}
use mathlib.Core.Bool.{true}
use mathlib.Core.List.{List, [], ◌∷◌, ◌++◌, flatten}
use Prim.Native.Nat.{ℕ, ◌+◌, ◌≤◌, ◌<◌}
use native.Mathlib.Omega.{arith}
use lib.ListN.{length}
use Rattle.types.specs.Bytes.{word}
use Rattle.types.specs.Build.{erase_value, page_header_size, max_chunk_size}
use Rattle.types.specs.declared.page_id.PageID.{PageID}
use Rattle.flash.specs.Geometry.{flash_fine, has_page, page_of}
use Rattle.slices.specs.Patch.{blank}
use Rattle.slices.proofs.PatchLaws.{length-blank}
use Rattle.page.specs.Chunks.{chunk_magic, next_offset}
use Rattle.page.specs.Headers.{header_of}
use Rattle.page.specs.Walks.{Chunk, walk_from}
use Rattle.page.proofs.CheckLaws.{open_check-fine}
use Rattle.page.proofs.ErasedLaws.{mark-shown}
use Rattle.page.proofs.LaidLaws.{All}
use Rattle.reader.specs.Calls.{open_page}
use Rattle.reader.specs.Finds.{Found, NotEmpty, found, found_with, joined}
use Rattle.reader.specs.States.{new_reader}
use Rattle.reader.specs.declared.page_reader.PageReader.{PageReader}
use Rattle.reader.proofs.BufferLaws.{any-buffers}
use Rattle.reader.proofs.CallLaws.{open_page-answer, found-with, found_with-opened}
use Rattle.reader.proofs.FoundLaws.{found-whole}
use Rattle.reader.proofs.GoodLaws.{Right as SumRight}
use Rattle.reader.proofs.OpenLaws.{open-filled}
use Rattle.writer.specs.declared.page_writer.PageWriter.{PageWriter}
use Rattle.claims.specs.Additions.{added, new_payload, store_count, added_payload}
use Rattle.claims.specs.Histories.{Episode, AllPieces, history, kept_payloads}
use Rattle.claims.specs.Pages.{AllBytes, AllRight, Good, payloads, finds, hands_out, SomeRoom, Opens}
use Rattle.claims.specs.Untouched.{OthersKept}
use Rattle.claims.proofs.CutPage.{page-before, page-after}
use Rattle.claims.proofs.Elsewhere.{cut-elsewhere, history-elsewhere}
use Rattle.claims.proofs.HistoryLaws.{Holds, addition-holds, history-holds}

-- ---- a good page, read

all-some : (page : List ℕ) (cs : List Chunk) → AllRight page cs → All NotEmpty cs
all-some page [] r = tt
all-some page (c ∷ cs) r = (r.0.some, all-some page cs r.1)

all-sums : (page : List ℕ) (cs : List Chunk) → AllRight page cs → All (SumRight page) cs
all-sums page [] r = tt
all-sums page (c ∷ cs) r = (r.0.sum, all-sums page cs r.1)

pub good-found : (xs : List ℕ) (magic : ℕ) (page : PageID) (h o : ℕ) → flash_fine (length xs) ≡ true → has_page (length xs) page.0 ≡ true → Good magic page.0 h o (page_of page.0 xs)
    → found xs magic page h ≡ finds (payloads (page_of page.0 xs) h)
good-found xs magic page h o fine there good =
    let bytes = page_of page.0 xs in
    let cs = (walk_from bytes (page_header_size + h)).chunks in
    found-whole xs magic page h o (open_check-fine (length xs) h page fine good.length-fine there) good.header (all-some bytes cs good.chunks) (all-sums bytes cs good.chunks) good.ends

-- with any rooms
good-rooms : (xs : List ℕ) (magic : ℕ) (page : PageID) (h o : ℕ) → flash_fine (length xs) ≡ true → has_page (length xs) page.0 ≡ true → Good magic page.0 h o (page_of page.0 xs)
    → (buffers : ℕ → List ℕ) → SomeRoom buffers → joined (found_with buffers xs magic page h) ≡ hands_out (flatten (payloads (page_of page.0 xs) h))
good-rooms xs magic page h o fine there good buffers rooms =
    let bytes = page_of page.0 xs in
    any-buffers xs magic page h (all-some bytes (walk_from bytes (page_header_size + h)).chunks good.chunks) buffers (λ i. blank 0 max_chunk_size) rooms (λ i. rw length-blank (omega arith))
    ∙ ap joined (sym (found-with xs magic page h) ∙ good-found xs magic page h o fine there good)

-- ---- a good page, opened

good-opens : (xs : List ℕ) (magic : ℕ) (page : PageID) (h o : ℕ) → flash_fine (length xs) ≡ true → has_page (length xs) page.0 ≡ true → Good magic page.0 h o (page_of page.0 xs)
    → Opens xs magic page h (header_of (page_of page.0 xs) h)
good-opens xs magic page h o fine there good =
    let ends : (found_with (λ i. blank 0 max_chunk_size) xs magic page h).ends ≡ (Ok tt) =
    ap (λ (f : Found). f.ends) (sym (found-with xs magic page h) ∙ good-found xs magic page h o fine there good) in
    let opens : (r : PageReader) → (open_page r xs magic page h).answer ≡ (Ok tt) =
    λ r. open_page-answer r new_reader xs magic page h ∙ found_with-opened (λ i. blank 0 max_chunk_size) xs magic page h ends in
    record {
      done = opens;
      header = λ r buffer l.
          sym (open-filled xs magic page buffer r (rw l (opens r))) ∙ ap (header_of (page_of page.0 xs)) l;
    }

-- ---- a cut

module _ (e : ℕ) (unmarked : word (blank e 2) ≡ chunk_magic → ⊥) (xs : List ℕ) (page : PageID) (magic h o : ℕ) (w : PageWriter) (k : ℕ) (pieces : List (List ℕ))
    (fine : flash_fine (length xs) ≡ true) (there : has_page (length xs) page.0 ≡ true) (good : Good magic page.0 h o (page_of page.0 xs)) (bytes : AllBytes pieces)
    (some : 0 < length (new_payload e xs page h w k pieces)) where
  abbrev after : List ℕ
  after = added e xs page h w k pieces

  fine-after : flash_fine (length after) ≡ true
  fine-after = ap flash_fine (cut-elsewhere e xs page h w k pieces).long ∙ fine

  there-after : has_page (length after) page.0 ≡ true
  there-after = ap (λ (n : ℕ). has_page n page.0) (cut-elsewhere e xs page h w k pieces).long ∙ there

  -- before the last store: a new reader finds the old payloads, and nothing else
  pub cut-safe-before : k < store_count e xs page h w k pieces → found after magic page h ≡ finds (payloads (page_of page.0 xs) h)
  cut-safe-before cut =
      let r = page-before e unmarked xs page magic h o w k pieces fine there good bytes some cut in
      good-found after magic page h o fine-after there-after r.0 ∙ ap finds r.1

  -- once it is made: those and the new one
  pub cut-safe-after : store_count e xs page h w k pieces ≤ k
      → found after magic page h ≡ finds (payloads (page_of page.0 xs) h ++ (new_payload e xs page h w k pieces ∷ []))
  cut-safe-after all =
      let r = page-after e unmarked xs page magic h o w k pieces fine there good bytes some all in
      good-found after magic page h (next_offset o (length (new_payload e xs page h w k pieces))) fine-after there-after r.0 ∙ ap finds r.1

-- ---- what a new reader meets on a flash ys that was xs, where its page holds the old payloads and more

module _ (xs ys : List ℕ) (page : PageID) (magic h : ℕ) (more : List (List ℕ)) (fine : flash_fine (length xs) ≡ true) (there : has_page (length xs) page.0 ≡ true)
    (others : OthersKept page.0 xs ys) (holds : Holds magic page.0 h (page_of page.0 xs) (page_of page.0 ys) more) where
  fine-now : flash_fine (length ys) ≡ true
  fine-now = ap flash_fine others.long ∙ fine

  there-now : has_page (length ys) page.0 ≡ true
  there-now = ap (λ (n : ℕ). has_page n page.0) others.long ∙ there

  now-finds : found ys magic page h ≡ finds (payloads (page_of page.0 xs) h ++ more)
  now-finds = good-found ys magic page h holds.o fine-now there-now holds.good ∙ ap finds holds.are

  now-hands-out : (buffers : ℕ → List ℕ) → SomeRoom buffers → joined (found_with buffers ys magic page h) ≡ hands_out (flatten (payloads (page_of page.0 xs) h ++ more))
  now-hands-out buffers rooms =
      good-rooms ys magic page h holds.o fine-now there-now holds.good buffers rooms ∙ ap (λ (l : List (List ℕ)). hands_out (flatten l)) holds.are

  now-opens : Opens ys magic page h (header_of (page_of page.0 xs) h)
  now-opens = subst (λ (l : List ℕ). Opens ys magic page h l) holds.header (good-opens ys magic page h holds.o fine-now there-now holds.good)

-- ---- for the erase value of the build that we ship

-- on a good page of a flash in shape: open_append, writes of bytes and a commit, with k stores allowed in all
module _ (xs : List ℕ) (page : PageID) (magic h o : ℕ) (w : PageWriter) (k : ℕ) (pieces : List (List ℕ))
    (fine : flash_fine (length xs) ≡ true) (there : has_page (length xs) page.0 ≡ true) (good : Good magic page.0 h o (page_of page.0 xs)) (bytes : AllBytes pieces) where
  abbrev then : List ℕ
  then = added erase_value xs page h w k pieces

  abbrev new : List (List ℕ)
  new = added_payload erase_value xs page h w k pieces

  holds_then : Holds magic page.0 h (page_of page.0 xs) (page_of page.0 then) new
  holds_then = addition-holds erase_value mark-shown page magic h w xs k pieces o fine there good bytes

  -- CUT SAFE: a new reader finds exactly the old payloads; and behind them the new one, where bytes were taken and the last store was made
  pub cut-safe : found (added erase_value xs page h w k pieces) magic page h ≡ finds (payloads (page_of page.0 xs) h ++ added_payload erase_value xs page h w k pieces)
  cut-safe = now-finds xs then page magic h new fine there (cut-elsewhere erase_value xs page h w k pieces) holds_then

  -- with rooms of any sizes from one byte on it reads those bytes
  pub cut-safe-rooms : (buffers : ℕ → List ℕ) → SomeRoom buffers
      → joined (found_with buffers (added erase_value xs page h w k pieces) magic page h)
      ≡ hands_out (flatten (payloads (page_of page.0 xs) h ++ added_payload erase_value xs page h w k pieces))
  cut-safe-rooms = now-hands-out xs then page magic h new fine there (cut-elsewhere erase_value xs page h w k pieces) holds_then

  -- open is done and hands out the higher header that was there before
  pub cut-safe-header : Opens (added erase_value xs page h w k pieces) magic page h (header_of (page_of page.0 xs) h)
  cut-safe-header = now-opens xs then page magic h new fine there (cut-elsewhere erase_value xs page h w k pieces) holds_then

-- after any episodes on such a page
module _ (page : PageID) (magic h : ℕ) (ts : List Episode) (xs : List ℕ) (o : ℕ)
    (fine : flash_fine (length xs) ≡ true) (there : has_page (length xs) page.0 ≡ true) (good : Good magic page.0 h o (page_of page.0 xs)) (bytes : AllPieces ts) where
  abbrev last : List ℕ
  last = history erase_value xs page h ts

  abbrev kept : List (List ℕ)
  kept = kept_payloads erase_value xs page h ts

  holds-last : Holds magic page.0 h (page_of page.0 xs) (page_of page.0 last) kept
  holds-last = history-holds erase_value mark-shown page magic h ts xs o fine there good bytes

  -- CUT HISTORY: a new reader finds the old payloads and those of the chunks whose last store was made, in order
  pub cut-history : found (history erase_value xs page h ts) magic page h ≡ finds (payloads (page_of page.0 xs) h ++ kept_payloads erase_value xs page h ts)
  cut-history = now-finds xs last page magic h kept fine there (history-elsewhere erase_value page h ts xs) holds-last

  -- with any rooms of a byte or more it reads those bytes
  pub cut-history-rooms : (buffers : ℕ → List ℕ) → SomeRoom buffers
      → joined (found_with buffers (history erase_value xs page h ts) magic page h)
      ≡ hands_out (flatten (payloads (page_of page.0 xs) h ++ kept_payloads erase_value xs page h ts))
  cut-history-rooms = now-hands-out xs last page magic h kept fine there (history-elsewhere erase_value page h ts xs) holds-last

  -- open is done and hands out the higher header that was there before
  pub cut-history-header : Opens (history erase_value xs page h ts) magic page h (header_of (page_of page.0 xs) h)
  cut-history-header = now-opens xs last page magic h kept fine there (history-elsewhere erase_value page h ts xs) holds-last

-- What a cut leaves on the page, while one chunk is stored at the end of the others. Assumes nothing.
use Rattle.std.specs.Prelude.{Ok, Some, None}
use mathlib.Core.Path.{◌≡◌, refl, sym, ap, ◌∙◌}
use mathlib.Core.Bool.{true}
use mathlib.Core.List.{List, [], ◌∷◌, ◌++◌}
use mathlib.Core.Logic.{◌⊎◌, inl, inr, ⊎_elim}
use Prim.Native.Nat.{ℕ, ◌+◌, ◌-◌, ◌%◌, ◌≤◌, ◌<◌}
use native.Mathlib.Omega.{arith}
use lib.ListN.{length, take, drop, length-append, length-drop}
use lib.Seq.{take_all, take-take, take-append-le, take_at, drop-drop}
use Rattle.types.specs.Build.{page_size, max_chunk_size}
use Rattle.types.specs.Bytes.{Bytes, word}
use Rattle.types.proofs.TestLaws.{le-or-lt}
use Rattle.crc.specs.Published.{published}
use Rattle.crc.specs.Register.{preset, updated, finished}
use Rattle.crc.proofs.DividesLaws.{register-is-published}
use Rattle.crc.proofs.SumLaws.{published-fits}
use Rattle.flash.specs.Operations.{Op, store, made, applied}
use Rattle.slices.specs.Patch.{patch, blank}
use Rattle.flash.proofs.OperationLaws.{applied-append}
use Rattle.slices.proofs.PatchLaws.{length-patch, part-patch, take-patch-below, drop-patch-above}
use Rattle.page.specs.Chunks.{align_up, chunk_magic, chunk_header, next_offset, chunk_at, payload_at}
use Rattle.page.specs.Walks.{walk_from, all_erased}
use Rattle.page.proofs.ChunkLaws.{chunk-past, end_below}
use Rattle.page.proofs.ErasedLaws.{erased-blank, take-blank, drop-blank, chunk-blank}
use Rattle.page.proofs.LaidLaws.{walk-ended}
use Rattle.page.proofs.OntoLaws.{walk_kept, walk-added}
use Rattle.page.proofs.PutLaws.{length-chunk_header, chunk-put, payload-put}
use Rattle.writer.proofs.AddingLaws.{made-fit}
use Rattle.writer.proofs.ClosingLaws.{Stored, before-kept, behind-take}

swap : {A B : Type 0} → A ⊎ B → B ⊎ A
swap c = ⊎_elim (λ a. inr a) (λ b. inl b) c

-- ---- the page

-- a page whose chunks from s on end at o, and that reads as erased from there on
pub record Room (e : ℕ) (page : List ℕ) (s o : ℕ) : Type 0 where
  pub whole : length page ≡ page_size
  pub ends : (walk_from page s).ending ≡ Ok o
  pub clean : all_erased e (drop o page) ≡ true

module _ (e : ℕ) (unmarked : word (blank e 2) ≡ chunk_magic → ⊥) (page : List ℕ) (s o : ℕ) (room : Room e page s o) (payload : List ℕ) (bytes : Bytes payload) (ops : List Op)
    (even : o % 4 ≡ 0) (stored : Stored page o payload page ops) where
  fits : o + 8 + length payload ≤ page_size
  fits = stored.fits

  small : length payload ≤ max_chunk_size
  small = stored.small

  -- before the last store nothing has changed up to the place of the header
  front_kept : (k : ℕ) → k < length ops → take (o + 8) (applied 0 (take k ops) page) ≡ take (o + 8) page
  front_kept k h =
      let l : length ops ≡ length stored.front + 1 = ap length stored.last ∙ length-append stored.front _ in
      let t : take k ops ≡ take k stored.front = ap (take k) stored.last ∙ take-append-le k stored.front _ (omega arith) in
      ap (λ (x : List Op). take (o + 8) (applied 0 x page)) t ∙ before-kept (o + 8) (take k stored.front) page (behind-take (o + 8) k stored.front stored.behind)

  short-kept : (k : ℕ) → k < length ops → take o (applied 0 (take k ops) page) ≡ take o page
  short-kept k h =
      let q = applied 0 (take k ops) page in
      sym (take-take o (o + 8) q (omega arith)) ∙ ap (take o) (front_kept k h) ∙ take-take o (o + 8) page (omega arith)

  -- BEFORE THE LAST STORE: the walk finds what it found
  pub walk_before : (k : ℕ) → k < length ops → walk_from (applied 0 (take k ops) page) s ≡ walk_from page s
  walk_before k h =
      let q = applied 0 (take k ops) page in
      let same : take (o + 8) q ≡ take (o + 8) page = front_kept k h in
      walk_kept page q s o room.ends (short-kept k h) (end_below o (o + 8) page q (walk-ended page s o room.ends).none (omega arith) same)

  -- ---- after it

  abbrev laid : List ℕ
  laid = patch (o + 8) (payload ++ stored.padding) page

  abbrev full : List ℕ
  full = patch o (chunk_header (length payload) (published payload)) laid

  full_is : applied 0 ops page ≡ full
  full_is =
      let header = chunk_header (length payload) (finished (updated preset payload)) in
      let lh : length header ≡ 8 = length-chunk_header (length payload) (finished (updated preset payload)) in
      ap (λ (x : List Op). applied 0 x page) stored.last
      ∙ applied-append 0 stored.front (store o header ∷ []) page
      ∙ ap (λ (p : List ℕ). made 0 (store o header) p) stored.laid
      ∙ made-fit o header laid (omega arith)
      ∙ ap (λ (c : ℕ). patch o (chunk_header (length payload) c) laid) (register-is-published payload bytes)

  padded : o + 8 + length (payload ++ stored.padding) ≡ next_offset o (length payload)
  padded = let r : length (payload ++ stored.padding) ≡ align_up (length payload) = stored.round in omega arith

  within : next_offset o (length payload) ≤ page_size
  within = let f : o + 8 + length payload ≤ page_size = fits in omega arith

  payload-there : payload_at full o (length payload) ≡ payload
  payload-there =
      let n = length payload in
      let l : length (payload ++ stored.padding) ≡ n + length stored.padding = length-append payload stored.padding in
      let p : o + 8 + length (payload ++ stored.padding) ≤ length page = rw (padded, room.whole) within in
      payload-put laid o n (published payload) (rw (length-patch, room.whole) (omega arith)) n
      ∙ sym (take-take n (length (payload ++ stored.padding)) (drop (o + 8) laid) (omega arith))
      ∙ ap (take n) (part-patch (o + 8) (payload ++ stored.padding) page p)
      ∙ take_at payload stored.padding n refl

  chunk-there : chunk_at full o ≡ Ok (Some (record { len = length payload; crc = published payload; next = next_offset o (length payload) }))
  chunk-there = chunk-put laid o (length payload) (published payload) (rw (length-patch, room.whole) (omega arith)) small fits (rw (length-patch, room.whole) fits) (published-fits payload)

  -- behind the new chunk the page is as it was
  behind-kept : drop (next_offset o (length payload)) full ≡ drop (next_offset o (length payload)) page
  behind-kept =
      let n = next_offset o (length payload) in
      let lh : length (chunk_header (length payload) (published payload)) ≡ 8 = length-chunk_header (length payload) (published payload) in
      drop-patch-above n o (chunk_header (length payload) (published payload)) laid (omega arith)
      ∙ drop-patch-above n (o + 8) (payload ++ stored.padding) page (let p : o + 8 + length (payload ++ stored.padding) ≡ n = padded in omega arith)

  erased-behind : (n : ℕ) → o ≤ n → drop n page ≡ blank e (page_size - n)
  erased-behind n h =
      let d : drop o page ≡ blank e (length (drop o page)) = erased-blank e (drop o page) room.clean in
      let l : length (drop o page) ≡ page_size - o = length-drop o page ∙ ap (λ (m : ℕ). m - o) room.whole in
      let k : o + (n - o) ≡ n = omega arith in
      ap (λ (m : ℕ). drop m page) (sym k)
      ∙ sym (drop-drop (n - o) o page)
      ∙ ap (drop (n - o)) (d ∙ ap (blank e) l)
      ∙ drop-blank e (page_size - o) (n - o)
      ∙ ap (blank e) (let m : page_size - o - (n - o) ≡ page_size - n = omega arith in m)

  end-there : chunk_at full (next_offset o (length payload)) ≡ Ok None
  end-there =
      let n = next_offset o (length payload) in
      ⊎_elim
      (λ (past : page_size < n + 8). chunk-past full n past)
      (λ (in-page : n + 8 ≤ page_size).
      chunk-blank e full n unmarked
      (ap (take 2) (behind-kept ∙ erased-behind n (omega arith)) ∙ take-blank e (page_size - n) 2 (omega arith)))
      (swap (le-or-lt (n + 8) page_size))

  made_all : (k : ℕ) → length ops ≤ k → applied 0 (take k ops) page ≡ full
  made_all k h = ap (λ (x : List Op). applied 0 x page) (take_all k ops h) ∙ full_is

  full-short : take o full ≡ take o page
  full-short =
      take-patch-below o o (chunk_header (length payload) (published payload)) laid (omega arith)
      ∙ take-patch-below o (o + 8) (payload ++ stored.padding) page (omega arith)

  -- AFTER IT: one chunk more, with its payload and the right sum, and the page reads as erased behind it
  pub walk-after : (k : ℕ) → length ops ≤ k
      → walk_from (applied 0 (take k ops) page) s
      ≡ record { chunks = (walk_from page s).chunks ++ (record { offset = o; len = length payload; crc = published payload } ∷ []); ending = Ok (next_offset o (length payload)) }
  walk-after k h =
      let n = next_offset o (length payload) in
      ap (λ (p : List ℕ). walk_from p s) (made_all k h) ∙ walk-added page full s o (length payload) (published payload) n room.ends full-short chunk-there end-there

  pub payload-after : (k : ℕ) → length ops ≤ k → payload_at (applied 0 (take k ops) page) o (length payload) ≡ payload
  payload-after k h = ap (λ (p : List ℕ). payload_at p o (length payload)) (made_all k h) ∙ payload-there

  -- whatever the cut, what lies before the new chunk is as it was
  pub below-kept : (k : ℕ) → take o (applied 0 (take k ops) page) ≡ take o page
  below-kept k = ⊎_elim (λ (all : length ops ≤ k). ap (take o) (made_all k all) ∙ full-short) (λ (cut : k < length ops). short-kept k cut) (le-or-lt (length ops) k)

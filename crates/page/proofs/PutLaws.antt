-- A header that was put is found again, with the numbers that went into it. Assumes nothing.
use mathlib.Core.Path.{◌≡◌, refl, sym, ap, ap₂, ◌∙◌}
use mathlib.Core.Bool.{true}
use mathlib.Core.List.{List, [], ◌++◌, append_assoc, append-nil}
use Prim.Native.Nat.{ℕ, ◌+◌, ◌^◌, ◌≤◌, ◌<◌}
use native.Mathlib.Nat.{add-zero, zero-add}
use native.Mathlib.Omega.{arith}
use lib.Dec.{lit<}
use lib.ListN.{length, take, drop, length-append}
use lib.Seq.{drop-drop, take-length, take_at, drop_at}
use borrow.Author.Tests.{eq-eqb}
use Rattle.types.specs.Build.{page_size, page_header_size, chunk_header_size, max_chunk_size}
use Rattle.types.specs.Bytes.{word, bytes_of}
use Rattle.types.proofs.BytesLaws.{length-bytes_of, word-bytes_of}
use Rattle.crc.specs.Published.{published}
use Rattle.crc.proofs.SumLaws.{published-fits}
use Rattle.slices.specs.Fields.{field}
use Rattle.slices.specs.Patch.{patch}
use Rattle.slices.proofs.PatchLaws.{length-patch, part-patch, drop-patch-above, patch-join}
use Rattle.page.specs.Chunks.{chunk_magic, next_offset, chunk_header, chunk_at, payload_at, checked_at, found_chunk}
use Rattle.page.specs.Headers.{page_header, header_of, page_header_fine}
use Rattle.page.proofs.BelowLaws.{part-take}
use Rattle.page.proofs.ChunkLaws.{chunk_whole, sum-fine, checked-right}
use Rattle.page.proofs.HeaderLaws.{header-sum}

-- a part of what was put
pub part_in : (k j at : ℕ) (bytes xs : List ℕ) → at + length bytes ≤ length xs → j + k ≤ length bytes
    → take k (drop (at + j) (patch at bytes xs)) ≡ take k (drop j bytes)
part_in k j at bytes xs fits h =
    let put = patch at bytes xs in
    ap (take k) (sym (drop-drop j at put)) ∙ sym (part-take k j (length bytes) (drop at put) h) ∙ ap (λ (l : List ℕ). take k (drop j l)) (part-patch at bytes xs fits)

pub field_in : (k j at : ℕ) (bytes xs : List ℕ) → at + length bytes ≤ length xs → j + k ≤ length bytes → field k (patch at bytes xs) (at + j) ≡ field k bytes j
field_in k j at bytes xs fits h = ap word (part_in k j at bytes xs fits h)

-- ---- parts one behind the other, whose lengths are known

length-join : (a b : List ℕ) (m n : ℕ) → length a ≡ m → length b ≡ n → length (a ++ b) ≡ m + n
length-join a b m n p q = length-append a b ∙ ap₂ (λ (x y : ℕ). x + y) p q

-- a number between two parts
field-between : (k n i : ℕ) (a b : List ℕ) → length a ≡ i → n < 256 ^ k → field k (a ++ (bytes_of k n ++ b)) i ≡ n
field-between k n i a b l h =
    ap word (ap (take k) (drop_at a (bytes_of k n ++ b) i l) ∙ take_at (bytes_of k n) b k (length-bytes_of k n)) ∙ word-bytes_of k n h

-- ---- a chunk

pub length-chunk_header : (len crc : ℕ) → length (chunk_header len crc) ≡ chunk_header_size
unfolding chunk_header
length-chunk_header len crc =
    length-join (bytes_of 2 chunk_magic) (bytes_of 2 len ++ bytes_of 4 crc) 2 6 (length-bytes_of 2 chunk_magic)
    (length-join (bytes_of 2 len) (bytes_of 4 crc) 2 4 (length-bytes_of 2 len) (length-bytes_of 4 crc))

module _ (page : List ℕ) (o len crc : ℕ) (room : o + chunk_header_size ≤ length page) where
  in-header : (k j : ℕ) → j + k ≤ 8 → field k (patch o (chunk_header len crc) page) (o + j) ≡ field k (chunk_header len crc) j
  in-header k j h = field_in k j o (chunk_header len crc) page (rw length-chunk_header room) (rw length-chunk_header h)

  put-mark : field 2 (patch o (chunk_header len crc) page) o ≡ chunk_magic
  unfolding chunk_header
  put-mark =
      ap (field 2 (patch o (chunk_header len crc) page)) (sym (add-zero o))
      ∙ in-header 2 0 (omega arith)
      ∙ field-between 2 chunk_magic 0 [] (bytes_of 2 len ++ bytes_of 4 crc) refl (lit< tt)

  put-len : len < 65536 → field 2 (patch o (chunk_header len crc) page) (o + 2) ≡ len
  unfolding chunk_header
  put-len h = in-header 2 2 (omega arith) ∙ field-between 2 len 2 (bytes_of 2 chunk_magic) (bytes_of 4 crc) (length-bytes_of 2 chunk_magic) h

  put-crc : crc < 2 ^ 32 → field 4 (patch o (chunk_header len crc) page) (o + 4) ≡ crc
  unfolding chunk_header
  put-crc h =
      let front = bytes_of 2 chunk_magic ++ bytes_of 2 len in
      let long : length front ≡ 4 = length-join (bytes_of 2 chunk_magic) (bytes_of 2 len) 2 2 (length-bytes_of 2 chunk_magic) (length-bytes_of 2 len) in
      in-header 4 4 (omega arith)
      ∙ ap (λ (b : List ℕ). field 4 b 4) (sym (append_assoc (bytes_of 2 chunk_magic) (bytes_of 2 len) (bytes_of 4 crc)) ∙ ap (λ (l : List ℕ). front ++ l) (sym (append-nil (bytes_of 4 crc))))
      ∙ field-between 4 crc 4 front [] long h

  -- the header of a chunk that fits: the walk finds it
  pub chunk-put : len ≤ max_chunk_size → o + chunk_header_size + len ≤ page_size → o + chunk_header_size + len ≤ length page → crc < 2 ^ 32
      → chunk_at (patch o (chunk_header len crc) page) o ≡ found_chunk len crc (next_offset o len)
  chunk-put small fits whole sum =
      let put = patch o (chunk_header len crc) page in
      let l : field 2 put (o + 2) ≡ len = put-len (omega arith) in
      chunk_whole put o (omega arith) (rw length-patch room) put-mark (rw l small) (rw l fits) (rw (l, length-patch) whole) ∙ rw (l, put-crc sum)

  -- the payload behind it stays
  pub payload-put : (n : ℕ) → payload_at (patch o (chunk_header len crc) page) o n ≡ payload_at page o n
  payload-put n = ap (take n) (drop-patch-above (o + 8) o (chunk_header len crc) page (rw length-chunk_header (omega arith)))

-- a reader takes a chunk whose header has the sum of what stands behind it
pub checked-put : (page : List ℕ) (o len : ℕ) → o + chunk_header_size + len ≤ length page → len ≤ max_chunk_size → o + chunk_header_size + len ≤ page_size
    → checked_at (patch o (chunk_header len (published (payload_at page o len))) page) o ≡ found_chunk len (published (payload_at page o len)) (next_offset o len)
checked-put page o len there small fits =
    let sum = published (payload_at page o len) in
    let room : o + 8 ≤ length page = omega arith in
    let put = patch o (chunk_header len sum) page in
    checked-right put o len sum (next_offset o len)
    (chunk-put page o len sum room small fits there (published-fits (payload_at page o len)))
    (sum-fine put o len sum (rw length-patch there) (ap published (payload-put page o len sum room len)))

-- ---- the page header

pub length-page_header : (magic p : ℕ) (header : List ℕ) → length (page_header magic p header) ≡ page_header_size + length header
unfolding page_header
length-page_header magic p header =
    let sum = bytes_of 4 (published header) in
    let long : length (bytes_of 4 magic ++ (bytes_of 4 p ++ (sum ++ header))) ≡ 4 + (4 + (4 + length header)) =
    length-join (bytes_of 4 magic) (bytes_of 4 p ++ (sum ++ header)) 4 (4 + (4 + length header)) (length-bytes_of 4 magic)
    (length-join (bytes_of 4 p) (sum ++ header) 4 (4 + length header) (length-bytes_of 4 p)
    (length-join sum header 4 (length header) (length-bytes_of 4 (published header)) refl)) in
    omega arith

-- its parts put one behind the other
pub page_header-laid : (magic p : ℕ) (header xs : List ℕ)
    → patch 12 header (patch 8 (bytes_of 4 (published header)) (patch 4 (bytes_of 4 p) (patch 0 (bytes_of 4 magic) xs))) ≡ patch 0 (page_header magic p header) xs
unfolding page_header
page_header-laid magic p header xs =
    laid (bytes_of 4 magic) (bytes_of 4 p) (bytes_of 4 (published header)) header xs (length-bytes_of 4 magic) (length-bytes_of 4 p) (length-bytes_of 4 (published header))
  where
    laid : (a b c d xs : List ℕ) → length a ≡ 4 → length b ≡ 4 → length c ≡ 4
        → patch 12 d (patch 8 c (patch 4 b (patch 0 a xs))) ≡ patch 0 (a ++ (b ++ (c ++ d))) xs
    laid a b c d xs p q r =
        (rw r at (patch-join 8 c d (patch 4 b (patch 0 a xs)))) ∙ (rw q at (patch-join 4 b (c ++ d) (patch 0 a xs))) ∙ (rw p at (patch-join 0 a (b ++ (c ++ d)) xs))

module _ (magic p : ℕ) (header page : List ℕ) (room : page_header_size + length header ≤ length page) where
  in-page-header : (k j : ℕ) → j + k ≤ 12 + length header → take k (drop j (patch 0 (page_header magic p header) page)) ≡ take k (drop j (page_header magic p header))
  in-page-header k j h =
      ap (λ (n : ℕ). take k (drop n (patch 0 (page_header magic p header) page))) (sym (zero-add j))
      ∙ part_in k j 0 (page_header magic p header) page (rw length-page_header (omega arith)) (rw length-page_header h)

  -- the higher header is read again
  pub header_of-put : header_of (patch 0 (page_header magic p header) page) (length header) ≡ header
  unfolding page_header
  header_of-put =
      let front = bytes_of 4 p ++ bytes_of 4 (published header) in
      let long : length (bytes_of 4 magic ++ front) ≡ 12 =
      length-join (bytes_of 4 magic) front 4 8 (length-bytes_of 4 magic)
      (length-join (bytes_of 4 p) (bytes_of 4 (published header)) 4 4 (length-bytes_of 4 p) (length-bytes_of 4 (published header))) in
      let parted : (bytes_of 4 magic ++ front) ++ header ≡ bytes_of 4 magic ++ (bytes_of 4 p ++ (bytes_of 4 (published header) ++ header)) =
      append_assoc (bytes_of 4 magic) front header ∙ ap (λ (l : List ℕ). bytes_of 4 magic ++ l) (append_assoc (bytes_of 4 p) (bytes_of 4 (published header)) header) in
      in-page-header (length header) 12 (omega arith)
      ∙ ap (λ (l : List ℕ). take (length header) (drop 12 l)) (sym parted)
      ∙ ap (take (length header)) (drop_at (bytes_of 4 magic ++ front) header 12 long)
      ∙ take-length header

  -- the page header is found fine
  pub header-put : magic < 2 ^ 32 → p < 2 ^ 32 → page_header_fine (patch 0 (page_header magic p header) page) magic p (length header) ≡ true
  unfolding page_header
  header-put m n =
      let put = patch 0 (page_header magic p header) page in
      let sum = bytes_of 4 (published header) in
      let front = bytes_of 4 magic ++ bytes_of 4 p in
      let long : length front ≡ 8 = length-join (bytes_of 4 magic) (bytes_of 4 p) 4 4 (length-bytes_of 4 magic) (length-bytes_of 4 p) in
      let s : published (header_of put (length header)) ≡ published header = ap published header_of-put in
      header-sum put magic p (length header) (rw length-patch room)
      (ap word (in-page-header 4 0 (omega arith)) ∙ field-between 4 magic 0 [] (bytes_of 4 p ++ (sum ++ header)) refl m)
      (ap word (in-page-header 4 4 (omega arith)) ∙ field-between 4 p 4 (bytes_of 4 magic) (sum ++ header) (length-bytes_of 4 magic) n)
      ∙ eq-eqb (field 4 put 8) (published (header_of put (length header)))
      (ap word (in-page-header 4 8 (omega arith))
      ∙ ap (λ (l : List ℕ). field 4 l 8) (sym (append_assoc (bytes_of 4 magic) (bytes_of 4 p) (sum ++ header)))
      ∙ field-between 4 (published header) 8 front header long (published-fits header)
      ∙ sym s)

-- Every operation that a call owes lies on the flash, where the checks let the call through. Assumes nothing.
use mathlib.Core.Path.{◌≡◌, refl, ◌∙◌}
use mathlib.Core.Bool.{Bool, true, false, cond}
use mathlib.Core.List.{List, [], ◌∷◌, ◌++◌}
use Prim.Native.Nat.{ℕ, ◌+◌, ◌-◌, ◌*◌, ◌/◌, ◌%◌, ◌≤◌, min}
use native.Mathlib.Nat.{le_refl}
use native.Mathlib.Omega.{arith}
use lib.Dec.{eqb}
use lib.ListN.{length, take}
use borrow.Author.Tests.{le-leb}
use Rattle.types.specs.Build.{page_size, align, max_header_size, chunk_header_size, max_chunk_size}
use Rattle.crc.specs.Register.{finished}
use Rattle.flash.specs.Geometry.{has_page}
use Rattle.flash.specs.Operations.{Op, erase, store, op_if, lies_on, all_lie_on}
use Rattle.flash.proofs.LiesOnLaws.{lies-both, lies-append}
use Rattle.page.specs.Chunks.{chunk_header, next_offset}
use Rattle.page.specs.Headers.{page_header}
use Rattle.page.proofs.PutLaws.{length-chunk_header, length-page_header}
use Rattle.writer.specs.Commits.{group_at, erase_ops, rest_ops, seal_op, chunk_ops}
use Rattle.writer.specs.Headings.{header_ops}
use Rattle.writer.specs.Writes.{takes, grown, is_full, close_ops, payload_ops, taking_ops, taken_of}
use Rattle.writer.specs.declared.page_writer.PageWriter.{PageWriter}
use Rattle.writer.proofs.CheckLaws.{WriterChecked}
use Rattle.writer.proofs.PlaceLaws.{length-buffer_of, payload-rising, rest-rising}
use Rattle.writer.proofs.RangeLaws.{taken-room, taken-some}
use Rattle.writer.proofs.StoreLaws.{Rising, rising_le}

-- ---- on a page that is there

store-lies : (n p at : ℕ) (bytes : List ℕ) → has_page n p ≡ true → at + length bytes ≤ page_size → lies_on n p (store at bytes) ≡ true
store-lies n p at bytes there fits = rw (there, le-leb (at + length bytes) page_size fits)

-- stores one behind the other, up to an end in the page
rising-lies : (n p a b : ℕ) (ops : List Op) → has_page n p ≡ true → b ≤ page_size → Rising a b ops → all_lie_on n p ops ≡ true
rising-lies n p a b [] there end r = refl
rising-lies n p a b (erase e ∷ ops) there end r = absurd r
rising-lies n p a b (store at bytes ∷ ops) there end r =
    let within = rising_le (at + length bytes) b ops r.1 in
    rw (store-lies n p at bytes there (omega arith), rising-lies n p (at + length bytes) b ops there end r.1)

one_lies : (n p at : ℕ) (bytes : List ℕ) → has_page n p ≡ true → at + length bytes ≤ page_size → all_lie_on n p (store at bytes ∷ []) ≡ true
one_lies n p at bytes there fits =
    rising-lies n p at (at + length bytes) (store at bytes ∷ []) there fits (le_refl at, le_refl (at + length bytes))

erase-lies : (n p e : ℕ) (armed : Bool) → has_page n p ≡ true → all_lie_on n p (op_if armed (erase e)) ≡ true
erase-lies n p e true there = rw there
erase-lies n p e false there = refl

-- ---- the operations of a chunk that fits into the page

chunk_lies : (e n : ℕ) (w : PageWriter) → has_page n w.page.0 ≡ true → length w.buf ≡ align → w.offset % align ≡ 0
    → w.offset + chunk_header_size + w.pending ≤ page_size → all_lie_on n w.page.0 (chunk_ops e w) ≡ true
unfolding chunk_ops
chunk_lies e n w there four even fits =
    let p = w.page.0 in
    let header = chunk_header w.pending (finished w.crc) in
    let eight : length header ≡ 8 = length-chunk_header w.pending (finished w.crc) in
    let end = group-end w.offset w.pending fits in
    lies-append n p (erase_ops e w ++ rest_ops w) (seal_op w ∷ [])
    (lies-append n p (erase_ops e w) (rest_ops w) (erase-lies n p e w.armed there)
    (rising-lies n p (group_at w) (next_offset w.offset w.pending) (rest_ops w) there end (rest-rising w four even)))
    (one_lies n p w.offset header there (rw eight (omega arith)))
  where
    group-end : (o p : ℕ) → o + 8 + p ≤ page_size → (o + 8 + p + 3) / 4 * 4 ≤ page_size
    group-end o p fits = omega arith

taking-lies : (e n : ℕ) (w : PageWriter) (bytes : List ℕ) → has_page n w.page.0 ≡ true → length w.buf ≡ align → w.offset % align ≡ 0
    → w.offset + chunk_header_size + (w.pending + length bytes) ≤ page_size → all_lie_on n w.page.0 (taking_ops e w bytes) ≡ true
unfolding taking_ops
taking-lies e n w bytes there four even fits =
    let p = w.page.0 in
    let end = group-end w.offset (w.pending + length bytes) fits in
    lies-append n p (erase_ops e w ++ payload_ops w bytes) (close_ops e (grown w bytes))
    (lies-append n p (erase_ops e w) (payload_ops w bytes) (erase-lies n p e w.armed there)
    (rising-lies n p (group_at w) (group_at (grown w bytes)) (payload_ops w bytes) there end (payload-rising w bytes four)))
    (close (is_full (grown w bytes)))
  where
    group-end : (o p : ℕ) → o + 8 + p ≤ page_size → o + 8 + (p - p % 4) ≤ page_size
    group-end o p fits = omega arith

    close : (full : Bool) → all_lie_on n w.page.0 (cond full (chunk_ops e (grown w bytes)) []) ≡ true
    close true = chunk_lies e n (grown w bytes) there (length-buffer_of w bytes ∙ four) even fits
    close false = refl

-- those that finish the chunk lie there too, on a flash that is as long
pub closing-lies : (e m n : ℕ) (w next : PageWriter) (bytes : List ℕ) → all_lie_on n w.page.0 (taking_ops e w bytes) ≡ true
    → next ≡ grown w bytes → m ≡ n → all_lie_on m next.page.0 (cond (eqb next.pending max_chunk_size) (chunk_ops e next) []) ≡ true
unfolding taking_ops
closing-lies e m n w next bytes lie grows long =
    rw (long, grows) (lies-both n w.page.0 (erase_ops e w ++ payload_ops w bytes) (close_ops e (grown w bytes)) lie).1

-- ---- the calls, where the checks have passed

-- a chunk with some bytes in range ends within the page
pub in-page : (o p : ℕ) → p ≤ min max_chunk_size (page_size - 8 - o) → (p ≡ 0 → ⊥) → o + 8 + p ≤ page_size
in-page o p room some = omega arith

pub commit-lies : (e n : ℕ) (w : PageWriter) → WriterChecked n w → length w.buf ≡ align → (w.pending ≡ 0 → ⊥)
    → all_lie_on n w.page.0 (chunk_ops e w) ≡ true
commit-lies e n w checked four some =
    let s = checked.range in
    chunk_lies e n w checked.flash.there four s.even (in-page w.offset w.pending s.room some)

pub write-lies : (e m n : ℕ) (w : PageWriter) (bytes : List ℕ) → WriterChecked m w → length w.buf ≡ align → n ≡ takes (length bytes) w
    → (n ≡ 0 → ⊥) → all_lie_on m w.page.0 (taking_ops e w (take n bytes)) ≡ true
write-lies e m n w bytes checked four t some =
    let taken : takes (length bytes) w ≡ 0 → ⊥ = λ z. some (t ∙ z) in
    let fits = in-page w.offset (w.pending + length (taken_of w bytes)) (taken-room w bytes taken) (taken-some w bytes taken) in
    rw t (taking-lies e m w (taken_of w bytes) checked.flash.there four checked.range.even fits)

pub header-lies : (e n : ℕ) (w : PageWriter) (magic : ℕ) (header : List ℕ) → WriterChecked n w → length header ≤ max_header_size
    → all_lie_on n w.page.0 (header_ops e w magic header) ≡ true
unfolding header_ops
header-lies e n w magic header checked short =
    let p = w.page.0 in
    let long : length (page_header magic p header) ≡ 12 + length header = length-page_header magic p header in
    lies-append n p (erase_ops e w) (store 0 (page_header magic p header) ∷ []) (erase-lies n p e w.armed checked.flash.there)
    (one_lies n p 0 (page_header magic p header) checked.flash.there (rw long (omega arith)))

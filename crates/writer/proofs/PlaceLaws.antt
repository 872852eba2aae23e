-- Where a call's stores lie, and how many there are: the payload's within the page, behind the chunk's header and in address order,
-- then the chunk's header. Assumes nothing.
use mathlib.Core.Path.{◌≡◌, refl, ap, ◌∙◌}
use mathlib.Core.Bool.{Bool, true, false, cond, not}
use mathlib.Core.List.{List, [], ◌∷◌, ◌++◌}
use mathlib.Core.Logic.{⊎_elim}
use Prim.Native.Nat.{ℕ, ◌+◌, ◌-◌, ◌*◌, ◌/◌, ◌%◌, ◌≤◌, ◌<◌, min}
use native.Mathlib.Nat.{le_refl}
use native.Mathlib.Omega.{arith}
use lib.Dec.{eqb}
use lib.ListN.{length, take, drop, length-append, length-take, length-drop}
use borrow.Author.Tests.{eq-eqb, ne_eqb, le-leb, lt-leb, eqb-true, eqb-false, not-true}
use Rattle.types.specs.Build.{align, max_chunk_size}
use Rattle.types.proofs.TestLaws.{decided, eq-or-ne, le-or-lt}
use Rattle.flash.specs.Operations.{Op, erase, store, op_if}
use Rattle.slices.proofs.PatchLaws.{length_over, length-patch}
use Rattle.page.specs.Chunks.{next_offset}
use Rattle.writer.specs.Commits.{in_group, group_at, last_group, rest_ops, seal_op, chunk_ops, commit_ops}
use Rattle.writer.specs.Headings.{header_ops}
use Rattle.writer.specs.Writes.{takes, lacking, to_group, completes, to_whole, whole_at, group_of, whole_of, buffer_of, grown, is_full, close_ops, payload_ops, taking_ops, taken_of, write_ops}
use Rattle.writer.specs.declared.page_writer.PageWriter.{PageWriter}
use Rattle.writer.proofs.CommitLaws.{last-group}
use Rattle.writer.proofs.StoreLaws.{Rising, rising-if, rising-from}

-- ---- the group buffer keeps its length

pub length-group_of : (w : PageWriter) (bytes : List ℕ) → length (group_of w bytes) ≡ length w.buf
unfolding group_of
length-group_of w bytes = length-patch (in_group w) (take (to_group w (length bytes)) bytes) w.buf

pub length-buffer_of : (w : PageWriter) (bytes : List ℕ) → length (buffer_of w bytes) ≡ length w.buf
unfolding buffer_of
length-buffer_of w bytes = length_over (drop (to_group w (length bytes) + to_whole w (length bytes)) bytes) (group_of w bytes) ∙ length-group_of w bytes

-- ---- the payload's stores

-- where the bytes complete the group
pub group-done : (p n : ℕ) → ((p + 3) / 4 * 4 - p ≡ 0 → ⊥) → (p + 3) / 4 * 4 - p ≤ n → p - p % 4 + 4 ≡ p + min ((p + 3) / 4 * 4 - p) n
group-done p n f g = omega arith

-- where the group lacks none
pub group-none : (p n : ℕ) → (p + 3) / 4 * 4 - p ≡ 0 → p - p % 4 ≡ p + min ((p + 3) / 4 * 4 - p) n
group-none p n f = omega arith

-- the last whole group's end
pub whole-end : (p n f : ℕ) → f ≤ n → (p + f) % 4 ≡ 0 → p + f + (n - f) / 4 * 4 ≡ p + n - (p + n) % 4
whole-end p n f h g = omega arith

-- too few bytes for the group
few_bytes : (p n : ℕ) → n < (p + 3) / 4 * 4 - p → (n - min ((p + 3) / 4 * 4 - p) n) / 4 * 4 ≡ 0
few_bytes p n h = let z : n - min ((p + 3) / 4 * 4 - p) n ≡ 0 = omega arith in rw z

length-whole_of : (w : PageWriter) (bytes : List ℕ) → length (whole_of w bytes) ≡ to_whole w (length bytes)
length-whole_of w bytes = rw (length-take, length-drop) (least (to_group w (length bytes)) (length bytes))
  where
    least : (f n : ℕ) → min ((n - f) / 4 * 4) (n - f) ≡ (n - f) / 4 * 4
    least f n = omega arith

-- the whole groups, up to the group that is not finished then
abbrev whole_ops : PageWriter → List ℕ → List Op
whole_ops w bytes = op_if (not (eqb (to_whole w (length bytes)) 0)) (store (whole_at w (length bytes)) (whole_of w bytes))

whole-rising : (w : PageWriter) (bytes : List ℕ) → (w.pending + to_group w (length bytes)) % align ≡ 0
    → Rising (whole_at w (length bytes)) (group_at (grown w bytes)) (whole_ops w bytes)
whole-rising w bytes even =
    let l : length (whole_of w bytes) ≡ to_whole w (length bytes) = length-whole_of w bytes in
    let k = ends w.offset w.pending (length bytes) (to_group w (length bytes)) (omega arith) even in
    let at = whole_at w (length bytes) in
    rising-if at (group_at (grown w bytes)) at (whole_of w bytes) (not (eqb (to_whole w (length bytes)) 0)) (λ q. (le_refl at, rw l k.1)) (λ q. k.0)
  where
    ends : (o p n f : ℕ) → f ≤ n → (p + f) % 4 ≡ 0
        → (o + 8 + (p + f) ≤ o + 8 + (p + n - (p + n) % 4)) × (o + 8 + (p + f) + (n - f) / 4 * 4 ≤ o + 8 + (p + n - (p + n) % 4))
    ends o p n f h g = let e = whole-end p n f h g in (omega arith, omega arith)

pub payload-rising : (w : PageWriter) (bytes : List ℕ) → length w.buf ≡ align → Rising (group_at w) (group_at (grown w bytes)) (payload_ops w bytes)
unfolding payload_ops
payload-rising w bytes four = ⊎_elim none (λ some. ⊎_elim (done some) (few some) (le-or-lt (lacking w) (length bytes))) (eq-or-ne (lacking w) 0)
  where
    behind : (a : ℕ) (s : ℕ) → a ≡ w.pending + to_group w (length bytes) → a % 4 ≡ 0 → s ≤ w.offset + 8 + a → Rising s (group_at (grown w bytes)) (whole_ops w bytes)
    behind a s k even low =
        rising-from s (whole_at w (length bytes)) (group_at (grown w bytes)) (whole_ops w bytes) (rw (← k) low) (whole-rising w bytes (rw (← k) even))

    none : lacking w ≡ 0 → Rising (group_at w) (group_at (grown w bytes)) (payload_ops w bytes)
    none z =
        rw (eq-eqb (lacking w) 0 z)
        (behind (w.pending - w.pending % 4) (group_at w) (group-none w.pending (length bytes) z) (omega arith) (omega arith))

    done : (lacking w ≡ 0 → ⊥) → lacking w ≤ length bytes → Rising (group_at w) (group_at (grown w bytes)) (payload_ops w bytes)
    done some h =
        let l : length (group_of w bytes) ≡ 4 = length-group_of w bytes ∙ four in
        rw (ne_eqb (lacking w) 0 some, le-leb (lacking w) (length bytes) h) (
          le_refl (group_at w),
          behind (w.pending - w.pending % 4 + 4) (group_at w + length (group_of w bytes)) (group-done w.pending (length bytes) some h) (omega arith) (rw l (omega arith)),
        )

    few : (lacking w ≡ 0 → ⊥) → length bytes < lacking w → Rising (group_at w) (group_at (grown w bytes)) (payload_ops w bytes)
    few some h =
        rw (ne_eqb (lacking w) 0 some, lt-leb (lacking w) (length bytes) h, eq-eqb (to_whole w (length bytes)) 0 (few_bytes w.pending (length bytes) h))
        (omega arith)

-- ---- the stores that finish a chunk

pub length-last_group : (w : PageWriter) → length (last_group w) ≡ length w.buf
length-last_group w = ap length (last-group w)

-- the group that is not finished, up to the next chunk
pub rest-rising : (w : PageWriter) → length w.buf ≡ align → w.offset % align ≡ 0 → Rising (group_at w) (next_offset w.offset w.pending) (rest_ops w)
rest-rising w four even =
    let l : length (last_group w) ≡ 4 = length-last_group w ∙ four in
    rising-if (group_at w) (next_offset w.offset w.pending) (group_at w) (last_group w) (not (eqb (in_group w) 0))
    (λ q. (le_refl (group_at w), rw l (ends w.offset w.pending even (eqb-false (in_group w) 0 (not-true (eqb (in_group w) 0) q)))))
    (λ q. starts w.offset w.pending even)
  where
    ends : (o p : ℕ) → o % 4 ≡ 0 → (p % 4 ≡ 0 → ⊥) → o + 8 + (p - p % 4) + 4 ≤ (o + 8 + p + 3) / 4 * 4
    ends o p e n = omega arith

    starts : (o p : ℕ) → o % 4 ≡ 0 → o + 8 + (p - p % 4) ≤ (o + 8 + p + 3) / 4 * 4
    starts o p e = omega arith

-- a full chunk has no group that is not finished
pub full-rest : (w : PageWriter) → w.pending ≡ max_chunk_size → rest_ops w ≡ []
full-rest w f = let z : w.pending % 4 ≡ 0 = rw f in rw (eq-eqb (w.pending % 4) 0 z)

-- ---- without an erase

pub chunk-unarmed : (e : ℕ) (w : PageWriter) → w.armed ≡ false → chunk_ops e w ≡ rest_ops w ++ (seal_op w ∷ [])
unfolding chunk_ops
chunk-unarmed e w a = ap (λ (t : Bool). op_if t (erase e) ++ rest_ops w ++ (seal_op w ∷ [])) a

pub taking-unarmed : (e : ℕ) (w : PageWriter) (bytes : List ℕ) → w.armed ≡ false → taking_ops e w bytes ≡ payload_ops w bytes ++ close_ops e (grown w bytes)
unfolding taking_ops
taking-unarmed e w bytes a = ap (λ (t : Bool). op_if t (erase e) ++ payload_ops w bytes ++ close_ops e (grown w bytes)) a

pub full-ops : (e : ℕ) (w : PageWriter) → w.armed ≡ false → w.pending ≡ max_chunk_size → chunk_ops e w ≡ seal_op w ∷ []
full-ops e w a f = chunk-unarmed e w a ∙ ap (λ (r : List Op). r ++ (seal_op w ∷ [])) (full-rest w f)

-- ---- how many

if-count : (t : Bool) (op : Op) → length (op_if t op) ≤ 1
if-count true op = omega arith
if-count false op = omega arith

chunk_count : (e : ℕ) (w : PageWriter) → length (chunk_ops e w) ≤ 3
unfolding chunk_ops
chunk_count e w =
    let a = if-count w.armed (erase e) in
    let b = if-count (not (eqb (in_group w) 0)) (store (group_at w) (last_group w)) in
    simp length-append (omega arith)

-- commit: the erase, the group, the header
pub commit-count : (e : ℕ) (w : PageWriter) → length (commit_ops e w) ≤ 3
commit-count e w = by (eqb w.pending 0)
  where
    by : (t : Bool) → length (cond t [] (chunk_ops e w)) ≤ 3
    by true = omega arith
    by false = chunk_count e w

close-count : (e : ℕ) (w : PageWriter) → w.armed ≡ false → length (close_ops e w) ≤ 1
close-count e w a =
    ⊎_elim
    (λ (f : is_full w ≡ true). rw (f, full-ops e w a (eqb-true w.pending max_chunk_size f)) (omega arith))
    (λ (f : is_full w ≡ false). rw f (omega arith))
    (decided (is_full w))

taking-count : (e : ℕ) (w : PageWriter) (bytes : List ℕ) → length (taking_ops e w bytes) ≤ 4
unfolding taking_ops payload_ops
taking-count e w bytes =
    let a = if-count w.armed (erase e) in
    let b = if-count (completes w (length bytes)) (store (group_at w) (group_of w bytes)) in
    let c = if-count (not (eqb (to_whole w (length bytes)) 0)) (store (whole_at w (length bytes)) (whole_of w bytes)) in
    let d = close-count e (grown w bytes) refl in
    simp length-append (omega arith)

-- write: the erase, the group, the whole groups, the header
pub write-count : (e : ℕ) (w : PageWriter) (bytes : List ℕ) → length (write_ops e w bytes) ≤ 4
write-count e w bytes = by (eqb (takes (length bytes) w) 0)
  where
    by : (t : Bool) → length (cond t [] (taking_ops e w (taken_of w bytes))) ≤ 4
    by true = omega arith
    by false = taking-count e w (taken_of w bytes)

-- write_header: the erase, the header
pub header-count : (e : ℕ) (w : PageWriter) (magic : ℕ) (header : List ℕ) → length (header_ops e w magic header) ≤ 2
unfolding header_ops
header-count e w magic header = let a = if-count w.armed (erase e) in simp length-append (omega arith)

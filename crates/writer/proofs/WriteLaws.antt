-- The operations of a write, run one after the other. Assumes nothing.
use Rattle.std.specs.Prelude.{Ok}
use Rattle.types.specs.Checks.{Verdict}
use mathlib.Core.Path.{◌≡◌, sym, ap, ◌∙◌}
use mathlib.Core.Bool.{true, cond, not, ◌&&◌}
use mathlib.Core.List.{List, [], ◌++◌, append_assoc}
use Prim.Native.Nat.{ℕ, ◌+◌, ◌-◌, ◌≤◌, min}
use native.Mathlib.Omega.{arith}
use lib.Dec.{eqb, leb}
use lib.ListN.{length, take, drop, length-take}
use borrow.Author.Tests.{ne_eqb}
use Rattle.types.specs.Build.{page_size, max_chunk_size}
use Rattle.flash.specs.Geometry.{page_start}
use Rattle.flash.specs.Operations.{erase, store, op_if, all_lie_on}
use Rattle.flash.specs.declared.ops.Spent.{Spent}
use Rattle.flash.proofs.LiesOnLaws.{RanOn, lies-both, on-ran, ran-next}
use Rattle.flash.proofs.OperationLaws.{Ran, ran_append}
use Rattle.writer.specs.Commits.{payload_from, group_at, chunk_ops}
use Rattle.writer.specs.Duties.{Duty, write_duty, hands_back, leaves}
use Rattle.writer.specs.Outcomes.{ended_with, wrote}
use Rattle.writer.specs.Checks.{writer_check}
use Rattle.writer.specs.Writes.{takes, lacking, to_group, completes, to_whole, whole_at, group_of, whole_of, grown, close_ops, closed, payload_ops, taking_ops}
use Rattle.writer.specs.States.{Small}
use Rattle.writer.specs.declared.answers.Ended.{Ended}
use Rattle.writer.specs.declared.page_writer.PageWriter.{PageWriter}
use Rattle.writer.proofs.CheckLaws.{checked_small}
use Rattle.writer.proofs.OutcomeLaws.{ends-ran, wrote-ended}

-- the runs of the erase, the group, the whole groups and the chunk's end; v₀ to v₄ is the flash before, between and after them
pub taking-ran : (e left lack first many : ℕ) (w next : PageWriter) (bytes group part v₀ v₁ v₂ v₃ v₄ : List ℕ) (x y z u : Spent)
    → all_lie_on (length v₀) w.page.0 (taking_ops e w bytes) ≡ true
    → lack ≡ lacking w → first ≡ to_group w (length bytes) → many ≡ to_whole w (length bytes)
    → group ≡ group_of w bytes → part ≡ take many (drop first bytes) → next ≡ grown w bytes
    → RanOn w.page.0 left (op_if w.armed (erase e)) v₀ x v₁
    → RanOn w.page.0 x.left (op_if (not (eqb lack 0) && leb lack (length bytes)) (store (group_at w) group)) v₁ y v₂
    → RanOn w.page.0 y.left (op_if (not (eqb many 0)) (store (payload_from w (w.pending + first)) part)) v₂ z v₃
    → Ran (page_start next.page.0) z.left (cond (eqb next.pending max_chunk_size) (chunk_ops e next) []) v₃ u v₄
    → Ran (page_start w.page.0) left (taking_ops e w bytes) v₀ (record { ok = x.ok && y.ok && z.ok && u.ok; left = u.left }) v₄
unfolding taking_ops payload_ops
taking-ran e left lack first many w next bytes group part v₀ v₁ v₂ v₃ v₄ x y z u lie el ef em eg ep en p q r s =
    let page = w.page.0 in
    let a = op_if w.armed (erase e) in
    let b = op_if (completes w (length bytes)) (store (group_at w) (group_of w bytes)) in
    let c = op_if (not (eqb (to_whole w (length bytes)) 0)) (store (whole_at w (length bytes)) (whole_of w bytes)) in
    let d = close_ops e (grown w bytes) in
    let erasing = lies-both (length v₀) page a (b ++ c) (lies-both (length v₀) page (a ++ (b ++ c)) d lie).0 in
    let storing = lies-both (length v₀) page b c erasing.1 in
    let one = on-ran page left a v₀ v₁ x erasing.0 p in
    let two = rw (el, eg) at q in
    let three = rw (ep, em, ef) at r in
    let four = rw en at s in
    rw (← (append_assoc a b c))
    (ran_append (page_start page) left ((a ++ b) ++ c) d v₀ v₃ v₄ (record { ok = x.ok && y.ok && z.ok; left = z.left }) u
    (ran-next page left (a ++ b) c v₀ v₂ v₃ (record { ok = x.ok && y.ok; left = y.left }) z storing.1
    (ran-next page left a b v₀ v₁ v₂ x y storing.0 one two) three)
    four)

-- ---- what is taken fits

pub taken-fits : (w : PageWriter) (bytes : List ℕ) (n : ℕ) → n ≡ takes (length bytes) w → w.pending ≤ max_chunk_size → w.pending + length (take n bytes) ≤ max_chunk_size
taken-fits w bytes n e h = rw length-take (fits (length bytes) (page_size - (w.offset + 8 + w.pending)) w.pending n e h)
  where
    fits : (l page p n : ℕ) → n ≡ min l (min page (max_chunk_size - p)) → p ≤ max_chunk_size → p + min n l ≤ max_chunk_size
    fits l page p n e h = omega arith

pub grown-small : (w next : PageWriter) (bytes : List ℕ) → next ≡ grown w bytes → w.offset ≤ page_size → w.pending + length bytes ≤ max_chunk_size → Small next
grown-small w next bytes e o p = record { within = rw e o; short = rw e p }

-- the writer with the bytes that a call takes
pub taken_small : (m n : ℕ) (w next : PageWriter) (bytes : List ℕ) → writer_check m w ≡ Ok tt → n ≡ takes (length bytes) w → next ≡ grown w (take n bytes) → Small next
taken_small m n w next bytes fine t g =
    let s = checked_small m w fine in
    grown-small w next (take n bytes) g s.within (taken-fits w bytes n t s.short)

-- ---- write

-- out is handed back and ys is the flash, as the definition says
abbrev pub Writes : ℕ → PageWriter → List ℕ → ℕ → List ℕ → Ended ℕ → List ℕ → Type 0
Writes e w bytes left xs out ys =
    (out ≡ wrote (takes (length bytes) w) (hands_back (write_duty e xs w bytes) w left)) × (ys ≡ leaves (write_duty e xs w bytes) w left xs)

module _ (e : ℕ) (w : PageWriter) (bytes : List ℕ) (left : ℕ) (xs : List ℕ) where
  abbrev checks : Verdict
  checks = writer_check (length xs) w

  pub write-some : (n : ℕ) (r : Spent) (ys : List ℕ) (next after : PageWriter) (out : Ended ℕ) → checks ≡ Ok tt → n ≡ takes (length bytes) w → (n ≡ 0 → ⊥)
      → next ≡ grown w (take n bytes) → Ran (page_start w.page.0) left (taking_ops e w (take n bytes)) xs r ys → after ≡ closed next → out ≡ ended_with n r after w
      → Writes e w bytes left xs out ys
  write-some n r ys next after out f t z g ran c o =
      let whole : Duty = record { check = checks; ops = taking_ops e w (take n bytes); next = closed (grown w (take n bytes)) } in
      let q = ends-ran whole w left xs r ys f ran in
      rw (ne_eqb (takes (length bytes) w) 0 (λ k. z (t ∙ k)), ← t, o, c, g) (sym (wrote-ended n r (closed (grown w (take n bytes))) w) ∙ ap (wrote n) q.0, q.1)

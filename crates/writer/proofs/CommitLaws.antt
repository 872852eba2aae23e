-- The operations that finish a chunk, run one after the other. Assumes nothing.
use Rattle.std.specs.Prelude.{Ok, ⊤}
use mathlib.Core.Path.{◌≡◌, refl}
use mathlib.Core.Bool.{Bool, true, false, cond, not, ◌&&◌}
use mathlib.Core.List.{List, [], ◌++◌}
use Prim.Native.Nat.{ℕ}
use lib.Dec.{eqb}
use lib.ListN.{length, take-append-drop}
use borrow.Author.Tests.{ne_eqb}
use Rattle.crc.specs.Register.{finished}
use Rattle.flash.specs.Geometry.{page_start}
use Rattle.flash.specs.Operations.{erase, store, op_if, all_lie_on}
use Rattle.flash.specs.declared.ops.Spent.{Spent}
use Rattle.flash.proofs.LiesOnLaws.{RanOn, lies-both, on-ran, ran-next}
use Rattle.flash.proofs.OperationLaws.{Ran}
use Rattle.page.specs.Chunks.{chunk_header}
use Rattle.writer.specs.Commits.{in_group, group_at, last_group, seal_op, chunk_ops, next_chunk}
use Rattle.writer.specs.Duties.{commit_duty}
use Rattle.writer.specs.Outcomes.{ended_by}
use Rattle.writer.specs.Checks.{writer_check}
use Rattle.writer.specs.declared.answers.Ended.{Ended}
use Rattle.writer.specs.declared.page_writer.PageWriter.{PageWriter}
use Rattle.writer.proofs.OutcomeLaws.{Ends, ends-ran}

-- the padding is what the buffer holds
pub last-group : (w : PageWriter) → last_group w ≡ w.buf
last-group w = take-append-drop (in_group w) w.buf

-- each operation by itself, if all of them are due
chunk-due : (e : ℕ) (due : Bool) (w : PageWriter)
    → op_if (due && w.armed) (erase e) ++ op_if (due && not (eqb (in_group w) 0)) (store (group_at w) (last_group w)) ++ op_if due (seal_op w) ≡ cond due (chunk_ops e w) []
unfolding chunk_ops
chunk-due e true w = refl
chunk-due e false w = refl

-- the runs of the three, one after the other; v₀ to v₃ is the flash before, between and after them
pub chunk-ran : (e left : ℕ) (due : Bool) (w : PageWriter) (head v₀ v₁ v₂ v₃ : List ℕ) (x y z : Spent)
    → all_lie_on (length v₀) w.page.0 (cond due (chunk_ops e w) []) ≡ true
    → head ≡ chunk_header w.pending (finished w.crc)
    → RanOn w.page.0 left (op_if (due && w.armed) (erase e)) v₀ x v₁
    → RanOn w.page.0 x.left (op_if (due && not (eqb (in_group w) 0)) (store (group_at w) w.buf)) v₁ y v₂
    → RanOn w.page.0 y.left (op_if due (store w.offset head)) v₂ z v₃
    → Ran (page_start w.page.0) left (cond due (chunk_ops e w) []) v₀ (record { ok = x.ok && y.ok && z.ok; left = z.left }) v₃
chunk-ran e left due w head v₀ v₁ v₂ v₃ x y z lie h p q r =
    let page = w.page.0 in
    let a = op_if (due && w.armed) (erase e) in
    let b = op_if (due && not (eqb (in_group w) 0)) (store (group_at w) (last_group w)) in
    let c = op_if due (seal_op w) in
    let all = lies-both (length v₀) page (a ++ b) c (rw (← (chunk-due e due w)) at lie) in
    let two = lies-both (length v₀) page a b all.0 in
    let first = on-ran page left a v₀ v₁ x two.0 p in
    let second = rw (← (last-group w)) at q in
    let third = rw h at r in
    rw (← (chunk-due e due w))
    (ran-next page left (a ++ b) c v₀ v₂ v₃ (record { ok = x.ok && y.ok; left = y.left }) z all.1
    (ran-next page left a b v₀ v₁ v₂ x y two.1 first second) third)

-- ---- commit

module _ (e : ℕ) (w : PageWriter) (left : ℕ) (xs : List ℕ) (fine : writer_check (length xs) w ≡ Ok tt) where
  pub commit-some : (r : Spent) (ys : List ℕ) (next : PageWriter) (out : Ended ⊤) → (w.pending ≡ 0 → ⊥)
      → Ran (page_start w.page.0) left (cond true (chunk_ops e w) []) xs r ys → next ≡ next_chunk w → out ≡ ended_by r next w
      → Ends (commit_duty e xs w) w left xs out ys
  commit-some r ys next out n ran f o =
      rw (ne_eqb w.pending 0 n, o, f)
      (ends-ran (record { check = writer_check (length xs) w; ops = chunk_ops e w; next = next_chunk w }) w left xs r ys fine ran)

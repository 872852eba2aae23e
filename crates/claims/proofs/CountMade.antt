-- The count of stores that a writer's call hands back: the count at entry less the operations made. Assumes nothing.
use mathlib.Core.Path.{◌≡◌, refl, ap, ◌∙◌}
use mathlib.Core.List.{List, [], ◌∷◌}
use Prim.Native.Nat.{ℕ, ◌+◌, ◌-◌}
use native.Mathlib.Omega.{arith}
use lib.ListN.{length, length-take, length-append}
use Rattle.types.specs.Histories.{left_after}
use Rattle.types.specs.declared.page_id.PageID.{PageID}
use Rattle.types.proofs.HistoryLaws.{left_after-none, left_after-more, told_by_each-none, told_by_each-more}
use Rattle.flash.specs.Geometry.{page_start}
use Rattle.flash.specs.Operations.{applied}
use Rattle.writer.specs.Calls.{World, AddCall, duty_in, leaves_in, makes_in}
use Rattle.writer.specs.Duties.{Duty, hands_back, leaves, makes}
use Rattle.writer.specs.Openings.{opened, appended}
use Rattle.writer.specs.declared.page_writer.PageWriter.{PageWriter}
use Rattle.writer.proofs.OpenedLaws.{opened-left, appended_left}
use Rattle.writer.proofs.OutcomeLaws.{by-check}
use Rattle.claims.specs.Sequences.{making_in, makings, all_ops}

-- COUNT MADE: any call of a writer that owes operations, refused, cut or done
pub count-made : (d : Duty) (w : PageWriter) (left : ℕ) → (hands_back d w left).left + length (makes d left) ≡ left
count-made d w left =
    by-check (λ (c : Duty). (hands_back c w left).left + length (makes c left) ≡ left) d (λ why. omega arith)
    (ap (λ (n : ℕ). left - length d.ops + n) (length-take left d.ops) ∙ omega arith)

-- LEAVES MADE: and those are the operations that the flash shows: it is the flash at entry after them, in their order
pub leaves-made : (d : Duty) (w : PageWriter) (left : ℕ) (xs : List ℕ) → leaves d w left xs ≡ applied (page_start w.page.0) (makes d left) xs
leaves-made d w left xs = by-check (λ (c : Duty). leaves c w left xs ≡ applied (page_start w.page.0) (makes c left) xs) d (λ why. refl) refl

-- any number of calls, one after the other
pub counts-made : (e : ℕ) (calls : List AddCall) (x : World) → (left_after (leaves_in e) x calls).left + length (all_ops (makings e x calls)) ≡ x.left
counts-made e [] x = rw (left_after-none (leaves_in e) x, told_by_each-none (leaves_in e) (making_in e) x) (omega arith)
counts-made e (call ∷ calls) x =
    let y = leaves_in e x call in
    let ops = makes_in e x call in
    let more = all_ops (makings e y calls) in
    let end = (left_after (leaves_in e) y calls).left in
    rw (left_after-more (leaves_in e) x call calls, told_by_each-more (leaves_in e) (making_in e) x call calls)
    (ap (λ (n : ℕ). end + n) (length-append ops more)
    ∙ add-up end (length ops) (length more) y.left x.left (counts-made e calls y) (count-made (duty_in e x call) x.writer x.left))
  where
    add-up : (a b c m n : ℕ) → a + c ≡ m → m + b ≡ n → a + (b + c) ≡ n
    add-up a b c m n p q = omega arith

-- open and open_append leave it
pub open-keeps-count : (xs : List ℕ) (page : PageID) (h : ℕ) (w : PageWriter) (left : ℕ) → (opened xs page h w left).left ≡ left
open-keeps-count = opened-left

pub append-keeps-count : (e : ℕ) (xs : List ℕ) (page : PageID) (h : ℕ) (w : PageWriter) (left : ℕ) → (appended e xs page h w left).left ≡ left
append-keeps-count = appended_left

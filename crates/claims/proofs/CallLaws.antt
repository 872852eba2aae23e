-- The calls of an addition, one after the other, make the beginning of one list of operations. Assumes nothing.
use Rattle.std.specs.Prelude.{Ok, Err}
use Rattle.types.specs.Checks.{Verdict}
use mathlib.Core.Path.{◌≡◌, refl, sym, ap, ◌∙◌}
use mathlib.Core.Bool.{Bool, true, false, cond}
use mathlib.Core.List.{List, [], ◌∷◌, ◌++◌, append-nil}
use mathlib.Core.Logic.{⊎_elim}
use Prim.Native.Nat.{ℕ, ◌-◌, ◌≤◌, ◌<◌}
use native.Mathlib.Omega.{arith}
use lib.Dec.{eqb}
use lib.ListN.{length, take}
use lib.Seq.{take-append-le}
use borrow.Author.Tests.{le-leb, lt-leb}
use Rattle.types.specs.declared.refusal.Refusal.TheVariants.{Cut}
use Rattle.types.proofs.TestLaws.{le-or-lt, decided}
use Rattle.types.specs.declared.page_id.PageID.{PageID}
use Rattle.flash.specs.Geometry.{flash_fine, has_page, page_start}
use Rattle.flash.specs.Operations.{Op, applied, allowed}
use Rattle.flash.proofs.OperationLaws.{applied-append, take-append}
use Rattle.flash.proofs.PageLaws.{length-applied}
use Rattle.writer.specs.States.{in_range}
use Rattle.writer.specs.Calls.{World, writes, commits, duty_in}
use Rattle.writer.specs.Commits.{next_chunk}
use Rattle.writer.specs.Duties.{Duty, hands_back, leaves}
use Rattle.writer.specs.Checks.{writer_check}
use Rattle.writer.specs.Writes.{takes, taken_of, grown, is_full, write_ops, written}
use Rattle.writer.specs.declared.page_writer.PageWriter.{PageWriter}
use Rattle.writer.proofs.FineLaws.{writer_check-fine}
use Rattle.writer.proofs.OutcomeLaws.{checked_as}
use Rattle.writer.proofs.RangeLaws.{write-range}
use Rattle.claims.specs.Additions.{fills, go_on, after_writes, addition_ops}

-- ---- what a call leaves

abbrev pub in_world : List ℕ → PageWriter → ℕ → World
in_world xs w left = record { flash = xs; writer = w; left = left }

abbrev pub left_behind : Duty → World → World
left_behind d x = in_world (leaves d x.writer x.left x.flash) (hands_back d x.writer x.left).writer (hands_back d x.writer x.left).left

-- ---- operations in two parts

allowed-append : (base left : ℕ) (a b : List Op) (xs : List ℕ) → allowed base (left - length a) b (allowed base left a xs) ≡ allowed base left (a ++ b) xs
allowed-append base left a b xs = sym (ap (λ (l : List Op). applied base l xs) (take-append left a b) ∙ applied-append base (take left a) (take (left - length a) b) xs)

allowed-cut : (base left : ℕ) (a b : List Op) (xs : List ℕ) → left ≤ length a → allowed base left a xs ≡ allowed base left (a ++ b) xs
allowed-cut base left a b xs h = ap (λ (l : List Op). applied base l xs) (sym (take-append-le left a b h))

-- ---- a writer that no check refuses on a flash of n bytes

pub record Going (n : ℕ) (w : PageWriter) : Type 0 where
  pub shape : flash_fine n ≡ true
  pub range : in_range w ≡ true
  pub there : has_page n w.page.0 ≡ true

going_fine : (n : ℕ) (w : PageWriter) → Going n w → writer_check n w ≡ Ok tt
going_fine n w g = writer_check-fine n w g.shape g.range g.there

pub written-page : (w : PageWriter) (bytes : List ℕ) → (written w bytes).page ≡ w.page
written-page w bytes = by (eqb (takes (length bytes) w) 0) (is_full (grown w (taken_of w bytes)))
  where
    by : (s t : Bool) → (cond s w (cond t (next_chunk (grown w (taken_of w bytes))) (grown w (taken_of w bytes)))).page ≡ w.page
    by true t = refl
    by false true = refl
    by false false = refl

going_on : (n : ℕ) (w : PageWriter) (bytes : List ℕ) → Going n w → Going n (written w bytes)
going_on n w bytes g = record {
  shape = g.shape;
  range = write-range w bytes g.range;
  there = ap (λ (p : PageID). has_page n p.0) (written-page w bytes) ∙ g.there;
}

-- THE CALLS: what they leave is the first k of all their operations
pub calls-made : (e : ℕ) (pieces : List (List ℕ)) (x : World) → Going (length x.flash) x.writer
    → after_writes e pieces x ≡ allowed (page_start x.writer.page.0) x.left (addition_ops e x.writer pieces) x.flash
unfolding after_writes addition_ops
calls-made e [] x g =
    ap (λ (v : Verdict). leaves (checked_as (duty_in e x commits) v) x.writer x.left x.flash) (going_fine (length x.flash) x.writer g)
calls-made e (bytes ∷ pieces) x g =
    let xs = x.flash in
    let w = x.writer in
    let left = x.left in
    let d = duty_in e x (writes bytes) in
    let ops = write_ops e w bytes in
    let base = page_start w.page.0 in
    let ys = allowed base left ops xs in
    let v = written w bytes in
    let rest = addition_ops e v pieces in
    let fine : writer_check (length xs) w ≡ (Ok tt) = going_fine (length xs) w g in
    let same : length ys ≡ length xs = length-applied base (take left ops) xs in
    let next : Going (length ys) v = rw same (going_on (length xs) w bytes g) in
    ap
    (λ (c : Verdict).
    go_on (hands_back (checked_as d c) w left).answer
    (cond (fills w bytes) (leaves (checked_as d c) w left xs) (after_writes e pieces (left_behind (checked_as d c) x)))
    (leaves (checked_as d c) w left xs))
    fine
    ∙ ⊎_elim
    (λ (all : length ops ≤ left).
    ap (λ (t : Bool). go_on (cond t (Ok tt) (Err Cut)) (cond (fills w bytes) ys (after_writes e pieces (in_world ys (cond t v w) (left - length ops)))) ys) (le-leb (length ops) left all)
    ∙ ⊎_elim
    (λ (f : fills w bytes ≡ true).
    ap (λ (t : Bool). cond t ys (after_writes e pieces (in_world ys v (left - length ops)))) f
    ∙ ap (λ (l : List Op). allowed base left l xs) (sym (append-nil ops))
    ∙ ap (λ (t : Bool). allowed base left (ops ++ cond t [] rest) xs) (sym f))
    (λ (f : fills w bytes ≡ false).
    ap (λ (t : Bool). cond t ys (after_writes e pieces (in_world ys v (left - length ops)))) f
    ∙ calls-made e pieces (in_world ys v (left - length ops)) next
    ∙ ap (λ (p : PageID). allowed (page_start p.0) (left - length ops) rest ys) (written-page w bytes)
    ∙ allowed-append base left ops rest xs
    ∙ ap (λ (t : Bool). allowed base left (ops ++ cond t [] rest) xs) (sym f))
    (decided (fills w bytes)))
    (λ (cut : left < length ops).
    ap (λ (t : Bool). go_on (cond t (Ok tt) (Err Cut)) (cond (fills w bytes) ys (after_writes e pieces (in_world ys (cond t v w) (left - length ops)))) ys) (lt-leb (length ops) left cut)
    ∙ allowed-cut base left ops (cond (fills w bytes) [] rest) xs (omega arith))
    (le-or-lt (length ops) left)

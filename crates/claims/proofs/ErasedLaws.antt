-- After a reopening every store of write and commit lies within the page, on bytes that read as erased just before it, whatever the calls,
-- write_header and refused ones among them. The page header goes over what is there, and ends before those bytes. Assumes nothing.
use Rattle.std.specs.Prelude.{Ok, Err}
use Rattle.types.specs.Checks.{Verdict}
use mathlib.Core.Path.{◌≡◌, refl, sym, ap, subst, ◌∙◌}
use mathlib.Core.Bool.{Bool, true, false, cond}
use mathlib.Core.List.{List, [], ◌∷◌}
use mathlib.Core.Logic.{⊎_elim}
use Prim.Native.Nat.{ℕ, ◌-◌, ◌≤◌, ◌<◌}
use native.Mathlib.Omega.{arith}
use lib.Dec.{eqb, leb}
use lib.ListN.{length, take}
use lib.Seq.{take_all}
use borrow.Author.Tests.{le-leb, lt-leb}
use Rattle.types.specs.Build.{page_size}
use Rattle.types.specs.declared.page_id.PageID.{PageID}
use Rattle.types.proofs.HistoryLaws.{told_by_each-none, told_by_each-more}
use Rattle.types.proofs.TestLaws.{le-or-lt}
use Rattle.flash.specs.Geometry.{page_start, page_of}
use Rattle.flash.specs.Operations.{Op, applied}
use Rattle.flash.proofs.GeometryLaws.{length-page}
use Rattle.flash.proofs.PageLaws.{page-applied}
use Rattle.writer.specs.Calls.{World, AddCall, writes, commits, heads, duty_of, duty_in, leaves_in, opened_on}
use Rattle.writer.specs.Commits.{next_chunk}
use Rattle.writer.specs.Duties.{Duty, hands_back, makes}
use Rattle.writer.specs.Openings.{appended}
use Rattle.writer.specs.States.{in_range}
use Rattle.writer.specs.declared.page_writer.PageWriter.{PageWriter}
use Rattle.writer.proofs.CheckLaws.{WriterChecked, writer-checked, heading-checked, range-known}
use Rattle.writer.proofs.CleanLaws.{Clean, append-clean, write-clean, commit-clean, heading-clean}
use Rattle.writer.proofs.OutcomeLaws.{checked_as, by-check}
use Rattle.writer.proofs.RangeLaws.{write-range, commit-range, heading-range, append-range}
use Rattle.writer.proofs.StoreLaws.{lands-take}
use Rattle.claims.specs.Sequences.{making_in, makings, LandsBy, AllLand}
use Rattle.writer.proofs.OpenedLaws.{appended-page}
use Rattle.claims.proofs.CallLaws.{in_world, left_behind, written-page}

-- ---- one call

call-page : (e : ℕ) (call : AddCall) (xs : List ℕ) (w : PageWriter) → (duty_of e call xs w).next.page ≡ w.page
call-page e (writes bytes) xs w = written-page w bytes
call-page e commits xs w = by (eqb w.pending 0)
  where
    by : (t : Bool) → (cond t w (next_chunk w)).page ≡ w.page
    by true = refl
    by false = refl
call-page e (heads magic header) xs w = refl

call-range : (e : ℕ) (call : AddCall) (xs : List ℕ) (w : PageWriter) → in_range w ≡ true → in_range (duty_of e call xs w).next ≡ true
call-range e (writes bytes) xs w r = write-range w bytes r
call-range e commits xs w r = commit-range w r
call-range e (heads magic header) xs w r = heading-range w ∙ r

-- a call that no check refuses has a whole page
call-whole : (e : ℕ) (call : AddCall) (xs : List ℕ) (w : PageWriter) → (duty_of e call xs w).check ≡ Ok tt → length (page_of w.page.0 xs) ≡ page_size
call-whole e call xs w v = length-page (page_start w.page.0) xs (checked call v).flash.whole
  where
    checked : (call : AddCall) → (duty_of e call xs w).check ≡ Ok tt → WriterChecked (length xs) w
    checked (writes bytes) v = writer-checked (length xs) w v
    checked commits v = writer-checked (length xs) w v
    checked (heads magic header) v = (heading-checked (length xs) w (length header) v).writer

-- what a call that no check refuses owes lies where it may, and leaves a clean page
call-clean : (e : ℕ) (call : AddCall) (xs : List ℕ) (w : PageWriter) (p : List ℕ) → in_range w ≡ true → length p ≡ page_size → Clean e w p → (duty_of e call xs w).check ≡ Ok tt
    → LandsBy e call (duty_of e call xs w).ops p × Clean e (duty_of e call xs w).next (applied 0 (duty_of e call xs w).ops p)
call-clean e (writes bytes) xs w p r whole c v = write-clean e w bytes p (range-known w r) whole c
call-clean e commits xs w p r whole c v = commit-clean e w p (range-known w r) whole c
call-clean e (heads magic header) xs w p r whole c v = (tt, heading-clean (length xs) e w magic header p v c)

-- so do the first ones, which a cut leaves, and none at all
call-take : (e : ℕ) (call : AddCall) (k : ℕ) (ops : List Op) (p : List ℕ) → LandsBy e call ops p → LandsBy e call (take k ops) p
call-take e (writes bytes) k ops p l = lands-take e k ops p l
call-take e commits k ops p l = lands-take e k ops p l
call-take e (heads magic header) k ops p l = tt

call_none : (e : ℕ) (call : AddCall) (p : List ℕ) → LandsBy e call [] p
call_none e (writes bytes) p = tt
call_none e commits p = tt
call_none e (heads magic header) p = tt

-- ---- all of them

-- with no store left none is made
none-land : (e : ℕ) (calls : List AddCall) (x : World) → x.left ≡ 0 → AllLand e (makings e x calls)
none-land e [] x z = rw (told_by_each-none (leaves_in e) (making_in e) x) tt
none-land e (call ∷ calls) x z =
    let page = page_of x.writer.page.0 x.flash in
    rw (told_by_each-more (leaves_in e) (making_in e) x call calls) (
      subst (λ (l : List Op). LandsBy e call l page) (sym (makes_none (duty_in e x call) x.left z)) (call_none e call page),
      none-land e calls (leaves_in e x call) (left-none (duty_in e x call) x.writer x.left z),
    )
  where
    makes_none : (d : Duty) (left : ℕ) → left ≡ 0 → makes d left ≡ []
    makes_none d left z = by-check (λ (c : Duty). makes c left ≡ []) d (λ why. refl) (ap (λ (n : ℕ). take n d.ops) z)

    left-none : (d : Duty) (w : PageWriter) (left : ℕ) → left ≡ 0 → (hands_back d w left).left ≡ 0
    left-none d w left z = by-check (λ (c : Duty). (hands_back c w left).left ≡ 0) d (λ why. z) (omega arith)

-- a call, and those after it by what is known of its writer and its page
module _ (e : ℕ) (call : AddCall) (calls : List AddCall) (x : World) (r : in_range x.writer ≡ true) (c : Clean e x.writer (page_of x.writer.page.0 x.flash))
    (further : (y : World) → in_range y.writer ≡ true → Clean e y.writer (page_of y.writer.page.0 y.flash) → AllLand e (makings e y calls)) where
  abbrev w : PageWriter
  w = x.writer

  abbrev left : ℕ
  left = x.left

  abbrev duty : Duty
  duty = duty_in e x call

  abbrev ops : List Op
  ops = duty.ops

  abbrev page : List ℕ
  page = page_of w.page.0 x.flash

  abbrev ys : List ℕ
  ys = applied (page_start w.page.0) (take left ops) x.flash

  abbrev Later : Bool → Type 0
  Later t = AllLand e (makings e (in_world ys (cond t duty.next w) (left - length ops)) calls)

  next-page : page_of duty.next.page.0 ys ≡ applied 0 (take left ops) page
  next-page = ap (λ (p : PageID). page_of p.0 ys) (call-page e call x.flash w) ∙ page-applied (page_start w.page.0) (take left ops) x.flash

  next-clean : duty.check ≡ Ok tt → length ops ≤ left → Clean e duty.next (page_of duty.next.page.0 ys)
  next-clean v all =
      subst (λ (p : List ℕ). Clean e duty.next p) (sym (next-page ∙ ap (λ (l : List Op). applied 0 l page) (take_all left ops all)))
      (call-clean e call x.flash w page r (call-whole e call x.flash w v) c v).1

  -- all are made, and the page is clean; or the call is cut, and none is left
  later-land : duty.check ≡ Ok tt → Later (leb (length ops) left)
  later-land v =
      ⊎_elim
      (λ (all : length ops ≤ left).
      subst Later (sym (le-leb (length ops) left all)) (further (in_world ys duty.next (left - length ops)) (call-range e call x.flash w r) (next-clean v all)))
      (λ (short : left < length ops). subst Later (sym (lt-leb (length ops) left short)) (none-land e calls (in_world ys w (left - length ops)) (omega arith)))
      (le-or-lt (length ops) left)

  call_lands : (v : Verdict) → duty.check ≡ v → LandsBy e call (makes (checked_as duty v) left) page × AllLand e (makings e (left_behind (checked_as duty v) x) calls)
  call_lands (Err why) q = (call_none e call page, further x r c)
  call_lands (Ok tt) q = (call-take e call left ops page (call-clean e call x.flash w page r (call-whole e call x.flash w q) c q).0, later-land q)

all-land : (e : ℕ) (calls : List AddCall) (x : World) → in_range x.writer ≡ true → Clean e x.writer (page_of x.writer.page.0 x.flash) → AllLand e (makings e x calls)
all-land e [] x r c = rw (told_by_each-none (leaves_in e) (making_in e) x) tt
all-land e (call ∷ calls) x r c =
    rw (told_by_each-more (leaves_in e) (making_in e) x call calls) (call_lands e call calls x r c (λ y. all-land e calls y) (duty_in e x call).check refl)

-- WRITES ON ERASED: after a reopening, whatever the calls, with any number of stores allowed in all, each store that write or commit
-- makes lies within the page, on bytes that read as erased just before it
pub writes-on-erased : (e : ℕ) (xs : List ℕ) (page : PageID) (h : ℕ) (w : PageWriter) (k : ℕ) (calls : List AddCall) → (appended e xs page h w k).answer ≡ Ok tt
    → AllLand e (makings e (opened_on xs (appended e xs page h w k)) calls)
writes-on-erased e xs page h w k calls a =
    let v = (appended e xs page h w k).writer in
    all-land e calls (opened_on xs (appended e xs page h w k)) (append-range e xs page h w k a)
    (subst (λ (p : PageID). Clean e v (page_of p.0 xs)) (sym (appended-page e xs page h w k a)) (append-clean e xs page h w k a))

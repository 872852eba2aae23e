-- A writer's call that was refused, made again with what it handed back. Assumes nothing.
use Rattle.std.specs.Prelude.{Ok, Err, ⊤}
use Rattle.types.specs.Checks.{Verdict}
use mathlib.Core.Path.{◌≡◌, refl, ap, ap₂, ◌∙◌}
use mathlib.Core.Bool.{Bool, true, false, cond}
use mathlib.Core.List.{List}
use Prim.Native.Nat.{ℕ, ◌≤◌, ◌<◌}
use native.Mathlib.Omega.{arith}
use lib.Dec.{leb}
use lib.ListN.{length}
use borrow.Author.Tests.{leb-false}
use Rattle.types.specs.declared.refusal.Refusal.{Refusal}
use Rattle.types.specs.declared.refusal.Refusal.TheVariants.{Cut}
use Rattle.flash.specs.Geometry.{page_start}
use Rattle.writer.specs.Calls.{World, AddCall, writes, commits, heads, duty_of, duty_in, hands_back_in, leaves_in}
use Rattle.writer.specs.Duties.{Duty, hands_back, leaves}
use Rattle.writer.specs.Outcomes.{refused_at, wrote}
use Rattle.writer.specs.Writes.{takes}
use Rattle.writer.specs.declared.answers.Ended.{Ended}
use Rattle.writer.specs.declared.page_writer.PageWriter.{PageWriter}
use Rattle.writer.proofs.FineLaws.{writer_check-not-cut, heading_check-not-cut}
use Rattle.writer.proofs.OutcomeLaws.{checked_as, by-check}
use Rattle.claims.specs.Sequences.{powered, again_in, SameIn}
use Rattle.claims.proofs.CallLaws.{in_world}
use Rattle.claims.proofs.Elsewhere.{elsewhere}
use Rattle.flash.proofs.RedoLaws.{applied-again}

-- what a call owes depends on the flash's length alone
duty-same : (e : ℕ) (call : AddCall) (xs ys : List ℕ) (w : PageWriter) → length ys ≡ length xs → duty_of e call ys w ≡ duty_of e call xs w
duty-same e (writes bytes) xs ys w l = rw l
duty-same e commits xs ys w l = rw l
duty-same e (heads magic header) xs ys w l = rw l

-- no check refuses by 9
never-cut : (e : ℕ) (call : AddCall) (xs : List ℕ) (w : PageWriter) → (duty_of e call xs w).check ≡ Err Cut → ⊥
never-cut e (writes bytes) xs w = writer_check-not-cut (length xs) w
never-cut e commits xs w = writer_check-not-cut (length xs) w
never-cut e (heads magic header) xs w = heading_check-not-cut (length xs) w (length header)

-- ---- what a refused call leaves

module _ (d : Duty) (w : PageWriter) (left : ℕ) (why : Refusal) where
  cut-back : (t : Bool) → cond {A = Verdict} t (Ok tt) (Err Cut) ≡ Err why → cond t d.next w ≡ w
  cut-back true a = let z : ◌≡◌ {A = ℕ} 0 1 = cc in absurd (omega arith)
  cut-back false a = refl

  -- the writer as at entry
  back_by : (hands_back d w left).answer ≡ Err why → (hands_back d w left).writer ≡ w
  back_by =
      by-check (λ (c : Duty). (hands_back c w left).answer ≡ Err why → (hands_back c w left).writer ≡ w) d (λ x a. refl) (cut-back (leb (length d.ops) left))

  cut-why : (t : Bool) → cond {A = Verdict} t (Ok tt) (Err Cut) ≡ Err why → (t ≡ false) × (why ≡ Cut)
  cut-why true a = let z : ◌≡◌ {A = ℕ} 0 1 = cc in absurd (omega arith)
  cut-why false a = (refl, cc)

  -- cut, none is left
  none-by : (v : Verdict) → (v ≡ Err why → ⊥) → (hands_back (checked_as d v) w left).answer ≡ Err why → (hands_back (checked_as d v) w left).left ≡ 0
  none-by (Err x) n a = let z : x ≡ why = cc in absurd (n (ap Err z))
  none-by (Ok tt) n a = let short : left < length d.ops = leb-false (length d.ops) left (cut-why (leb (length d.ops) left) a).0 in omega arith

  -- not cut, the checks refused it
  checks-by : (v : Verdict) → (hands_back (checked_as d v) w left).answer ≡ Err why → (why ≡ Cut → ⊥) → v ≡ Err why
  checks-by (Err x) a n = let z : x ≡ why = cc in ap Err z
  checks-by (Ok tt) a n = absurd (n (cut-why (leb (length d.ops) left) a).1)

-- the operations of one list, and again as many or more of it
redo-by : (d : Duty) (w : PageWriter) (few many : ℕ) (xs : List ℕ) → few ≤ many → leaves d w many (leaves d w few xs) ≡ leaves d w many xs
redo-by d w few many xs h =
    by-check (λ (c : Duty). leaves c w many (leaves c w few xs) ≡ leaves c w many xs) d (λ why. refl) (applied-again (page_start w.page.0) few many d.ops xs h)

-- ---- the statements

module _ (e : ℕ) (call : AddCall) (x : World) where
  abbrev duty : Duty
  duty = duty_in e x call

  abbrev w : PageWriter
  w = x.writer

  abbrev ys : List ℕ
  ys = (leaves_in e x call).flash

  -- what is handed back, and what is left
  abbrev Comes : Type 0
  Comes = (Ended ⊤) × World

  abbrev comes_in : World → Comes
  comes_in y = (hands_back_in e y call, leaves_in e y call)

  abbrev owed : Duty → ℕ → List ℕ → Comes
  owed d stores zs = (hands_back d w stores, in_world zs (hands_back d w stores).writer (hands_back d w stores).left)

  both : (y : World) (z : Comes) → comes_in y ≡ z → (hands_back_in e y call ≡ z.0) × (leaves_in e y call ≡ z.1)
  both y z q = (ap (λ (p : Comes). p.0) q, ap (λ (p : Comes). p.1) q)

  -- made again, it owes the same
  again-owes : (why : Refusal) (stores : ℕ) → (hands_back_in e x call).answer ≡ Err why → comes_in (again_in e x call stores) ≡ owed duty stores (leaves duty w stores ys)
  again-owes why stores a =
      ap (λ (v : PageWriter). comes_in (in_world ys v stores)) (back_by duty w x.left why a)
      ∙ ap (λ (d : Duty). owed d stores (leaves d w stores ys)) (duty-same e call x.flash ys w (elsewhere duty w x.left x.flash).others.long)

  -- RETRIED: a call that was cut, made again with what it handed back and with as many stores as at first or more, leaves the answer, the
  -- writer, the count and the flash that it leaves with those stores from the start
  pub retried : (stores : ℕ) → x.left ≤ stores → (hands_back_in e x call).answer ≡ Err Cut → SameIn e call (again_in e x call stores) (powered stores x)
  retried stores h a =
      both (again_in e x call stores) (comes_in (powered stores x))
      (again-owes Cut stores a ∙ ap (owed duty stores) (redo-by duty w x.left stores x.flash h))

  -- none was left
  pub cut-leaves-none : (hands_back_in e x call).answer ≡ Err Cut → (hands_back_in e x call).left ≡ 0
  cut-leaves-none a = none-by duty w x.left Cut duty.check (never-cut e call x.flash w) a

  -- REFUSED AGAIN: a call that was refused by another number is refused by it again, whatever the count, and all is as it was
  pub refused-again : (why : Refusal) (stores : ℕ) → (hands_back_in e x call).answer ≡ Err why → (why ≡ Cut → ⊥)
      → (hands_back_in e (again_in e x call stores) call ≡ refused_at w stores why) × (leaves_in e (again_in e x call stores) call ≡ powered stores x)
  refused-again why stores a n =
      both (again_in e x call stores) (refused_at w stores why, powered stores x)
      (again-owes why stores a
      ∙ ap (λ (v : Verdict). owed (checked_as duty v) stores (leaves (checked_as duty v) w stores (leaves (checked_as duty v) w x.left x.flash)))
      (checks-by duty w x.left why duty.check a n))

-- a write made again answers how many bytes it takes, as with those stores from the start
pub retried-write : (e : ℕ) (bytes : List ℕ) (x : World) (stores : ℕ) → x.left ≤ stores → (hands_back_in e x (writes bytes)).answer ≡ Err Cut
    → wrote (takes (length bytes) (leaves_in e x (writes bytes)).writer) (hands_back_in e (again_in e x (writes bytes) stores) (writes bytes))
    ≡ wrote (takes (length bytes) x.writer) (hands_back_in e (powered stores x) (writes bytes))
retried-write e bytes x stores h a =
    ap₂ (λ (v : PageWriter) (end : Ended ⊤). wrote (takes (length bytes) v) end) (back_by (duty_in e x (writes bytes)) x.writer x.left Cut a)
    (retried e (writes bytes) x stores h a).0

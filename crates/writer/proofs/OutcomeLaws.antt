-- A call's end, by whether all its operations were made. Assumes nothing.
use Rattle.std.specs.Prelude.{Ok, Err, ⊤}
use Rattle.types.specs.Checks.{Verdict}
use mathlib.Core.Path.{◌≡◌, refl, ap, ◌∙◌}
use mathlib.Core.Bool.{Bool, true, false}
use mathlib.Core.List.{List, []}
use Prim.Native.Nat.{ℕ}
use Rattle.types.specs.declared.refusal.Refusal.{Refusal}
use Rattle.flash.specs.Geometry.{page_start}
use Rattle.flash.specs.declared.ops.Spent.{Spent}
use Rattle.flash.proofs.OperationLaws.{Ran, ran-none}
use Rattle.writer.specs.Duties.{Duty, hands_back, leaves}
use Rattle.writer.specs.Outcomes.{refused_at, ended_with, ended_by, wrote}
use Rattle.writer.specs.declared.answers.Ended.{Ended}
use Rattle.writer.specs.declared.page_writer.PageWriter.{PageWriter}

-- the same call, where its checks say v
abbrev pub checked_as : Duty → Verdict → Duty
checked_as d v = record { check = v; ops = d.ops; next = d.next }

-- what holds of a call whose checks refuse, and of one whose checks are fine, holds of any
pub by-check : (P : Duty → Type 0) (d : Duty) → ((why : Refusal) → P (checked_as d (Err why))) → P (checked_as d (Ok tt)) → P d
by-check P d refused fine = by d.check
  where
    by : (v : Verdict) → P (checked_as d v)
    by (Err why) = refused why
    by (Ok tt) = fine

-- out is handed back and ys is the flash, as a call's duty says
abbrev pub Ends : Duty → PageWriter → ℕ → List ℕ → Ended ⊤ → List ℕ → Type 0
Ends d w left xs out ys = (out ≡ hands_back d w left) × (ys ≡ leaves d w left xs)

module _ (d : Duty) (w : PageWriter) (left : ℕ) (xs : List ℕ) where
  pub ends-refused : (why : Refusal) → d.check ≡ Err why → Ends d w left xs (refused_at w left why) xs
  ends-refused why e = (rw e, rw e)

  pub ends-ran : (r : Spent) (ys : List ℕ) → d.check ≡ Ok tt → Ran (page_start w.page.0) left d.ops xs r ys → Ends d w left xs (ended_by r d.next w) ys
  ends-ran r ys e ran = (ap (λ (s : Spent). ended_by s d.next w) ran.0 ∙ rw e, ran.1 ∙ rw e)

-- a write that is done answers the bytes that it took
pub wrote-ended : (n : ℕ) (r : Spent) (next w : PageWriter) → wrote n (ended_by r next w) ≡ ended_with n r next w
wrote-ended n r next w = by r.ok
  where
    by : (ok : Bool) → wrote n (ended_by (record { ok = ok; left = r.left }) next w) ≡ ended_with n (record { ok = ok; left = r.left }) next w
    by true = refl
    by false = refl

-- no operation is owed
pub ends-none : (v : Verdict) (w : PageWriter) (left : ℕ) (xs : List ℕ) → v ≡ Ok tt
    → Ends (record { check = v; ops = []; next = w }) w left xs (record { answer = Ok tt; writer = w; left = left }) xs
ends-none v w left xs e =
    ends-ran (record { check = v; ops = []; next = w }) w left xs (record { ok = true; left = left }) xs e (ran-none (page_start w.page.0) left xs)

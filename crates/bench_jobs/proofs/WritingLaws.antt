-- A write, and the loop of writes. Assumes nothing.
use Rattle.std.specs.Prelude.{Ok, Err, ⊤}
use Rattle.std.specs.Result.{result_unwrap_or}
use Rattle.std.specs.declared.result.Result.{Result}
use mathlib.Core.Path.{◌≡◌, refl, sym, ap, subst, ◌∙◌}
use mathlib.Core.Bool.{Bool, true, false, cond}
use mathlib.Core.List.{List}
use Prim.Native.Nat.{ℕ, zero, suc, ◌+◌, ◌-◌, ◌^◌, ◌≤◌, ◌<◌}
use native.Mathlib.Omega.{arith}
use lib.ListN.{length, take, drop, length-take, length-drop}
use Rattle.types.specs.Build.{erase_value}
use Rattle.types.specs.declared.refusal.Refusal.{Refusal}
use Rattle.writer.specs.Duties.{write_duty, hands_back}
use Rattle.writer.specs.Outcomes.{took, wrote}
use Rattle.writer.specs.Writes.{takes}
use Rattle.writer.specs.declared.answers.Ended.{Ended}
use Rattle.writer.specs.declared.page_writer.PageWriter.{PageWriter}
use Rattle.bench_jobs.specs.Writings.{WriteState, write_state, Fits, write_one, write_on}
use Rattle.bench_jobs.specs.declared.writing.Writing.{Writing}

-- ---- one write

took-fits : (from n : ℕ) (o : Result ⊤ Refusal) → from + n < 2 ^ 64 → Fits from (took n o)
took-fits from n (Ok tt) fits = fits
took-fits from n (Err why) fits = tt

-- what was taken is within the payload
pub write-fits : (payload : List ℕ) (piece : ℕ) (flash : List ℕ) (w : PageWriter) (left from : ℕ) (bytes : List ℕ) (wr : Ended ℕ) → from ≤ length payload
    → bytes ≡ take piece (drop from payload)
    → wr ≡ wrote (takes (length bytes) w) (hands_back (write_duty erase_value flash w bytes) w left) → length payload < 2 ^ 64 → Fits from wr.answer
write-fits payload piece flash w left from bytes wr at part called small =
    let l : length bytes ≤ length payload - from = rw part (simp (length-take, length-drop) (omega arith)) in
    subst (λ (x : Ended ℕ). Fits from x.answer) (sym called)
    (took-fits from (takes (length bytes) w) (hands_back (write_duty erase_value flash w bytes) w left).answer (omega arith))

-- ---- the writes

abbrev goes : Writing → Bool
goes w = result_unwrap_or w.goes_on false

module _ (payload : List ℕ) (piece : ℕ) (s : WriteState) where
  stop : (n : ℕ) → goes s.writing ≡ false → write_on n payload piece s ≡ s
  unfolding write_on
  stop zero off = refl
  stop (suc n) off = ap (λ (b : Bool). cond b (write_on n payload piece (write_one payload piece s)) s) off

  more : (n : ℕ) → goes s.writing ≡ true → write_on (suc n) payload piece s ≡ write_on n payload piece (write_one payload piece s)
  unfolding write_on
  more n on = ap (λ (b : Bool). cond b (write_on n payload piece (write_one payload piece s)) s) on

-- the writes that are left come to the whole
module _ (payload : List ℕ) (piece : ℕ) (whole : WriteState) (n : ℕ) (flash : List ℕ) (w : Writing)
    (rest : write_on n payload piece (write_state w flash) ≡ whole) where
  parts : write_state w flash ≡ whole → (w ≡ whole.writing) × (flash ≡ whole.flash)
  parts e = (ap (λ (s : WriteState). s.writing) e, ap (λ (s : WriteState). s.flash) e)

  pub writes-stop : (on : Bool) → on ≡ goes w → on ≡ false → (w ≡ whole.writing) × (flash ≡ whole.flash)
  writes-stop on is off = parts (sym (stop payload piece (write_state w flash) n (sym is ∙ off)) ∙ rest)

  pub writes-none : n ≡ 0 → (w ≡ whole.writing) × (flash ≡ whole.flash)
  unfolding write_on
  writes-none over = parts (sym (ap (λ (k : ℕ). write_on k payload piece (write_state w flash)) over) ∙ rest)

  pub writes_more : (m : ℕ) (on : Bool) (flash' : List ℕ) (w' : Writing) → n ≡ suc m → on ≡ goes w → on ≡ true
      → w' ≡ (write_one payload piece (write_state w flash)).writing → flash' ≡ (write_one payload piece (write_state w flash)).flash
      → write_on m payload piece (write_state w' flash') ≡ whole
  writes_more m on flash' w' some is go one put =
      ap (λ (x : Writing). write_on m payload piece (write_state x flash')) one
      ∙ ap (λ (x : List ℕ). write_on m payload piece (write_state (write_one payload piece (write_state w flash)).writing x)) put
      ∙ sym (more payload piece (write_state w flash) m (sym is ∙ go))
      ∙ sym (ap (λ (k : ℕ). write_on k payload piece (write_state w flash)) some)
      ∙ rest

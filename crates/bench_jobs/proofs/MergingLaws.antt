-- The loop of calls of next. Assumes nothing.
use mathlib.Core.Path.{◌≡◌, refl, sym, ap, ◌∙◌}
use mathlib.Core.Bool.{Bool, true, false, cond}
use mathlib.Core.List.{List}
use Prim.Native.Nat.{ℕ, zero, suc}
use Rattle.bench_jobs.specs.Merges.{MergeState, merge_state, merge_one, merge_begun, merge_on, merge_all}
use Rattle.bench_jobs.specs.declared.merging.Merging.{Merging}

-- ---- the calls

module _ (runs ends : List ℕ) (s : MergeState) where
  stop : (n : ℕ) → s.merging.on ≡ false → merge_on n runs ends s ≡ s
  unfolding merge_on
  stop zero off = refl
  stop (suc n) off = ap (λ (b : Bool). cond b (merge_on n runs ends (merge_one runs ends s)) s) off

  more : (n : ℕ) → s.merging.on ≡ true → merge_on (suc n) runs ends s ≡ merge_on n runs ends (merge_one runs ends s)
  unfolding merge_on
  more n on = ap (λ (b : Bool). cond b (merge_on n runs ends (merge_one runs ends s)) s) on

pub calls-start : (n most : ℕ) (runs ends key value : List ℕ) (m : Merging) → n ≡ most → m ≡ merge_begun runs ends
    → merge_on n runs ends (merge_state m key value) ≡ merge_all most runs ends key value
calls-start n most runs ends key value m all made = rw all (ap (λ (x : Merging). merge_on most runs ends (merge_state x key value)) made)

-- the calls that are left come to the whole
module _ (runs ends : List ℕ) (whole : MergeState) (n : ℕ) (m : Merging) (key value : List ℕ)
    (rest : merge_on n runs ends (merge_state m key value) ≡ whole) where
  all : merge_state m key value ≡ whole → (m.sum ≡ whole.merging.sum) × ((key ≡ whole.key) × (value ≡ whole.value))
  all e = (ap (λ (s : MergeState). s.merging.sum) e, (ap (λ (s : MergeState). s.key) e, ap (λ (s : MergeState). s.value) e))

  pub calls-stop : m.on ≡ false → (m.sum ≡ whole.merging.sum) × ((key ≡ whole.key) × (value ≡ whole.value))
  calls-stop off = all (sym (stop runs ends (merge_state m key value) n off) ∙ rest)

  pub calls-none : n ≡ 0 → (m.sum ≡ whole.merging.sum) × ((key ≡ whole.key) × (value ≡ whole.value))
  unfolding merge_on
  calls-none over = all (sym (ap (λ (k : ℕ). merge_on k runs ends (merge_state m key value)) over) ∙ rest)

  pub calls-more : (k : ℕ) (m' : Merging) (key' value' : List ℕ) → n ≡ suc k → m.on ≡ true → m' ≡ (merge_one runs ends (merge_state m key value)).merging
      → (key' ≡ (merge_one runs ends (merge_state m key value)).key) × (value' ≡ (merge_one runs ends (merge_state m key value)).value)
      → merge_on k runs ends (merge_state m' key' value') ≡ whole
  calls-more k m' key' value' some on one put =
      let next = merge_one runs ends (merge_state m key value) in
      ap (λ (x : Merging). merge_on k runs ends (merge_state x key' value')) one
      ∙ ap (λ (x : List ℕ). merge_on k runs ends (merge_state next.merging x value')) put.0
      ∙ ap (λ (x : List ℕ). merge_on k runs ends (merge_state next.merging next.key x)) put.1
      ∙ sym (more runs ends (merge_state m key value) k on)
      ∙ sym (ap (λ (j : ℕ). merge_on j runs ends (merge_state m key value)) some)
      ∙ rest

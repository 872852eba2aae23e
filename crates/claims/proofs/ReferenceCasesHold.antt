-- The reference cases hold: one claim over the table. Each crate has computed the cases about its calls, and a table holds whose
-- cases of each kind do, so nothing is computed again. Assumes nothing.
use mathlib.Core.Path.{◌≡◌, refl, ap, ◌∙◌}
use mathlib.Core.List.{List, [], ◌∷◌, map}
use Rattle.page.specs.WalkTable as walks
use Rattle.page.proofs.WalksHold.{walk-table}
use Rattle.run.specs.RecordTable as records
use Rattle.run.proofs.RecordsHold.{record-table}
use Rattle.cursor.specs.ReferenceCases as merges
use Rattle.cursor.proofs.ReferenceCasesHold as merge-claims
use Rattle.alloc.specs.Rows as allocations
use Rattle.alloc.proofs.RowsHold.{rows-hold}
use Rattle.writer.specs.ReferenceCases as additions
use Rattle.writer.proofs.ReferenceCasesHold as addition-claims
use Rattle.claims.specs.ReferenceCases.{Case, addition, walk, allocation, merge, record_bytes, added, walked, allocated, merged, says, result_of, expected, reference_cases}

-- ---- lists that are the same

abbrev first : {A : Type 0} → A → List A → A
first d [] = d
first d (x ∷ xs) = x

abbrev rest : {A : Type 0} → List A → List A
rest [] = []
rest (x ∷ xs) = xs

same_first : {A : Type 0} {x y : A} {xs ys : List A} → x ∷ xs ≡ y ∷ ys → x ≡ y
same_first {x = x} same = ap (first x) same

same_rest : {A : Type 0} {x y : A} {xs ys : List A} → x ∷ xs ≡ y ∷ ys → xs ≡ ys
same_rest same = ap rest same

both : {A : Type 0} {x y : A} {xs ys : List A} → x ≡ y → xs ≡ ys → x ∷ xs ≡ y ∷ ys
both {A = A} {y = y} {xs = xs} front back = ap (λ (z : A). z ∷ xs) front ∙ ap (λ (zs : List A). y ∷ zs) back

-- ---- a table by the kinds of its cases

record Kinds : Type 0 where
  adds : List additions.Case
  steps : List walks.WalkCase
  rows : List allocations.Row
  runs : List merges.Case
  items : List records.RecordCase

abbrev put : Case → Kinds → Kinds
put (addition c) k = record { adds = c ∷ k.adds; steps = k.steps; rows = k.rows; runs = k.runs; items = k.items }
put (walk c) k = record { adds = k.adds; steps = c ∷ k.steps; rows = k.rows; runs = k.runs; items = k.items }
put (allocation c) k = record { adds = k.adds; steps = k.steps; rows = c ∷ k.rows; runs = k.runs; items = k.items }
put (merge c) k = record { adds = k.adds; steps = k.steps; rows = k.rows; runs = c ∷ k.runs; items = k.items }
put (record_bytes c) k = record { adds = k.adds; steps = k.steps; rows = k.rows; runs = k.runs; items = c ∷ k.items }

abbrev kinds : List Case → Kinds
kinds [] = record { adds = []; steps = []; rows = []; runs = []; items = [] }
kinds (c ∷ cs) = put c (kinds cs)

-- the cases of each kind hold
record Hold (k : Kinds) : Type 0 where
  h-adds : map additions.result_of k.adds ≡ map additions.expected k.adds
  h-steps : map walks.walk_outcome k.steps ≡ map (λ (c : walks.WalkCase). c.finds) k.steps
  h-rows : map allocations.result_of k.rows ≡ map (λ (c : allocations.Row). c.answers) k.rows
  h-runs : map merges.effects_of k.runs ≡ map merges.expected k.runs
  h-items : map records.record_outcome k.items ≡ map (λ (c : records.RecordCase). c.says ∷ []) k.items

-- so all of them do
holds : (cs : List Case) → Hold (kinds cs) → map result_of cs ≡ map expected cs
unfolding result_of expected
holds [] h = refl
holds (addition c ∷ cs) h =
    both (ap added (same_first h.h-adds))
    (holds cs (record { h-adds = same_rest h.h-adds; h-steps = h.h-steps; h-rows = h.h-rows; h-runs = h.h-runs; h-items = h.h-items }))
holds (walk c ∷ cs) h =
    both (ap walked (same_first h.h-steps))
    (holds cs (record { h-adds = h.h-adds; h-steps = same_rest h.h-steps; h-rows = h.h-rows; h-runs = h.h-runs; h-items = h.h-items }))
holds (allocation c ∷ cs) h =
    both (ap allocated (same_first h.h-rows))
    (holds cs (record { h-adds = h.h-adds; h-steps = h.h-steps; h-rows = same_rest h.h-rows; h-runs = h.h-runs; h-items = h.h-items }))
holds (merge c ∷ cs) h =
    both (ap merged (same_first h.h-runs))
    (holds cs (record { h-adds = h.h-adds; h-steps = h.h-steps; h-rows = h.h-rows; h-runs = same_rest h.h-runs; h-items = h.h-items }))
holds (record_bytes c ∷ cs) h =
    both (ap says (same_first h.h-items))
    (holds cs (record { h-adds = h.h-adds; h-steps = h.h-steps; h-rows = h.h-rows; h-runs = h.h-runs; h-items = same_rest h.h-items }))

-- all reference cases hold
pub reference-cases-all : map result_of reference_cases ≡ map expected reference_cases
unfolding reference_cases additions.reference_cases merges.reference_cases
reference-cases-all =
    holds reference_cases (record { h-adds = addition-claims.reference-cases-hold; h-steps = walk-table; h-rows = rows-hold; h-runs = merge-claims.reference-cases-hold; h-items = record-table })

-- The record that a head's values tell is the head's own. Assumes nothing.
use Rattle.std.specs.Prelude.{Ok, Err, Some}
use mathlib.Core.Path.{◌≡◌, sym, ap}
use mathlib.Core.Bool.{Bool}
use mathlib.Core.List.{[]}
use Rattle.types.specs.Answers.{answered}
use Rattle.types.specs.declared.refusal.Refusal.{Refusal}
use Rattle.types.proofs.TestLaws.{flag-back}
use Rattle.run.specs.Answers.{head_told, record_or}
use Rattle.run.specs.declared.record.Record.{Record}

-- with its kind told as 1 or 0
as-told : (r : Record) (t : Bool) → t ≡ r.deleted → ◌≡◌ {A = Record} r (record { deleted = t; key = r.key; value = r.value; next = r.next })
as-told r t e = ap (λ (s : Bool). record { deleted = s; key = r.key; value = r.value; next = r.next }) (sym e)

pub record-told : (r other : Record) → r ≡ record_or other (head_told (Ok (Some r)))
record-told r other = as-told r _ (flag-back r.deleted)

-- where no record is told, the other one is handed out as it is
pub other-told : (other : Record) → other ≡ record_or other (answered [])
other-told other = as-told other _ (flag-back other.deleted)

pub record-refused : (other : Record) (why : Refusal) → other ≡ record_or other (head_told (Err why))
record-refused other why = other-told other

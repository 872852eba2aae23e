-- The checks before a call's work, in their order (docs/RULES.md, Order of checks), and the work behind them. Assumes nothing.
use Rattle.std.specs.Prelude.{Bool, cond, Ok, Err, ⊤}
use Rattle.std.specs.declared.result.Result.{Result}
use Rattle.types.specs.declared.refusal.Corrupted.{Corrupted}
use Rattle.types.specs.declared.refusal.Refusal.{Refusal}

-- what checks come to: all is fine, or the refusal of the first that fails
abbrev pub Verdict : Type 0
Verdict = Result ⊤ Refusal

-- all is fine
abbrev pub fine : Verdict
fine = Ok tt

-- the refusal of what can be refused for one reason alone
abbrev pub corruption : Corrupted
corruption = record {}

-- a check that refuses where its test fails, and the checks after it
abbrev pub asking : Bool → Refusal → Verdict → Verdict
asking test why later = cond test later (Err why)

module _ {A : Type 0} where
  -- what the checks refuse, or the call's work
  abbrev pub refused_or : Verdict → (Refusal → A) → A → A
  refused_or (Err why) refused work = refused why
  refused_or (Ok done) refused work = work

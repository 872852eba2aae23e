-- A run reader: a run that it was lent, and a position in it. Assumes nothing.
use Rattle.std.specs.Prelude.{List, ℕ}
use Rattle.std.specs.Borrow.{Bor}
use Rattle.lent.specs.Steps.{step_at}
use Rattle.lent.specs.declared.reader.RunReader.{RunReader}
use Rattle.lent.specs.declared.step.Step.{Step}

abbrev pub reader_at : Bor (List ℕ) → ℕ → RunReader
reader_at run at = record { run = run; at = at }

-- what its next call finds
abbrev pub step_of : RunReader → Step
step_of r = step_at r.run.now r.at

-- where it stands after that call
abbrev pub moved_on : RunReader → RunReader
moved_on r = reader_at r.run (step_of r).at

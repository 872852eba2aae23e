-- `cursor::checks::good_runs`: the ends seen are good, so those that are left decide. Assumes nothing.
use mathlib.Core.Path.{◌≡◌}
use lib.ListN.{drop}
use Rattle.cursor.specs.Checks.{rising_ends, good_runs}
use Rattle.cursor.proofs.checks.good_runs.Given as goal

abbrev pub invariant-loop-to : goal.invariant-loop-to
invariant-loop-to l = rising_ends l.size l.from (drop l.to-index l.ends) ≡ good_runs l.size l.ends

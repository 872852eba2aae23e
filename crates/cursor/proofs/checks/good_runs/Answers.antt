-- `cursor::checks::good_runs`: the ends seen are good, so those that are left decide. Assumes nothing.
use Rattle.cursor.proofs.CheckLaws.{runs-many, runs-few, ends-none, end-bad, end-good}
use Rattle.cursor.proofs.checks.good_runs.Goals as goal

pub returns-then-ends-gt-FILE_COUNT : goal.returns-then-ends-gt-FILE_COUNT
returns-then-ends-gt-FILE_COUNT c = record { answers = runs-many _ _ c.if-ends-gt-FILE_COUNT.true }

pub loop-to-init : goal.loop-to-init
loop-to-init c = runs-few _ _ c.if-ends-gt-FILE_COUNT.false

pub returns-then-not-good : goal.returns-then-not-good
returns-then-not-good c = record { answers = end-bad _ _ _ _ _ c.loop-to.invariant c.loop-to-test.true c.if-not-good.true }

pub loop-to-preserved : goal.loop-to-preserved
loop-to-preserved c = end-good _ _ _ _ _ c.loop-to.invariant c.loop-to-test.true c.if-not-good.false

pub returns : goal.returns
returns c = record { answers = ends-none _ _ _ _ _ c.loop-to.invariant c.loop-to-test.false }

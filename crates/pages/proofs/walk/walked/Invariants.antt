-- Each step counts one chunk at most, of a page's bytes at most.
use Rattle.std.proofs.Common.{◌*◌, ◌≤◌}
use Rattle.pages.proofs.walk.walked.Given as goal

abbrev pub invariant-loop : goal.invariant-loop
invariant-loop l = (l.walk.chunks ≤ l.counter) × (l.walk.bytes ≤ l.counter * 4096)

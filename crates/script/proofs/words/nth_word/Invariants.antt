-- `script::words::nth_word`: the word sought from a later word on is the one sought. Assumes nothing.
use mathlib.Core.Path.{◌≡◌}
use Prim.Native.Nat.{◌-◌}
use lib.ListN.{drop}
use Rattle.script.specs.Words.{nth_word}
use Rattle.script.proofs.words.nth_word.Given as goal

abbrev pub invariant-loop : goal.invariant-loop
invariant-loop l = nth_word (l.k - l.counter) (drop l.at l.line) ≡ nth_word l.k l.line

abbrev pub decreases-loop : goal.decreases-loop
decreases-loop l = l.k - l.counter

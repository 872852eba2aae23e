-- `script::words::end_from`: the end sought from i on is the one sought. Assumes nothing.
use mathlib.Core.Path.{◌≡◌}
use Rattle.script.specs.Words.{end_from}
use Rattle.script.proofs.words.end_from.Given as goal

abbrev pub invariant-loop-i : goal.invariant-loop-i
invariant-loop-i l = end_from l.text l.i l.byte ≡ end_from l.text l.from l.byte

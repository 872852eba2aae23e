-- `digits::number::number_in`: the number read on from an index is the word's. Assumes nothing.
use Rattle.std.specs.Prelude.{Some}
use mathlib.Core.Path.{◌≡◌}
use lib.ListN.{drop}
use Rattle.digits.specs.Numbers.{read_digits}
use Rattle.digits.proofs.number.number_in.Given as goal

abbrev pub invariant-loop-d : goal.invariant-loop-d
invariant-loop-d l = read_digits l.base l.most (Some l.n) (drop l.d-index l.word) ≡ read_digits l.base l.most (Some 0) l.word

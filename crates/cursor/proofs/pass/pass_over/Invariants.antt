-- `cursor::pass::pass_over`: what is left of the pass comes to the whole pass. Assumes nothing.
use Rattle.std.specs.Range.Bound.{bound_map}
use Rattle.run.specs.Kinds.{kind_of, key_of}
use Rattle.cursor.specs.Pass.{pass_of}
use Rattle.cursor.proofs.PassLaws as laws
use Rattle.cursor.proofs.pass.pass_over.Given as goal

abbrev pub invariant-loop-i : goal.invariant-loop-i
invariant-loop-i l =
    let key = key_of (bound_map (λ x. x.now) l.upper) in
    laws.Rest l.runs l.ends (kind_of l.upper) key (pass_of l.runs l.ends (kind_of l.upper) key l.initial.places) l.i l.low
    (record { places = l.places; stepped = l.stepped; lowest = l.lowest })

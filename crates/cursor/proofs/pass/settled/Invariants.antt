-- `cursor::pass::settled`: the passes from the places reached come to the whole. Assumes nothing.
use Rattle.std.specs.Range.Bound.{bound_map}
use Rattle.run.specs.Kinds.{kind_of, key_of}
use Rattle.cursor.specs.Settle.{bytes_ahead, settled}
use Rattle.cursor.proofs.SettleLaws as laws
use Rattle.cursor.proofs.pass.settled.Given as goal

abbrev pub invariant-loop-pass : goal.invariant-loop-pass
invariant-loop-pass l =
    let key = key_of (bound_map (λ x. x.now) l.upper) in
    laws.Rest l.runs l.ends (kind_of l.upper) key l.places (settled l.runs l.ends (kind_of l.upper) key l.initial.places)

abbrev pub decreases-loop-pass : goal.decreases-loop-pass
decreases-loop-pass l = bytes_ahead l.ends l.places

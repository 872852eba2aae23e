-- `cursor::pass::pass_over`: what is left of the pass comes to the whole pass. Assumes nothing.
use mathlib.Core.Path.{◌≡◌, refl}
use Prim.Native.Nat.{◌-◌}
use native.Mathlib.Omega.{arith}
use lib.ListN.{length}
use Rattle.cursor.specs.Pass.{lowest_key, pass_of}
use Rattle.cursor.proofs.PassLaws as laws
use Rattle.cursor.proofs.pass.pass_over.Goals.{in-Gone, in-Above, in-Level, in-Below}
use Rattle.cursor.proofs.pass.pass_over.Goals as goal

pub loop-i-init : goal.loop-i-init
unfolding lowest_key pass_of
loop-i-init c =
    let ends = c.args.ends.now in
    let z : length ends - 0 ≡ length ends = omega arith in
    record { key = refl; comes = rw z }

pub loop-i-preserved : goal.loop-i-preserved
loop-i-preserved c =
    elim c.match-look.branch [
      | in-Gone w ↦
          rw (w.places-is, w.stepped-is, w.lowest-is, w.low-is)
          (laws.seen-gone _ _ _ _ _ _ _ _ c.loop-i.invariant c.loop-i-test.true _ c.run_of-run.ensures.answers _ c.look_at.ensures.answers (rw w.in-Gone.is at c.in-Ok.is))
      | in-Above w ↦
          rw (w.places-is, w.stepped-is, w.lowest-is, w.low-is)
          (laws.seen-above _ _ _ _ _ _ _ _ c.loop-i.invariant c.loop-i-test.true _ c.run_of-run.ensures.answers _ c.look_at.ensures.answers (rw w.in-Above.is at c.in-Ok.is))
      | in-Level w ↦
          rw (w.places-is, w.stepped-is, w.lowest-is, w.low-is)
          (laws.seen-level _ _ _ _ _ _ _ _ c.loop-i.invariant c.loop-i-test.true _ c.run_of-run.ensures.answers _ c.look_at.ensures.answers
          w.in-Level.same _ w.key_in-low.ensures.answers _ w.after.ensures.answers (rw w.in-Level.is at c.in-Ok.is))
      | in-Below w ↦
          rw (w.places-is, w.stepped-is, w.lowest-is, w.low-is)
          (laws.seen_below _ _ _ _ _ _ _ _ c.loop-i.invariant c.loop-i-test.true _ c.run_of-run.ensures.answers _ c.look_at.ensures.answers
          w.in-Below.lower _ w.key_in-low-in-Below.ensures.answers _ w.after-in-Below.ensures.answers (rw w.in-Below.is at c.in-Ok.is))
    ]

pub returns-in-Err : goal.returns-in-Err
returns-in-Err c =
    record {
      answers =
          laws.seen-refused _ _ _ _ _ _ _ _ c.loop-i.invariant c.loop-i-test.true _ c.run_of-run.ensures.answers _ c.look_at.ensures.answers _
          c.in-Err.is;
    }

pub returns : goal.returns
returns c = record { answers = laws.all_seen _ _ _ _ _ _ _ _ c.loop-i.invariant c.loop-i-test.false }

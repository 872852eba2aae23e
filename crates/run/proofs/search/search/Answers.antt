-- `run::search::search`: the search from the position reached comes to the whole search's answer. Assumes
-- nothing.
use Prim.Native.Nat.{suc}
use native.Mathlib.Omega.{arith}
use lib.ListN.{length}
use Rattle.std.proofs.lemmas.Result.{err_from_is_err_and}
use Rattle.run.proofs.SearchLaws as laws
use Rattle.run.proofs.search.search.Goals.{in-Included, in-Included-2}
use Rattle.run.proofs.search.search.Goals as goal

pub loop-record-init : goal.loop-record-init
loop-record-init c =
    elim c.match-lower.branch [
      | in-Included w ↦ rw w.key-is (suc (length c.args.run.now), omega arith, laws.sought-lent (λ x. x.now) _ _ _ w.in-Included.is)
      | in-Included-2 w ↦ rw w.key-is (suc (length c.args.run.now), omega arith, laws.sought-lent (λ x. x.now) _ _ _ w.in-Included.is)
    ]

pub returns-in_err-record : goal.returns-in_err-record
returns-in_err-record c =
    let e = err_from_is_err_and c.from_residual.result c.from_residual.ensures.1 in
    record { answers = rw (e.1, e.2) (laws.refused _ _ _ _ _ c.loop-record.invariant _ _ c.head_at.ensures.answers c.in_err-record.was) }

pub returns-in_default-2 : goal.returns-in_default-2
returns-in_default-2 c =
    record { answers = laws.ended _ _ _ _ _ c.loop-record.invariant _ c.head_at.ensures.answers (rw c.in_default-2.is at c.in_ok-record.was) }

pub loop-record-smaller : goal.loop-record-smaller
loop-record-smaller c =
    let n = laws.nearer _ _ _ _ _ c.loop-record.invariant _ _ c.head_at.ensures.answers (rw c.in-Some.is at c.in_ok-record.was) in omega arith

pub loop-record-preserved : goal.loop-record-preserved
loop-record-preserved c =
    laws.below _ _ _ _ _ c.loop-record.invariant _ _ c.head_at.ensures.answers (rw c.in-Some.is at c.in_ok-record.was) _ c.key_in.ensures.answers _
    c.compare.ensures.answers c.in-Less.is

pub returns-in-Equal : goal.returns-in-Equal
returns-in-Equal c =
    record {
      answers =
          rw c.level.ensures.answers
          (laws.level _ _ _ _ _ c.loop-record.invariant _ _ c.head_at.ensures.answers (rw c.in-Some.is at c.in_ok-record.was) _ c.key_in.ensures.answers _
          c.compare.ensures.answers c.in-Equal.is);
    }

pub returns-in-Greater : goal.returns-in-Greater
returns-in-Greater c =
    record {
      answers =
          laws.above _ _ _ _ _ c.loop-record.invariant _ _ c.head_at.ensures.answers (rw c.in-Some.is at c.in_ok-record.was) _ c.key_in.ensures.answers _
          c.compare.ensures.answers c.in-Greater.is;
    }

-- `run::search::search`: the search from the position reached comes to the whole search's answer. Assumes
-- nothing.
use Prim.Native.Nat.{◌-◌}
use lib.ListN.{length}
use Rattle.std.specs.Range.Bound.{bound_map}
use Rattle.run.specs.Kinds.{kind_of, key_of}
use Rattle.run.specs.Search.{search_in}
use Rattle.run.proofs.SearchLaws as laws
use Rattle.run.proofs.search.search.Given as goal

abbrev pub invariant-loop-record : goal.invariant-loop-record
invariant-loop-record l =
    laws.Rest l.run (kind_of l.lower) l.key l.at (search_in l.run (kind_of l.lower) (key_of (bound_map (λ x. x.now) l.lower)))

abbrev pub decreases-loop-record : goal.decreases-loop-record
decreases-loop-record l = length l.run - l.at

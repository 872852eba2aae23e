-- `cursor::checks::good_places`: each place with its number is asked for, as the definition asks for it. Assumes nothing.
use Rattle.std.proofs.Common.{rules, tests, arith, ◌∙◌}
use Rattle.std.proofs.lemmas.Iterator.{YieldsList-from_slice}
use Rattle.std.proofs.lemmas.Iterator.Consumers.{YieldsList-from_enumerate}
use Rattle.std.proofs.lemmas.Iterator.Search.{all_from_yields_List}
use Rattle.types.specs.Build.{file_count}
use Rattle.cursor.specs.Checks.{good_places}
use Rattle.cursor.proofs.CheckLaws.{NumberedGood, numbered}
use Rattle.cursor.proofs.checks.good_places.Goals as goal

pub returns : goal.returns
unfolding good_places
returns c =
    let ends = c.args.ends.now in
    let places = c.args.places in
    record {
      answers =
          all_from_yields_List (NumberedGood ends) _ _ c.all.result c.all.ensures.ran (YieldsList-from_enumerate (YieldsList-from_slice places (cc)) (cc)) (λ x b q k. search (rules, tests))
          ∙ numbered ends places file_count 0 (omega arith);
    }

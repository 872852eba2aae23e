use mathlib.Core.Path.{◌≡◌, sym, ◌∙◌}
use lib.Count.{ones}
use borrow.Author.Rules.{rules}
use Rattle.std.proofs.Common.{sum, map}
use Rattle.std.proofs.lemmas.List.Sums.{sum-map}
use Rattle.alloc.proofs.CountLaws.{count-all}
use Rattle.alloc.proofs.marks.count.Goals as goal

pub returns : goal.returns
returns c =
    record {
      answers =
          let added : c.sum.result ≡ sum (map ones c.args.bytes.now) = search rules in
          added ∙ sum-map ones c.args.bytes.now ∙ sym (count-all c.args.bytes.now (λ i. (c.type_inv.bytes i).fits));
    }

use Rattle.std.proofs.Common.{◌∙◌, ap, rules}
use Rattle.std.specs.Int.{w64, w128}
use Rattle.std.specs.Prelude.{FitsSigned}
use Rattle.std.proofs.lemmas.Int.{to_z-of_z}
use Rattle.agg_bank.specs.Fold.{memory_of}
use Rattle.agg_bank.specs.Open.{begin_at}
use Rattle.agg_bank.proofs.AggLemmas.{stands_new}
use Rattle.agg_bank.proofs.aggregator.Aggregator.new.Goals as goal

pub returns-clause-stands : goal.returns-clause-stands
returns-clause-stands c = λ aggregator.
    let fits : FitsSigned w128 c.begin_at_start.result = search rules in
    stands_new aggregator c.args.line c.args.start _ (memory_of c.new.result)
    (to_z-of_z w128 c.begin_at_start.result fits ∙ c.begin_at_start.ensures.value
    ∙ ap (begin_at c.args.line) (to_z-of_z w64 c.args.start c.ranges.start))
    c.new.ensures

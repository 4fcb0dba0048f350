use Rattle.std.proofs.Common.{◌++◌, ◌∷◌, [], subst}
use Rattle.agg_bank.specs.Bank.{FoldStands}
use Rattle.agg_bank.specs.Fold.{memory_of}
use Rattle.agg_bank.specs.Ready.{FoldIsReady}
use Rattle.agg_bank.specs.declared.fold.Fold.{Fold}
use Rattle.agg_bank.proofs.FoldLemmas.{stats_goes}
use Rattle.agg_bank.proofs.fold.Fold.add_prepared.Goals as goal

pub returns-in-Stats : goal.returns-in-Stats
returns-in-Stats c = λ word members m stands ready few.
    stats_goes c.in-Stats.stats c.add_prepared.new.self members (members ++ m ∷ [])
    (λ k held. c.add_prepared.ensures k members m held
    (subst (λ (fold : Fold). FoldIsReady m (memory_of fold)) c.in-Stats.is ready) few)
    word (subst (λ (fold : Fold). FoldStands word members (memory_of fold)) c.in-Stats.is stands)

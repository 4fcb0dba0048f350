use Rattle.std.proofs.Common.{subst}
use Rattle.agg_bank.specs.Bank.{FoldStands}
use Rattle.agg_bank.specs.Fold.{memory_of}
use Rattle.agg_bank.specs.declared.fold.Fold.{Fold}
use Rattle.agg_bank.proofs.FoldLemmas.{stats_goes}
use Rattle.agg_bank.proofs.fold.Fold.prepare.Goals as goal

pub returns-in-Stats-clause-stands : goal.returns-in-Stats-clause-stands
returns-in-Stats-clause-stands c = λ word members stands.
    stats_goes c.in-Stats.stats c.prepare.new.self members members
    (λ k held. c.prepare.ensures.stands k members held)
    word (subst (λ (fold : Fold). FoldStands word members (memory_of fold)) c.in-Stats.is stands)

use Rattle.std.proofs.Common.{◌≡◌, ℤ, List, subst, rules, IfOk}
use Rattle.std.specs.Int.{w64}
use Rattle.std.specs.Prelude.{FitsSigned}
use Rattle.std.proofs.lemmas.Int.{to_z-of_z}
use Rattle.metric.specs.declared.metric.Content.{Content}
use Rattle.agg_keep.specs.Final.{finals_of}
use Rattle.agg_stats.specs.Folds.{stats_of}
use Rattle.agg_bank.specs.Bank.{FoldStands}
use Rattle.agg_bank.specs.Fold.{memory_of}
use Rattle.agg_bank.specs.declared.fold.Fold.{Fold}
use Rattle.agg_bank.proofs.FoldLemmas.{final_made, stats_made}
use Rattle.agg_bank.proofs.fold.Fold.made.Goals as goal

pub returns-in-Stats : goal.returns-in-Stats
returns-in-Stats c = λ word members stands.
    stats_made c.in-Stats.stats (λ (ms : List Content). IfOk c.made.result (λ made. made.items ≡ ms)) c.args.time
    c.args.closing members
    (λ k held. subst (λ (time : ℤ). IfOk c.made.result (λ made. made.items ≡ stats_of k time members))
    (to_z-of_z w64 c.args.time c.ranges.time) (c.made.ensures k members held))
    word (subst (λ (fold : Fold). FoldStands word members (memory_of fold)) c.in-Stats.is stands)

pub returns-in-Final : goal.returns-in-Final
returns-in-Final c = λ word members stands.
    let closing = c.args.closing in
    let fits : FitsSigned w64 closing.moment = search rules in
    final_made c.in-Final.last (λ (ms : List Content). IfOk c.made-in-Final.result (λ made. made.items ≡ ms))
    c.args.time closing members
    (λ timeout held. subst (λ (moment : ℤ). IfOk c.made-in-Final.result (λ made. made.items
    ≡ finals_of timeout (record closing { moment = moment }) members))
    (to_z-of_z w64 closing.moment fits) (c.made-in-Final.ensures timeout members held))
    word (subst (λ (fold : Fold). FoldStands word members (memory_of fold)) c.in-Final.is stands)

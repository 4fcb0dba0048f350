use Rattle.std.proofs.Common.{ℤ, subst, rules}
use Rattle.std.specs.Int.{w64}
use Rattle.std.specs.Prelude.{FitsSigned}
use Rattle.std.proofs.lemmas.Int.{to_z-of_z}
use Rattle.agg_keep.specs.Final.{left_of}
use Rattle.agg_keep.specs.FinalKept.{FinalStandsFor}
use Rattle.agg_bank.specs.Bank.{FoldStands}
use Rattle.agg_bank.specs.Fold.{memory_of}
use Rattle.agg_bank.specs.declared.fold.Fold.{Fold}
use Rattle.agg_bank.proofs.FoldLemmas.{final_forget, stats_forget}
use Rattle.agg_bank.proofs.fold.Fold.forget.Goals as goal

pub returns-in-Stats : goal.returns-in-Stats
returns-in-Stats c = λ word members stands.
    stats_forget c.in-Stats.stats c.forget.new.self c.args.closing members
    (λ k held. c.forget.ensures k members held)
    word (subst (λ (fold : Fold). FoldStands word members (memory_of fold)) c.in-Stats.is stands)

pub returns-in-Final : goal.returns-in-Final
returns-in-Final c = λ word members stands.
    let closing = c.args.closing in
    let fits : FitsSigned w64 closing.moment = search rules in
    final_forget c.in-Final.last c.forget-in-Final.new.self closing members
    (λ timeout held. subst
    (λ (moment : ℤ). FinalStandsFor timeout (left_of timeout (record closing { moment = moment }) members)
    c.forget-in-Final.new.self)
    (to_z-of_z w64 closing.moment fits) (c.forget-in-Final.ensures timeout members held))
    word (subst (λ (fold : Fold). FoldStands word members (memory_of fold)) c.in-Final.is stands)

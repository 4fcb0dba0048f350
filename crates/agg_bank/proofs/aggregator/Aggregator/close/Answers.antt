use Rattle.std.proofs.Common.{◌≡◌, ◌∙◌, ℤ, Bool, ap, subst, sym, rules}
use Rattle.std.proofs.lemmas.Int.{to_z-of_z}
use Rattle.std.specs.Int.{w128}
use Rattle.std.specs.Prelude.{FitsSigned}
use Rattle.agg_bank.specs.Bank.{AggMemory, AggStands, FoldStands}
use Rattle.agg_bank.specs.Fold.{memory_of}
use Rattle.agg_bank.specs.Members.{left}
use Rattle.agg_bank.specs.Open.{begin_after}
use Rattle.agg_bank.specs.Ready.{closes_at, closing_if}
use Rattle.agg_bank.proofs.AggLemmas.{agg, stands_closed}
use Rattle.agg_bank.proofs.aggregator.Aggregator.close.Goals as goal

pub returns-clause-stands : goal.returns-clause-stands
returns-clause-stands c = λ aggregator start events stop stands.
    let i = c.self.inside in
    let closing = c.args.closing in
    let fits : FitsSigned w128 i.begin = search rules in
    let now_fits : FitsSigned w128 c.begin_after-self-inside.result = search rules in
    let closes : c.closes-closes.result
    ≡ closes_at c.args.stopped (agg i.line i.begin (memory_of i.fold)) closing.moment closing.all =
    c.closes-closes.ensures
    ∙ ap (λ (m : AggMemory). closes_at c.args.stopped m closing.moment closing.all) (sym c.self.view_is) in
    stands_closed aggregator i.line start events i.begin (memory_of i.fold) c.args.stopped stop
    (subst (AggStands aggregator start events) (sym c.self.view_is) stands) c.self.invariant.line closing.moment
    closing.all _ (memory_of c.forget_where.new.self)
    (to_z-of_z w128 c.begin_after-self-inside.result now_fits ∙ c.begin_after-self-inside.ensures.value
    ∙ ap (λ (begin : ℤ). begin_after i.line begin closing.moment closing.all) (to_z-of_z w128 i.begin fits))
    (λ word ms held. subst (λ closing. FoldStands word (left word closing ms) (memory_of c.forget_where.new.self))
    (ap (λ (t : Bool). closing_if t closing.moment closing.all) closes)
    (c.forget_where.ensures word ms held))

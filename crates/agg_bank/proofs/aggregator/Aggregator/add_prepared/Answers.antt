use Rattle.std.proofs.Common.{◌≡◌, ◌∙◌, true, subst, sym}
use Rattle.agg_bank.specs.Bank.{AggMemory, AggStands}
use Rattle.agg_bank.specs.Fold.{memory_of}
use Rattle.agg_bank.specs.Ready.{takes_at, FoldCanAdd, IsReadyFor}
use Rattle.agg_bank.proofs.AggLemmas.{can_add, stands_added, stands_passed}
use Rattle.agg_bank.proofs.aggregator.Aggregator.add_prepared.Goals as goal

pub returns-then-not-takes-clause-stands : goal.returns-then-not-takes-clause-stands
returns-then-not-takes-clause-stands c = λ aggregator start events views is stop few stands.
    let m = c.args.self.now in
    stands_passed aggregator m.line start events m.begin m.fold c.args.stopped stop stands views c.args.view.now is
    (sym c.takes.ensures ∙ c.if-not-takes.true)

pub add_prepared-requires : goal.add_prepared-requires
add_prepared-requires c =
    subst (λ (m : AggMemory). FoldCanAdd m.fold) (sym c.self.view_is)
    (can_add c.args.stopped c.args.self.now c.args.view.now c.requires (sym c.takes.ensures ∙ c.if-not-takes.false))

pub returns-clause-stands : goal.returns-clause-stands
returns-clause-stands c = λ aggregator start events views is stop few stands.
    let i = c.self.inside in
    stands_added aggregator i.line start events i.begin (memory_of i.fold) c.args.stopped stop
    (subst (AggStands aggregator start events) (sym c.self.view_is) stands) views c.args.view.now
    (memory_of c.add_prepared.new.self) is
    (subst (λ (m : AggMemory). takes_at c.args.stopped m c.args.view.now ≡ true) (sym c.self.view_is)
    (sym c.takes.ensures ∙ c.if-not-takes.false))
    (subst (IsReadyFor c.args.stopped c.args.view.now) (sym c.self.view_is) c.requires) few c.add_prepared.ensures

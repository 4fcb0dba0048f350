use Rattle.std.proofs.Common.{◌∙◌, refl, subst, sym}
use Rattle.agg_bank.specs.Bank.{AggMemory}
use Rattle.agg_bank.specs.Fold.{memory_of}
use Rattle.agg_bank.specs.Ready.{Keeps}
use Rattle.agg_bank.proofs.AggLemmas.{agg, ready_none, ready_some, ready_untaken}
use Rattle.agg_bank.proofs.aggregator.Aggregator.prepare.Goals as goal

pub returns-in_default-clause-ready : goal.returns-in_default-clause-ready
returns-in_default-clause-ready c = ready_none c.args.stopped c.args.self.now c.args.view.now c.in_default.is

pub returns-then-not-takes-clause-ready : goal.returns-then-not-takes-clause-ready
returns-then-not-takes-clause-ready c =
    ready_untaken c.args.stopped c.args.self.now c.args.view.now (sym c.takes.ensures ∙ c.if-not-takes.true)

pub returns-in_err-prepare-clause-keeps : goal.returns-in_err-prepare-clause-keeps
returns-in_err-prepare-clause-keeps c =
    subst (λ (old : AggMemory). Keeps old (agg c.self.inside.line c.self.inside.begin (memory_of c.prepare.new.self)))
    c.self.view_is (record { line = refl; begin = refl; fold = c.prepare.ensures.stands })

pub returns-clause-keeps : goal.returns-clause-keeps
returns-clause-keeps c =
    subst (λ (old : AggMemory). Keeps old (agg c.self.inside.line c.self.inside.begin (memory_of c.prepare.new.self)))
    c.self.view_is (record { line = refl; begin = refl; fold = c.prepare.ensures.stands })

pub returns-clause-ready : goal.returns-clause-ready
returns-clause-ready c =
    ready_some c.args.stopped (agg c.self.inside.line c.self.inside.begin (memory_of c.prepare.new.self))
    c.args.view.now c.in-Some.m c.in-Some.is c.in_ok-prepare.ensures.ready

use Rattle.std.proofs.Common.{◌≡◌, ◌∙◌, true, false, Some, None, Option, sym, ap, subst}
use Rattle.std.specs.Prelude.{IfOk, IfSome}
use Rattle.std.specs.Option.{option_map}
use Rattle.metric_filter.specs.Filter.{keeps_all, left, selects, with_fields}
use Rattle.metric_filter.specs.Kept.{metric_of}
use Rattle.metric_filter.specs.declared.kept.Kept.{Kept}
use Rattle.proc_chain.specs.Chain.{StageStands, StageState}
use Rattle.proc_chain.specs.Seen.{passing, GoesOn, StageSees}
use Rattle.proc_chain.specs.Stage.{memory_of, work_of}
use Rattle.proc_chain.specs.Steps.{leaves_as_is}
use Rattle.proc_chain.specs.declared.stage.Seen.TheVariants.{Passes, Removed}
use Rattle.proc_chain.specs.declared.step.Step.{Step}
use Rattle.proc_chain.proofs.GoingLemmas.{passed_by, worked_on}
use Rattle.proc_chain.proofs.SeenLemmas.{emptied, given_on, unselected}
use Rattle.proc_chain.proofs.stage.Stage.look.Goals as goal

pub returns-then-not-selects-clause-sees : goal.returns-then-not-selects-clause-sees
returns-then-not-selects-clause-sees c = λ list.
    let step : Step = record { filter = c.self.inside.filter.now; work = work_of c.self.inside.work } in
    let memory = memory_of c.self.inside.work in
    let refused : selects step.filter (metric_of c.args.m) ≡ false =
    ap (selects step.filter) (sym c.metric.ensures) ∙ sym c.selects.ensures ∙ c.if-not-selects.true in
    subst (λ (s : StageState). StageStands s list → StageSees s list (metric_of c.args.m) (Passes c.args.m) s)
    c.self.view_is (unselected step memory memory list c.args.m refused)

pub returns-then-not-selects-clause-goes_on : goal.returns-then-not-selects-clause-goes_on
returns-then-not-selects-clause-goes_on c =
    let step : Step = record { filter = c.self.inside.filter.now; work = work_of c.self.inside.work } in
    let refused : selects step.filter (metric_of c.args.m) ≡ false =
    ap (selects step.filter) (sym c.metric.ensures) ∙ sym c.selects.ensures ∙ c.if-not-selects.true in
    subst (λ (s : StageState). GoesOn (leaves_as_is s.step (metric_of c.args.m)) c.args.m c.args.m)
    c.self.view_is (passed_by step c.args.m refused)

pub returns-in_default-clause-sees : goal.returns-in_default-clause-sees
returns-in_default-clause-sees c = λ list.
    let step : Step = record { filter = c.self.inside.filter.now; work = work_of c.self.inside.work } in
    let memory = memory_of c.self.inside.work in
    let chosen : selects step.filter (metric_of c.args.m) ≡ true =
    ap (selects step.filter) (sym c.metric.ensures) ∙ sym c.selects.ensures ∙ c.if-not-selects.false in
    let none : with_fields (left step.filter (metric_of c.args.m)) ≡ None =
    sym c.in_ok-m.ensures.answer ∙ ap (option_map metric_of) c.in_default.is in
    subst (λ (s : StageState). StageStands s list → StageSees s list (metric_of c.args.m) Removed s)
    c.self.view_is (emptied step memory memory list (metric_of c.args.m) chosen none)

pub returns-clause-sees : goal.returns-clause-sees
returns-clause-sees c = λ list.
    let step : Step = record { filter = c.self.inside.filter.now; work = work_of c.look.new.work } in
    let new : StageState = record { step = step; memory = memory_of c.look.new.work } in
    let chosen : selects step.filter (metric_of c.args.m) ≡ true =
    ap (selects step.filter) (sym c.metric.ensures) ∙ sym c.selects.ensures ∙ c.if-not-selects.false in
    let some : with_fields (left step.filter (metric_of c.args.m)) ≡ Some (metric_of c.in-Some.m) =
    sym c.in_ok-m.ensures.answer ∙ ap (option_map metric_of) c.in-Some.is in
    subst (λ (s : StageState). StageStands s list
    → IfOk c.look.result (λ seen. StageSees s list (metric_of c.args.m) seen new)) c.self.view_is
    (given_on c.self.inside.filter.now (work_of c.self.inside.work) (work_of c.look.new.work)
    (memory_of c.self.inside.work) (memory_of c.look.new.work) list (metric_of c.args.m) (metric_of c.in-Some.m)
    c.look.result c.look.ensures.work chosen some c.look.ensures.sees)

pub returns-clause-goes_on : goal.returns-clause-goes_on
returns-clause-goes_on c =
    let step : Step = record { filter = c.self.inside.filter.now; work = work_of c.self.inside.work } in
    let chosen : selects step.filter (metric_of c.args.m) ≡ true =
    ap (selects step.filter) (sym c.metric.ensures) ∙ sym c.selects.ensures ∙ c.if-not-selects.false in
    let left : GoesOn (keeps_all step.filter (metric_of c.args.m)) c.args.m c.in-Some.m =
    subst (λ (o : Option Kept). IfSome o (GoesOn (keeps_all step.filter (metric_of c.args.m)) c.args.m)) c.in-Some.is
    c.in_ok-m.ensures.goes_on in
    subst (λ (s : StageState). IfOk c.look.result
    (λ seen. IfSome (passing seen) (GoesOn (leaves_as_is s.step (metric_of c.args.m)) c.args.m))) c.self.view_is
    (worked_on step c.args.m c.in-Some.m c.look.result chosen left c.look.ensures.goes_on)

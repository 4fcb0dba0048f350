use Rattle.std.proofs.Common.{◌≡◌, ◌∙◌, ◌∷◌, ◌++◌, [], List, ap, subst, sym, rules}
use Rattle.std.specs.List.{AllByRecursion}
use Rattle.std.specs.declared.option.Option.{Option}
use Rattle.std.specs.declared.option.Option.TheVariants.{None}
use Rattle.metric.specs.declared.metric.Content.{Content}
use Rattle.account.specs.Views.{HasViews}
use Rattle.account.specs.declared.entry.Verdict.{Verdict}
use Rattle.pipeline_core.specs.CoreState.{CoreState}
use Rattle.pipeline_core.specs.Stands.{Continues}
use Rattle.pipeline_core.specs.Steps.{after_route, route_entry}
use Rattle.pipeline_core.specs.declared.routing.Routed.{Routed}
use Rattle.journal_text.specs.Known.{IsKnownRoute}
use Rattle.journal_text.specs.declared.known.Known.{Known}
use Rattle.agent_workers.specs.Item.{TakesNext, proc_of, routed_by}
use Rattle.agent_workers.specs.Running.{IsRoutable}
use Rattle.agent_workers.proofs.OutLemmas.{has_views, item_fewer, item_routed, marked_first, ready_routed, sees_nothing}
use Rattle.agent_workers.proofs.ProgressLemmas.{went_item, went_open}
use Rattle.agent_workers.specs.Progress.{with_known, Progress}
use Rattle.agent_workers.proofs.StandingLemmas.{continues}
use Rattle.agent_workers.proofs.item.route_next.Given.{Over}
use Rattle.agent_workers.proofs.item.route_next.Goals.{In_ok-route}
use Rattle.agent_workers.proofs.item.route_next.Goals as goal

takes : (g : Over) (c : In_ok-route g) → TakesNext c.args.core.now c.take_next.new.core c.in-Some.item
takes g c = search rules

-- how the item is routed
abbrev routing : (g : Over) → In_ok-route g → Routed
routing g c = routed_by (proc_of c.args.proc.now) c.in-Some.item c.in_ok-planned.planned.routed.whole

-- what became of it
abbrev verdict : (g : Over) → In_ok-route g → Verdict
verdict g c = c.in_ok-route.field-0

routed : (g : Over) (c : In_ok-route g)
    → c.route.new.self ≡ after_route c.take_next.new.core (routing g c) (verdict g c) c.route.new.self.bank
routed g c = c.in_ok-route.ensures.ok ∙ ap (λ (r : Routed). after_route c.take_next.new.core r (verdict g c)
    c.route.new.self.bank) c.in_ok-planned.ensures.routed

routes : (g : Over) (c : In_ok-route g) → Continues c.take_next.new.core c.route.new.self
    (route_entry c.take_next.new.core (routing g c) (verdict g c))
routes g c = subst (λ (r : Routed). Continues c.take_next.new.core c.route.new.self
    (route_entry c.take_next.new.core r (verdict g c))) c.in_ok-planned.ensures.routed c.in_ok-route.ensures.stands

-- so much is known of its Route
known : (g : Over) (c : In_ok-route g) → IsKnownRoute c.in_ok-planned.planned.known (c.in-Some.item.metric ∷ [])
    c.in_ok-planned.planned.routed.whole (routing g c).aggs (routing g c).outs
known g c = subst (λ (r : Routed). IsKnownRoute c.in_ok-planned.planned.known (c.in-Some.item.metric ∷ [])
    c.in_ok-planned.planned.routed.whole r.aggs r.outs) c.in_ok-planned.ensures.routed c.in_ok-planned.ensures.known

kept : (g : Over) (c : In_ok-route g) → IsRoutable c.args.core.now c.route.new.self
kept g c = item_routed c.args.core.now c.take_next.new.core c.route.new.self c.in-Some.item
    (proc_of c.args.proc.now) c.in_ok-planned.planned.routed.whole (verdict g c) c.route.new.self.bank (takes g c)
    (routed g c)

pub route-requires-clause-views : goal.route-requires-clause-views
route-requires-clause-views g c = subst (λ (r : Routed). HasViews r.whole (r.aggs ++ r.outs))
    (sym c.in_ok-planned.ensures.routed)
    (has_views (proc_of c.args.proc.now) c.in-Some.item c.in_ok-planned.planned.routed.whole)

pub route-requires-clause-made : goal.route-requires-clause-made
route-requires-clause-made g c = λ made. subst (λ (r : Routed). AllByRecursion (λ (view : Option Content). view ≡ None)
    r.aggs) (sym c.in_ok-planned.ensures.routed)
    (sees_nothing (proc_of c.args.proc.now).aggs c.in-Some.item c.in_ok-planned.planned.routed.whole
    (marked_first c.args.core.now c.take_next.new.core c.in-Some.item (search rules) made))

pub returns-clause-rests : goal.returns-clause-rests
returns-clause-rests g c =
    let k = (goal.at.returns-clause-rests g c).In_ok-route in record {
      ready = ready_routed c.args.core.now c.route.new.self c.requires.rests.ready (kept g k) (search rules);
      stands = continues (routes g k) (continues (takes g k).continues c.requires.rests.stands);
    }

pub returns-clause-kept : goal.returns-clause-kept
returns-clause-kept g c = kept g ((goal.at.returns-clause-kept g c).In_ok-route)

pub returns-clause-fewer : goal.returns-clause-fewer
returns-clause-fewer g c = λ more.
    let k = (goal.at.returns-clause-fewer g c).In_ok-route in
    item_fewer c.args.core.now c.take_next.new.core c.route.new.self c.in-Some.item (proc_of c.args.proc.now)
    c.in_ok-planned.planned.routed.whole (verdict g k) c.route.new.self.bank (takes g k) (routed g k)

-- none was raw
pub returns-in_default-clause-goes : goal.returns-in_default-clause-goes
returns-in_default-clause-goes g c = λ start now ticked fresh stays w.
    let same : c.take_next.new.core ≡ c.args.core.now = search rules in
    subst (λ (core : CoreState). Progress start (record now {
      core = core;
      proc = proc_of c.args.proc.now;
      journal = with_known now.journal c.args.known.now.items;
      ticked = ticked;
      still = 0;
    })) (sym same)
    (went_open start (record now {
      core = c.args.core.now;
      proc = proc_of c.args.proc.now;
      journal = with_known now.journal c.args.known.now.items;
    }) ticked (λ t. (stays t).0) w)

pub returns-clause-goes : goal.returns-clause-goes
returns-clause-goes g c = λ start now ticked fresh stays w.
    let k = (goal.at.returns-clause-goes g c).In_ok-route in
    subst (λ (ks : List Known). Progress start (record now {
      core = c.route.new.self;
      proc = proc_of c.routing.new.proc;
      journal = with_known now.journal ks;
      ticked = ticked;
      still = 0;
    })) (sym {A = List Known} c.in_ok-push_back.ensures.items)
    (went_item start c.args.core.now c.take_next.new.core c.route.new.self now (proc_of c.args.proc.now)
    (proc_of c.routing.new.proc) c.in-Some.item c.in_ok-planned.planned.routed.whole (verdict g k)
    c.args.known.now.items c.in_ok-planned.planned.known ticked fresh stays (takes g k) (routed g k) (routes g k)
    c.in_ok-planned.ensures.makes c.routing.ensures.same (known g k) w)

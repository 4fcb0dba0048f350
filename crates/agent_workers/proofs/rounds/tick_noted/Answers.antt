use Rattle.std.proofs.Common.{◌≡◌, ◌∙◌, [], ap, subst, sym, refl, rules}
use Rattle.std.proofs.lemmas.Int.{to_z-of_z}
use Rattle.std.specs.Prelude.{ℤ}
use mir.Syntax.{w64}
use mir.Val.{of_z, to_z}
use Rattle.pipeline_core.specs.CoreState.{CoreState}
use Rattle.pipeline_core.specs.Moments.{IsTickedAt}
use Rattle.agent_workers.specs.Item.{proc_of}
use Rattle.agent_workers.specs.Noted.{part_of}
use Rattle.agent_workers.specs.Running.{IsRoutable}
use Rattle.agent_workers.proofs.RoundSteps.{ticks_none, ticks_routed}
use Rattle.agent_workers.proofs.OutLemmas.{routable_more, routable_same}
use Rattle.agent_workers.proofs.PartsLemmas.{proc_fits, proc_itself}
use Rattle.agent_workers.proofs.TickLemmas.{made_ticked, none_aggs, none_marked, ticked_kept, ticked_rests}
use Rattle.agent_workers.proofs.rounds.tick_noted.Given.{Over}
use Rattle.agent_workers.proofs.rounds.tick_noted.Goals.{In_ok-tick}
use Rattle.agent_workers.proofs.rounds.tick_noted.Goals as goal

-- the core ticked at the moment that the timer gave
ticked : (g : Over) (c : In_ok-tick g) → IsTickedAt c.now-moment.result c.args.core.now c.tick.new.self
ticked g c = subst (λ (m : ℤ). IsTickedAt m c.args.core.now c.tick.new.self)
    (to_z-of_z w64 c.now-moment.result (search rules)) c.in_ok-tick.ensures.ok

none : (g : Over) (c : In_ok-tick g) → c.args.core.now.made ≡ []
none g c = none_marked c.args.core.now c.requires.running.stands c.requires.running.ready.empty_handed c.requires.none

kept : (g : Over) (c : In_ok-tick g) → IsRoutable c.args.core.now c.tick.new.self
kept g c = ticked_kept c.now-moment.result c.args.core.now c.tick.new.self (ticked g c) (none g c)

pub route_where_raw-requires-clause-rests : goal.route_where_raw-requires-clause-rests
route_where_raw-requires-clause-rests g c = ticked_rests (to_z w64 (of_z w64 c.now-moment.result)) c.args.core.now
    c.tick.new.self c.in_ok-tick.ensures.ok c.requires.running

pub route_where_raw-requires-clause-fit : goal.route_where_raw-requires-clause-fit
route_where_raw-requires-clause-fit g c = proc_fits c.args.core.now c.tick.new.self (proc_of c.args.proc.now)
    (proc_of c.args.proc.now) c.requires.fit (ap (λ (s : CoreState). s.setup) c.in_ok-tick.ensures.ok.after)
    (proc_itself (proc_of c.args.proc.now))

pub returns-clause-running : goal.returns-clause-running
returns-clause-running g c = record {
  ready = c.in_ok-made.ensures.rests.ready;
  stands = c.in_ok-made.ensures.rests.stands;
  going = c.in_ok-made.ensures.kept.stopped ∙ (kept g ((goal.at.returns-clause-running g c).In_ok-tick)).stopped
      ∙ c.requires.running.going;
}

pub returns-clause-kept : goal.returns-clause-kept
returns-clause-kept g c = routable_more c.args.core.now c.tick.new.self c.route_where_raw.new.core
    (kept g ((goal.at.returns-clause-kept g c).In_ok-tick)) c.in_ok-made.ensures.kept

pub returns-clause-ticks : goal.returns-clause-ticks
returns-clause-ticks g c =
    let k = (goal.at.returns-clause-ticks g c).In_ok-tick in
    ticks_routed c.in_ok-made.made c.args.core.now c.tick.new.self c.route_where_raw.new.core (proc_of c.args.proc.now)
    (proc_of c.route_where_raw.new.proc) (part_of g.K.Sink.told c.args.journal.now)
    (part_of g.K.Sink.told c.route_where_raw.new.journal) (g.C.Clock.told c.args.timer.now)
    (g.C.Clock.told c.now-moment.new.self) c.now-moment.result (ticked g k)
    (made_ticked c.now-moment.result c.args.core.now c.tick.new.self (ticked g k) (none g k)) c.now-moment.ensures.gives
    c.in_ok-made.ensures.routes

pub returns-then-is_empty-clause-kept : goal.returns-then-is_empty-clause-kept
returns-then-is_empty-clause-kept g c =
    routable_same c.args.core.now c.args.core.now refl refl refl refl refl (λ all. all)

pub returns-then-is_empty-clause-ticks : goal.returns-then-is_empty-clause-ticks
returns-then-is_empty-clause-ticks g c =
    ticks_none c.args.core.now (proc_of c.args.proc.now) (part_of g.K.Sink.told c.args.journal.now)
    (g.C.Clock.told c.args.timer.now)
    (none_aggs c.args.core.now.setup c.args.proc.now.aggs.now (sym c.is_empty.ensures ∙ c.if-is_empty.true)
    c.requires.fit.aggs)

-- where nothing was made the groups are as before
pub returns-clause-quiet : goal.returns-clause-quiet
returns-clause-quiet g c = λ none.
    let quiet = c.in_ok-made.ensures.quiet none in
    record {
      tracker = quiet.tracker ∙ ap (λ (s : CoreState). s.tracker) c.in_ok-tick.ensures.ok.after;
      raw = c.in_ok-made.ensures.none ∙ sym c.requires.none;
    }

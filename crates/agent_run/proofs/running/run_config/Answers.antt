use Rattle.std.proofs.Common.{map, subst}
use Rattle.agent_run.specs.PlaceLists.{IsLeftUnopened, in_places, out_places}
use Rattle.agent_workers.specs.Opened.{carried_by, timed_by}
use Rattle.agent_run.specs.declared.places.Unopened.{Unopened}
use Rattle.agent_run.proofs.RunningLemmas.{all_first, are_out, ins_home_but, only_named, opened_same, out_along}
use Rattle.agent_run.proofs.RunningLemmas.{outs_home_but, refused_by, runs}
use Rattle.agent_run.proofs.PlaceLemmas.{same_home}
use Rattle.agent_run.proofs.running.run_config.Goals as goal

pub run_opened-inputs-requires-clause-first : goal.run_opened-inputs-requires-clause-first
run_opened-inputs-requires-clause-first g c κs within =
    all_first c.args.config.now _ _ c.clocks_of-clocks.ensures.inputs

pub give_read-requires-clause-out : goal.give_read-requires-clause-out
give_read-requires-clause-out g c κs within =
    let mid = g.W.World.view c.clocks_of-clocks.new.world in
    let opened_at = g.W.World.view c.open_places.new.world in
    out_along (in_places c.args.config.now) mid.ins (g.W.World.view c.run_opened-inputs.new.world).ins
    (out_along (in_places c.args.config.now) opened_at.ins mid.ins (are_out (in_places c.args.config.now) _
    (g.W.World.view c.args.world.now).ins opened_at.ins c.in-Ok-open_places.ensures.opened.inputs)
    c.clocks_of-clocks.ensures.only.ins) c.run_opened-inputs.ensures.only.ins

pub returns-in-Ok-open_places-clause-ends : goal.returns-in-Ok-open_places-clause-ends
returns-in-Ok-open_places-clause-ends g c = λ ne.
    let opened = c.in-Ok-open_places.opened in
    runs c.args.config.now c.run_opened-inputs.result.1 (g.W.World.view c.args.world.now)
    (g.W.World.view c.open_places.new.world) (g.W.World.view c.clocks_of-clocks.new.world)
    (g.W.World.view c.run_opened-inputs.new.world) (g.W.World.view c.give_read.new.world)
    (carried_by g.W.In.Source.told g.W.Out.Sink.told opened) c.in-Ok-open_places.ensures.opened
    (timed_by g.W.Clk.Clock.told c.clocks_of-clocks.result)
    (map g.W.In.Source.told c.run_opened-inputs.result.0.items) c.clocks_of-clocks.ensures.inputs
    c.clocks_of-clocks.ensures.timer_moments c.clocks_of-clocks.ensures.only.report
    c.give_read.ensures.given c.give_read.ensures.only c.run_opened-inputs.ensures.ends

pub returns-in-Ok-open_places-clause-only : goal.returns-in-Ok-open_places-clause-only
returns-in-Ok-open_places-clause-only g c =
    let opened = c.in-Ok-open_places.opened in
    only_named c.args.config.now c.run_opened-inputs.result.1 (g.W.World.view c.args.world.now)
    (g.W.World.view c.open_places.new.world) (g.W.World.view c.clocks_of-clocks.new.world)
    (g.W.World.view c.run_opened-inputs.new.world) (g.W.World.view c.give_read.new.world)
    (carried_by g.W.In.Source.told g.W.Out.Sink.told opened) c.in-Ok-open_places.ensures.opened
    (map g.W.In.Source.told c.run_opened-inputs.result.0.items)
    c.clocks_of-clocks.ensures.only.ins c.clocks_of-clocks.ensures.only.outs c.clocks_of-clocks.ensures.others
    c.run_opened-inputs.ensures.only c.give_read.ensures.given c.give_read.ensures.only

pub returns-in-Ok-open_places-clause-opened : goal.returns-in-Ok-open_places-clause-opened
returns-in-Ok-open_places-clause-opened g c = λ other short.
    let opened = c.in-Ok-open_places.opened in
    opened_same c.args.config.now c.run_opened-inputs.result.1 (g.W.World.view c.args.world.now)
    (g.W.World.view c.open_places.new.world) (g.W.World.view c.clocks_of-clocks.new.world)
    (g.W.World.view c.run_opened-inputs.new.world) (g.W.World.view c.give_read.new.world)
    (carried_by g.W.In.Source.told g.W.Out.Sink.told opened) c.in-Ok-open_places.ensures.opened
    (map g.W.In.Source.told c.run_opened-inputs.result.0.items)
    c.clocks_of-clocks.ensures.only.ins c.clocks_of-clocks.ensures.only.outs c.run_opened-inputs.ensures.only.ins
    c.run_opened-inputs.ensures.opened c.give_read.ensures.given c.give_read.ensures.only

pub returns-in-Ok-open_places-clause-ins_home : goal.returns-in-Ok-open_places-clause-ins_home
returns-in-Ok-open_places-clause-ins_home g c =
    let opened = c.in-Ok-open_places.opened in
    c.give_read.ensures.home (ins_home_but c.args.config.now c.run_opened-inputs.result.1
    (g.W.World.view c.args.world.now)
    (g.W.World.view c.open_places.new.world) (g.W.World.view c.clocks_of-clocks.new.world)
    (g.W.World.view c.run_opened-inputs.new.world) (g.W.World.view c.give_read.new.world)
    (carried_by g.W.In.Source.told g.W.Out.Sink.told opened) c.in-Ok-open_places.ensures.opened
    c.requires.ins c.clocks_of-clocks.ensures.only.ins c.run_opened-inputs.ensures.only.ins)

pub returns-in-Ok-open_places-clause-outs_home : goal.returns-in-Ok-open_places-clause-outs_home
returns-in-Ok-open_places-clause-outs_home g c =
    let opened = c.in-Ok-open_places.opened in
    same_home (g.W.World.view c.run_opened-inputs.new.world).outs (g.W.World.view c.give_read.new.world).outs
    (c.run_opened-inputs.ensures.home (outs_home_but c.args.config.now c.run_opened-inputs.result.1
    (g.W.World.view c.args.world.now)
    (g.W.World.view c.open_places.new.world) (g.W.World.view c.clocks_of-clocks.new.world)
    (g.W.World.view c.run_opened-inputs.new.world) (g.W.World.view c.give_read.new.world)
    (carried_by g.W.In.Source.told g.W.Out.Sink.told opened) c.in-Ok-open_places.ensures.opened
    c.requires.outs c.clocks_of-clocks.ensures.only.outs)) c.give_read.ensures.only.outs

pub returns-in-Err-Failed-clause-open : goal.returns-in-Err-Failed-clause-open
returns-in-Err-Failed-clause-open g c = λ e.
    refused_by c.args.config.now c.report_open_fault.result c.in-Err-Failed.place.now (g.W.World.view c.args.world.now)
    (g.W.World.view c.open_places.new.world) (g.W.World.view c.report_open_fault.new.world)
    (subst (λ (u : Unopened). IsLeftUnopened u (in_places c.args.config.now) (out_places c.args.config.now)
    (g.W.World.view c.args.world.now) (g.W.World.view c.open_places.new.world)) c.in-Err-Failed.field-0-is
    c.in-Err-Failed.ensures.refused) c.report_open_fault.ensures.only.ins c.report_open_fault.ensures.only.outs
    c.report_open_fault.ensures.answer e

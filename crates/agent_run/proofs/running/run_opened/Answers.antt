use Rattle.std.proofs.Common.{◌∙◌, ap}
use Rattle.agent_base.specs.Places.{Place}
use Rattle.agent_run.specs.PlaceLists.{out_places}
use Rattle.agent_workers.specs.Opened.{carried_by, timed_by}
use Rattle.agent_run.proofs.RunningLemmas.{given_opens, leaves_ran, opens_along}
use Rattle.agent_run.proofs.running.run_opened.Goals as goal

pub returns-clause-ends : goal.returns-clause-ends
returns-clause-ends g c =
    let told = g.S.Source.told in
    let put = g.W.Out.Sink.told in
    leaves_ran c.args.config.now c.end_ran.result (g.W.World.view c.args.world.now)
    (g.W.World.view c.give_written.new.world) (g.W.World.view c.end_ran.new.world) c.run-left.result.1
    (carried_by told put c.args.opened) (carried_by told put c.run-left.result.0)
    (timed_by g.C.Clock.told c.args.clocks)
    c.give_written.ensures.given c.give_written.ensures.only.report c.end_ran.ensures.only.outs
    c.run-left.ensures.ran c.end_ran.ensures.answer c.end_ran.ensures.short

pub returns-clause-only : goal.returns-clause-only
returns-clause-only g c =
    let written = c.give_written.ensures in
    let only = c.end_ran.ensures.only in
    record {
      ins = λ q. only.ins q ∙ written.only.ins q;
      outs = λ q away. only.outs q ∙ written.given.others q away;
      clocks = λ who. only.clocks who ∙ written.only.clocks who;
    }

pub returns-clause-opened : goal.returns-clause-opened
returns-clause-opened g c =
    opens_along (g.W.World.view c.args.world.now).outs (g.W.World.view c.give_written.new.world).outs
    (g.W.World.view c.end_ran.new.world).outs
    (given_opens (out_places c.args.config.now) _ _ _ c.give_written.ensures.given) c.end_ran.ensures.only.outs

pub returns-clause-home : goal.returns-clause-home
returns-clause-home g c = λ home q. ap (λ (p : Place). p.is_out) (c.end_ran.ensures.only.outs q)
    ∙ c.give_written.ensures.home home q

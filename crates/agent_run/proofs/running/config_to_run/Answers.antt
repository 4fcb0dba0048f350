use Rattle.agent_run.proofs.RunCallLemmas.{outs_stay_home, unrun}
use Rattle.agent_run.proofs.running.config_to_run.Goals as goal

pub returns-in-Ok-clause-outs_home : goal.returns-in-Ok-clause-outs_home
returns-in-Ok-clause-outs_home g c = outs_stay_home c.args.place.now (g.W.World.view c.args.world.now)
    (g.W.World.view c.config_at.new.world) c.config_at.ensures.only c.requires.outs

pub returns-in-Err-clause-unrun : goal.returns-in-Err-clause-unrun
returns-in-Err-clause-unrun g c =
    unrun c.report_unread.result c.in-Err.unread c.args.place.now (g.W.World.view c.args.world.now)
    (g.W.World.view c.config_at.new.world) (g.W.World.view c.report_unread.new.world) c.in-Err.ensures.unread
    c.in-Err.ensures.opens c.config_at.ensures.taken c.config_at.ensures.only
    c.report_unread.ensures.only.ins c.report_unread.ensures.only.outs c.report_unread.ensures.only.clocks
    c.report_unread.ensures.answer

use Rattle.std.proofs.Common.{inl, arith}
use Rattle.agent_run.proofs.RunCallLemmas.{ran, run_completes, unread_completes}
use Rattle.agent_run.proofs.running.run_call.Goals as goal

pub returns-in-Ok-clause-ran : goal.returns-in-Ok-clause-ran
returns-in-Ok-clause-ran g c =
    ran c.run_config.result c.args.place.now c.in-Ok.config (g.W.World.view c.args.world.now)
    (g.W.World.view c.config_to_run.new.world) (g.W.World.view c.run_config.new.world) c.in-Ok.ensures.read
    c.run_config.ensures.open c.run_config.ensures.ends c.run_config.ensures.opened c.run_config.ensures.only

pub returns-in-Ok-clause-complete : goal.returns-in-Ok-clause-complete
returns-in-Ok-clause-complete g c = λ nothing limit config.
    run_completes c.run_config.result c.args.place.now c.in-Ok.config (g.W.World.view c.args.world.now)
    (g.W.World.view c.config_to_run.new.world) (g.W.World.view c.run_config.new.world)
    (omega (arith, c.in-Ok.ensures.sound.final_tries.0)) c.in-Ok.ensures.read
    c.run_config.ensures.open c.run_config.ensures.ends nothing limit

pub returns-in-Err-clause-ran : goal.returns-in-Err-clause-ran
returns-in-Err-clause-ran g c = inl c.in-Err.ensures.unrun

pub returns-in-Err-clause-complete : goal.returns-in-Err-clause-complete
returns-in-Err-clause-complete g c = λ nothing limit config.
    unread_completes c.in-Err.status c.args.place.now (g.W.World.view c.args.world.now)
    (g.W.World.view c.config_to_run.new.world) c.in-Err.ensures.unrun.answer nothing config

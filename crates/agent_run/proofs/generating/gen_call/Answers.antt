use Rattle.std.proofs.Common.{inl, arith}
use Rattle.agent_run.proofs.GeneratingLemmas.{generated, generated_completes}
use Rattle.agent_run.proofs.RunCallLemmas.{unread_completes}
use Rattle.agent_run.proofs.generating.gen_call.Goals as goal

pub returns-in-Ok-clause-ran : goal.returns-in-Ok-clause-ran
returns-in-Ok-clause-ran g c =
    generated c.gen_config.result c.args.lines c.args.place.now c.in-Ok.config (g.W.World.view c.args.world.now)
    (g.W.World.view c.config_to_run.new.world) (g.W.World.view c.gen_config.new.world) c.in-Ok.ensures.read
    c.gen_config.ensures.open c.gen_config.ensures.ends c.gen_config.ensures.opened c.gen_config.ensures.only

pub returns-in-Ok-clause-complete : goal.returns-in-Ok-clause-complete
returns-in-Ok-clause-complete g c = λ nothing limit config.
    generated_completes c.gen_config.result c.args.lines c.args.place.now c.in-Ok.config
    (g.W.World.view c.args.world.now)
    (g.W.World.view c.config_to_run.new.world) (g.W.World.view c.gen_config.new.world) c.in-Ok.ensures.read
    c.gen_config.ensures.open c.gen_config.ensures.ends
    (omega (arith, c.in-Ok.ensures.sound.final_tries.0)) nothing limit

pub returns-in-Err-clause-ran : goal.returns-in-Err-clause-ran
returns-in-Err-clause-ran g c = inl c.in-Err.ensures.unrun

pub returns-in-Err-clause-complete : goal.returns-in-Err-clause-complete
returns-in-Err-clause-complete g c = λ nothing limit config.
    unread_completes c.in-Err.status c.args.place.now (g.W.World.view c.args.world.now)
    (g.W.World.view c.config_to_run.new.world) c.in-Err.ensures.unrun.answer nothing config

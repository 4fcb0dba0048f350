use Rattle.std.proofs.Common.{sym, subst}
use Rattle.agent_config.specs.Sound.{IsSound}
use Rattle.agent_config.specs.declared.config.Config.{Config}
use Rattle.agent_run.specs.Headline.{Ends, world_change}
use Rattle.agent_run.specs.Running.{IsRefusedBy, OnlyNamed}
use Rattle.agent_run.proofs.PipeLemmas.{pipe_sound}
use Rattle.agent_run.proofs.top.run_pipe.Goals as goal

pub run_config-requires-clause-sound : goal.run_config-requires-clause-sound
run_config-requires-clause-sound g c κs within =
    subst IsSound (sym c.in-Ok.ensures) (pipe_sound c.args.pipe.now.input.now c.args.pipe.now.output.now
    c.args.pipe.now.batch c.args.pipe.now.limit c.requires.apart c.requires.some c.requires.ordered c.requires.most)

pub returns-in-Ok-clause-open : goal.returns-in-Ok-clause-open
returns-in-Ok-clause-open g c = λ e. subst (λ (config : Config). IsRefusedBy config (g.W.World.view c.args.world.now)
    (g.W.World.view c.run_config.new.world)) c.in-Ok.ensures (c.run_config.ensures.open e)

pub returns-in-Ok-clause-ends : goal.returns-in-Ok-clause-ends
returns-in-Ok-clause-ends g c = λ ne. subst (λ (config : Config). Ends config
    (world_change config (g.W.World.view c.args.world.now) (g.W.World.view c.run_config.new.world)) c.run_config.result)
    c.in-Ok.ensures (c.run_config.ensures.ends ne)

pub returns-in-Ok-clause-only : goal.returns-in-Ok-clause-only
returns-in-Ok-clause-only g c = subst (λ (config : Config). OnlyNamed config (g.W.World.view c.args.world.now)
    (g.W.World.view c.run_config.new.world)) c.in-Ok.ensures c.run_config.ensures.only

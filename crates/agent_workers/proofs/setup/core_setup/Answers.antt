use Rattle.std.proofs.Common.{rules}
use Rattle.std.proofs.lemmas.Int.{to_z-of_z}
use mir.Syntax.{w64}
use Rattle.agent_workers.proofs.SetupLemmas.{core_is}
use Rattle.agent_workers.proofs.setup.core_setup.Goals as goal

pub returns-clause-setup : goal.returns-clause-setup
returns-clause-setup c = core_is c.args.config.now _ _ _ c.args.start _ (search rules) (search rules) (search rules)
    (to_z-of_z w64 c.args.start c.ranges.start)

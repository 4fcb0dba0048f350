use Rattle.std.proofs.Common.{rules}
use Rattle.std.proofs.lemmas.Int.{to_z-of_z}
use mir.Syntax.{w64}
use Rattle.agent_workers.proofs.SetupLemmas.{about_of}
use Rattle.agent_workers.proofs.setup.journal_setup.Goals as goal

pub returns : goal.returns
returns c = about_of c.args.config.now c.args.start _ _ _ _ (to_z-of_z w64 c.args.start c.ranges.start) (search rules)
    (search rules) (search rules)

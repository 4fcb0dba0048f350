use Rattle.std.proofs.Common.{subst}
use Rattle.agent_config.specs.Reading.{Checks}
use Rattle.agent_config.proofs.SoundLemmas.{sound}
use Rattle.agent_config.proofs.read.read_config.Goals as goal

pub returns-in-Ok-Ok-clause-sound : goal.returns-in-Ok-Ok-clause-sound
returns-in-Ok-Ok-clause-sound c =
    let text = c.args.text.now in
    let checks = subst (Checks text) c.in-Ok-Ok.field-0-is c.in-Ok-Ok.ensures in
    sound text c.in-Ok-Ok.config checks.0 checks.1

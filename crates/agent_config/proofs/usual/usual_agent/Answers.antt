use Rattle.std.proofs.Common.{◌≡◌, rules, ◌∙◌}
use Rattle.toml.specs.Data.{no_members}
use Rattle.agent_config.specs.Values.{agent_of}
use Rattle.agent_config.proofs.UsualLemmas.{unsaid_is_usual}
use Rattle.agent_config.proofs.usual.usual_agent.Goals as goal

pub returns-clause-values : goal.returns-clause-values
returns-clause-values c =
    let unsaid : c.in_ok-agent.agent ≡ agent_of no_members = search rules in unsaid ∙ unsaid_is_usual

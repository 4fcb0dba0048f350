-- What an agent has where nothing is said.
use Rattle.std.proofs.Common.{◌≡◌, refl}
use Rattle.toml.specs.Data.{no_members}
use Rattle.agent_config.specs.Kinds.{agent_number, number_at, text_at, time_at, truth_at}
use Rattle.agent_config.specs.Usual.{usual_agent}
use Rattle.agent_config.specs.Values.{agent_of}

-- an empty table `agent` says nothing
pub unsaid_is_usual : agent_of no_members ≡ usual_agent
unfolding agent_number number_at text_at time_at truth_at
unsaid_is_usual = refl

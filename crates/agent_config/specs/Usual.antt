-- What an agent has where nothing is said.
use Rattle.std.specs.Prelude.{ℕ, pos, codes, true, false}
use Rattle.agent_config.specs.declared.config.AgentConf.{AgentConf}

-- at most a thousand pieces a gather, three final tries, ten seconds between two flushes
abbrev pub usual_agent : AgentConf
usual_agent = record {
  gather_pieces = 1000;
  final_tries = 3;
  flush_interval = pos 10000000000;
  skip_second = false;
  workers = true;
  journal = codes "agent.journal";
}

-- at most so many groups of an input are undelivered at once
abbrev pub usual_undelivered : ℕ
usual_undelivered = 1000

-- so many packets of a StatsD server are one group
abbrev pub usual_packets : ℕ
usual_packets = 1000

-- after so many quiets in succession a StatsD server is at its end
abbrev pub usual_quiet_limit : ℕ
usual_quiet_limit = 100

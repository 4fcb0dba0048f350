use Rattle.std.proofs.Common.{◌≡◌, drop}
use Rattle.agent_config.specs.Keys.{is_one_of}
use Rattle.agent_config.specs.Seen.{now_of}
use Rattle.agent_config.proofs.aggs.is_text_in.Given as goal

-- the texts that are left
abbrev pub invariant-loop-text : goal.invariant-loop-text
invariant-loop-text l = is_one_of (now_of (drop l.text-index l.texts)) l.name ≡ is_one_of (now_of l.texts) l.name

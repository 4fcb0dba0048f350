use Rattle.std.proofs.Common.{◌≡◌, ◌++◌}
use Rattle.toml.specs.View.{members_view}
use Rattle.agent_config.specs.Faults.{tag_faults}
use Rattle.agent_config.specs.Found.{wrongs_view}
use Rattle.agent_config.proofs.adding.Findings.check_tagged.Given as goal

abbrev pub invariant-loop-tag : goal.invariant-loop-tag
invariant-loop-tag l =
    wrongs_view l.self.wrongs.items ++ tag_faults l.key (members_view l.tag-iterator)
    ≡ wrongs_view l.fn.self.wrongs.items ++ tag_faults l.key (members_view l.initial.tag-iterator)

use Rattle.std.proofs.Common.{◌≡◌, ◌++◌}
use Rattle.toml.specs.View.{members_view}
use Rattle.agent_config.specs.Filters.{tag_globs_of}
use Rattle.agent_config.proofs.filters.tag_globs_of.Given as goal

abbrev pub invariant-loop-key : goal.invariant-loop-key
invariant-loop-key l =
    l.listed.items ++ tag_globs_of (members_view l.key-iterator) ≡ tag_globs_of (members_view l.tags.entries)

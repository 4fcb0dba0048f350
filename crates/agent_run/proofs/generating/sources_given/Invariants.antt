use Rattle.std.proofs.Common.{◌≡◌, map, take}
use Rattle.agent_run.specs.Generating.{sources_given, unfailing}
use Rattle.agent_run.proofs.generating.sources_given.Given as goal

abbrev pub invariant-loop-conf : goal.invariant-loop-conf
invariant-loop-conf l = map unfailing l.sources.items ≡ sources_given l.lines (take l.conf-index l.confs)

use Rattle.std.proofs.Common.{◌≡◌, take}
use Rattle.std.specs.Prelude.{map}
use Rattle.agent_workers.specs.Job.{line_of}
use Rattle.agent_workers.proofs.setup.lines_of.Given as goal

abbrev pub invariant-loop-agg : goal.invariant-loop-agg
invariant-loop-agg l = l.lines.items ≡ map line_of (take l.agg-index l.aggs)

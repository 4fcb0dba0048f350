use Rattle.std.proofs.Common.{◌≡◌, ◌≤◌, ◌++◌, length}
use Rattle.std.specs.Prelude.{map, vec_len, vec_capacity}
use Rattle.std.specs.Vec.Iter.{into_iter_items}
use Rattle.agent_workers.specs.Inputs.{ins_of}
use Rattle.agent_workers.specs.Opened.{in_carried}
use Rattle.agent_workers.proofs.parts.empty_inputs.Given as goal

abbrev pub invariant-loop-job : goal.invariant-loop-job
invariant-loop-job g l = record {
  whole : l.yielded ++ into_iter_items l.job-iterator ≡ l.fn.jobs.items;
  taken : map g.S.Source.told l.sources.items ≡ map in_carried (ins_of g.S.Source.told g.C.Clock.told l.yielded);
  sources : vec_len l.sources ≡ length l.yielded;
  room : vec_len l.fn.jobs ≤ vec_capacity l.sources;
}

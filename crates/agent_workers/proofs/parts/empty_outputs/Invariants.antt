use Rattle.std.proofs.Common.{◌≡◌, ◌≤◌, length}
use Rattle.std.specs.Prelude.{map, vec_len, vec_capacity}
use Rattle.agent_workers.specs.Opened.{out_carried}
use Rattle.agent_workers.specs.Output.{outs_of}
use Rattle.agent_workers.proofs.parts.empty_outputs.Given as goal

abbrev pub invariant-loop-job : goal.invariant-loop-job
invariant-loop-job g l = record {
  taken : map g.K.Sink.told l.sinks.items ≡ map out_carried (outs_of g.K.Sink.told l.yielded);
  sinks : vec_len l.sinks ≡ length l.yielded;
  room : vec_len l.fn.jobs ≤ vec_capacity l.sinks;
}

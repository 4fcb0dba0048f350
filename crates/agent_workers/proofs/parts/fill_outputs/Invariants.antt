use Rattle.std.proofs.Common.{◌≡◌, ◌≤◌, ◌+◌, ◌++◌, length, drop, map}
use Rattle.std.specs.Prelude.{vec_len, vec_capacity}
use Rattle.std.specs.Vec.Iter.{into_iter_items, into_iter_len}
use Rattle.agent_workers.specs.Opened.{fresh_outs}
use Rattle.agent_workers.specs.Output.{outs_of}
use Rattle.agent_workers.proofs.parts.fill_outputs.Given as goal

abbrev pub invariant-loop-conf : goal.invariant-loop-conf
invariant-loop-conf g l = record {
  made : outs_of g.K.Sink.told l.jobs.items ++ fresh_outs l.conf-index (drop l.conf-index l.config.outputs)
      (map g.K.Sink.told (into_iter_items l.sinks))
      ≡ fresh_outs 0 l.config.outputs (map g.K.Sink.told l.fn.sinks.items);
  sinks : into_iter_len l.sinks + l.conf-index ≡ length l.config.outputs;
  clocks : into_iter_len l.clocks + l.conf-index ≡ length l.config.outputs;
  jobs : vec_len l.jobs ≡ l.conf-index;
  room : length l.config.outputs ≤ vec_capacity l.jobs;
}

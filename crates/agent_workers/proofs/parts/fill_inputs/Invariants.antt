use Rattle.std.proofs.Common.{◌≡◌, ◌≤◌, ◌+◌, ◌++◌, length, drop, map}
use Rattle.std.specs.Prelude.{vec_len, vec_capacity}
use Rattle.std.specs.Vec.Iter.{into_iter_items, into_iter_len}
use Rattle.agent_workers.specs.Inputs.{ins_of}
use Rattle.agent_workers.specs.Opened.{empty_hands, fresh_ins}
use Rattle.agent_workers.proofs.parts.fill_inputs.Given as goal

abbrev pub invariant-loop-conf : goal.invariant-loop-conf
invariant-loop-conf g l = record {
  made : ins_of g.S.Source.told g.C.Clock.told l.jobs.items
      ++ fresh_ins l.config l.conf-index (drop l.conf-index l.config.inputs)
      (map g.S.Source.told (into_iter_items l.sources)) (map g.C.Clock.told (into_iter_items l.clocks))
      ≡ fresh_ins l.config 0 l.config.inputs (map g.S.Source.told l.fn.sources.items)
      (map g.C.Clock.told l.fn.clocks.items);
  pieces : into_iter_items l.pieces ≡ empty_hands (drop l.conf-index l.config.inputs);
  sources : into_iter_len l.sources + l.conf-index ≡ length l.config.inputs;
  taken : into_iter_len l.pieces + l.conf-index ≡ length l.config.inputs;
  clocks : into_iter_len l.clocks + l.conf-index ≡ length l.config.inputs;
  jobs : vec_len l.jobs ≡ l.conf-index;
  room : length l.config.inputs ≤ vec_capacity l.jobs;
}

use Rattle.std.proofs.Common.{List, length, ap, sym, subst, rules, arith}
use Rattle.std.specs.Prelude.{map, All}
use Rattle.account.specs.AggLines.{IsLine}
use Rattle.agent_workers.specs.Opened.{out_setup}
use Rattle.agent_workers.proofs.OutLemmas.{ready_first}
use Rattle.agent_workers.proofs.SetupLemmas.{are_lines, none_buffered_first, none_ended_first, sizes_fit, sizes_fit_all}
use Rattle.agent_workers.proofs.SetupLemmas.{limits_fit, limits_first}
use Rattle.account.specs.declared.setup.AggLine.{AggLine}
use Rattle.std.proofs.lemmas.List.{length-map}
use Rattle.agent_workers.specs.Job.{line_of}
use Rattle.agent_workers.proofs.setup.new_core.Goals as goal

pub new-requires-clause-limits : goal.new-requires-clause-limits
new-requires-clause-limits c = limits_fit c.args.config.now.inputs c.in_ok-setup.setup.inputs
    c.in_ok-setup.ensures.inputs c.requires.sound.undelivered

pub new-requires-clause-sizes : goal.new-requires-clause-sizes
new-requires-clause-sizes c = sizes_fit c.args.config.now.outputs c.in_ok-setup.setup.outputs
    c.in_ok-setup.ensures.outputs c.requires.sound.sizes

pub new-requires-clause-lines : goal.new-requires-clause-lines
new-requires-clause-lines c = subst (All IsLine) (sym c.in_ok-setup.ensures.aggs)
    (are_lines c.args.config.now.aggs c.requires.sound.times)

pub new-requires-clause-aggregators : goal.new-requires-clause-aggregators
new-requires-clause-aggregators c = omega (
  arith,
  ap (λ (lines : List AggLine). length lines) c.in_ok-setup.ensures.aggs,
  length-map c.args.config.now.aggs line_of,
  c.requires.sound.aggs,
)

pub returns : goal.returns
returns c = record {
  ready = ready_first c.in_ok-setup.setup (map out_setup c.args.config.now.outputs) c.in_ok-core.core
      c.in_ok-core.ensures.ok c.in_ok-setup.ensures.outputs
      (sizes_fit_all c.args.config.now.outputs c.requires.sound.sizes)
      (limits_first c.args.config.now.inputs c.in_ok-setup.setup.inputs c.in_ok-setup.ensures.inputs
      c.requires.sound.undelivered);
  reading = none_ended_first c.args.config.now.inputs c.in_ok-setup.setup c.in_ok-core.core c.in_ok-core.ensures.ok
      c.in_ok-setup.ensures.inputs;
  going = search rules;
  none_buffered = λ o. none_buffered_first c.in_ok-setup.setup c.in_ok-core.core o c.in_ok-core.ensures.ok;
  stands = search rules;
  setup = search rules;
  stored = search rules;
}

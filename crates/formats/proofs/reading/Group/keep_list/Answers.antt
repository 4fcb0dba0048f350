use Rattle.std.proofs.Common.{rules}
use Rattle.formats.specs.Reader.{rule_view}
use Rattle.formats.proofs.CountLemmas.{counts_more}
use Rattle.formats.proofs.reading.Group.keep_list.Goals as goal

pub loop-metric-preserved : goal.loop-metric-preserved
loop-metric-preserved c = record {
  pieces = search rules;
  said = counts_more (rule_view c.args.rule.now) c.loop-metric.yielded c.in-Some.metric c.args.self.now
      c.loop-metric.self c.keep-in-loop-metric.new.self c.loop-metric.invariant.said c.in_ok-keep-in-Err.ensures.said;
}

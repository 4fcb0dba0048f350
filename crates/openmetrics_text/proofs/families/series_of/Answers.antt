use Rattle.std.proofs.Common.{refl}
use Rattle.metric.specs.Pairs.{first_of_each}
use Rattle.openmetrics_text.specs.Groups.{grouped}
use Rattle.openmetrics_text.specs.WriteViews.{line_view, groups_view}
use Rattle.openmetrics_text.proofs.GatherLemmas.{grouped_more}
use Rattle.openmetrics_text.proofs.families.series_of.Goals as goal

pub loop-sample-init : goal.loop-sample-init
unfolding grouped first_of_each
loop-sample-init c = record { indexed = c.new-groups.ensures.indexed; so_far = c.new-groups.ensures.none }

pub loop-sample-preserved : goal.loop-sample-preserved
loop-sample-preserved c = record {
  indexed = c.in_ok-put.ensures.indexed;
  so_far = grouped_more (λ sample. sample.series) line_view c.args.samples.now c.loop-sample.sample-index _ _
      (groups_view c.loop-sample.groups) (groups_view c.put.new.self) c.loop-sample-test.true refl
      c.loop-sample.invariant.so_far c.in_ok-put.ensures.put;
}

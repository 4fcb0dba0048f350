use Rattle.metric.specs.Pairs.{first_of_each}
use Rattle.openmetrics_text.specs.Groups.{grouped}
use Rattle.openmetrics_text.specs.Texts.{written_in}
use Rattle.openmetrics_text.specs.WriteViews.{line_view, groups_view}
use Rattle.openmetrics_text.proofs.GatherLemmas.{grouped_more}
use Rattle.openmetrics_text.proofs.texts.families_of.Goals as goal

pub loop-row-init : goal.loop-row-init
unfolding grouped first_of_each
loop-row-init c = record { indexed = c.new-groups.ensures.indexed; so_far = c.new-groups.ensures.none }

pub loop-row-preserved : goal.loop-row-preserved
loop-row-preserved c = record {
  indexed = c.in_ok-put.ensures.indexed;
  so_far = grouped_more (λ sample. sample.family) (written_in c.args.bytes.now) c.args.rows.now c.loop-row.row-index _
      (line_view c.sample_at-sample.result) (groups_view c.loop-row.groups)
      (groups_view c.put.new.self) c.loop-row-test.true c.sample_at-sample.ensures c.loop-row.invariant.so_far
      c.in_ok-put.ensures.put;
}

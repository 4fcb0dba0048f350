use Rattle.std.proofs.Common.{map, ap}
use Rattle.openmetrics_text.specs.Groups.{by_time_on}
use Rattle.openmetrics_text.specs.WriteViews.{line_entry, lines_view}
use Rattle.openmetrics_text.proofs.SampleLemmas.{lines_more}
use Rattle.openmetrics_text.proofs.families.lines_of.Goals as goal

pub loop-sample-init : goal.loop-sample-init
unfolding by_time_on
loop-sample-init c = ap (map line_entry) c.new-lines.ensures.empty

pub loop-sample-preserved : goal.loop-sample-preserved
loop-sample-preserved c =
    lines_more c.args.samples.now c.loop-sample.sample-index _ (lines_view c.loop-sample.lines)
    (lines_view c.add_line.new.lines) c.loop-sample-test.true c.loop-sample.invariant c.in_ok-add_line.ensures

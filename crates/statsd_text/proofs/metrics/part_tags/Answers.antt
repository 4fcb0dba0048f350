use Rattle.std.proofs.Common.{◌∙◌, ◌<◌, arith, length}
use Rattle.std.specs.Prelude.{codes}
use Rattle.statsd_text.specs.declared.said.MetricType.{MetricType}
use Rattle.statsd_text.specs.declared.said.MetricType.TheVariants.{Counter, Gauge, Timing, Set}
use Rattle.statsd_text.specs.Said.{type_name}
use Rattle.statsd_text.proofs.KeptTags.{more_stay}
use Rattle.statsd_text.proofs.metrics.part_tags.Goals as goal

name_filled : (metric_type : MetricType) → 0 < length (type_name metric_type)
name_filled Counter = omega arith
name_filled Gauge = omega arith
name_filled Timing = omega arith
name_filled Set = omega arith

pub returns : goal.returns
returns c =
    let t = c.args.metric_type in
    c.in_ok-insert_tag.ensures.ok
    ∙ rw (c.in_ok-all.ensures, c.in_ok-key.ensures, c.in_ok-of.ensures, c.name.ensures)
    (more_stay c.args.tags.now (codes "metric_type") (type_name t) c.requires.valued (name_filled t))

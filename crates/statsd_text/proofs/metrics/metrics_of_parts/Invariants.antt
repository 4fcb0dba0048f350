use Rattle.std.proofs.Common.{◌≡◌, ◌++◌, map}
use Rattle.statsd_text.specs.Reading.{has_too_many}
use Rattle.statsd_text.specs.TagMap.{kept_content}
use Rattle.std.specs.List.{list_any}
use Rattle.std.specs.Vec.Iter.{into_iter_items}
use Rattle.std.specs.Prelude.{false}
use Rattle.statsd_text.proofs.metrics.metrics_of_parts.Given as goal

abbrev pub invariant-loop-part : goal.invariant-loop-part
invariant-loop-part l = record {
  few : list_any has_too_many l.metrics.items ≡ false;
  so_far : l.metrics.items ++ map (kept_content l.name l.tags l.moment) (into_iter_items l.part-iterator)
      ≡ map (kept_content l.name l.tags l.moment) l.fn.said.items;
}

use Rattle.std.proofs.Common.{◌≡◌, drop}
use Rattle.metric.specs.Pairs.{in_first_order_on}
use Rattle.agg_keep.proofs.fields.put_all.Given as goal

abbrev pub invariant-loop-field : goal.invariant-loop-field
invariant-loop-field l =
    in_first_order_on l.fields.items (drop l.field-index l.given) ≡ in_first_order_on l.fn.fields.items l.given

use Rattle.std.proofs.Common.{subst}
use Rattle.std.specs.Str.{IsUtf8}
use Rattle.metric.proofs.MetricLemmas.{built_none}
use Rattle.metric.proofs.builder.Builder.with_room_of.Goals as goal

pub invariant_of-result : goal.invariant_of-result
invariant_of-result c =
    rw (c.in_ok-with_room.ensures, c.in_ok-with_room-2.ensures)
    (built_none c.args.name (subst IsUtf8 c.as_str-text.ensures c.as_str-text.utf8))

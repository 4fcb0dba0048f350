-- How what is kept of the parts that count is seen.
use Rattle.std.specs.Prelude.{vec_capacity}
use Rattle.statsd_server.specs.Kept.{Memory}
use Rattle.statsd_server.specs.declared.tally.Tally.{Tally}

abbrev pub memory_of : Tally → Memory
memory_of t = record {
  sums = t.sums;
  levels = t.levels;
  members = t.members;
  order = t.order.items;
  room = vec_capacity t.order;
  counted = t.counted;
  refused = t.refused;
}

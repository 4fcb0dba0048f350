use Rattle.std.proofs.Common.{◌≡◌}
use Rattle.formats.specs.Groups.{Counts}
use Rattle.formats.specs.Reader.{Says, rule_view}
use Rattle.formats.proofs.reading.Group.keep_list.Given as goal

abbrev pub invariant-loop-metric : goal.invariant-loop-metric
invariant-loop-metric l = record {
  pieces : l.self.pieces ≡ l.fn.self.pieces;
  said : Counts (rule_view l.rule) (Says l.yielded 0) l.fn.self l.self;
}

use Rattle.std.proofs.Common.{◌∙◌, arith, None}
use Rattle.std.proofs.lemmas.List.{length-set}
use Rattle.statsd_server.proofs.TableLemmas.{none_more, none_past}
use Rattle.statsd_server.proofs.table.empty.Goals as goal

pub loop-at-preserved : goal.loop-at-preserved
loop-at-preserved g c = record {
  count = length-set c.loop-at.values.items c.loop-at.at None ∙ c.loop-at.invariant.count;
  end = c.loop-at.invariant.end;
  none = none_more c.loop-at.values.items c.loop-at.at (omega arith) c.loop-at.invariant.none;
}

pub returns-clause-none : goal.returns-clause-none
returns-clause-none g c = none_past c.loop-at.values.items (λ i below. c.loop-at.invariant.none i (omega arith))

use Rattle.std.proofs.Common.{arith}
use Rattle.metric.proofs.PairLemmas.{index_less, index_equal, index_first}
use Rattle.metric.proofs.builder.index_of.Goals as goal

pub returns-in-Less : goal.returns-in-Less
returns-in-Less c = index_less _ _ _ _ _ _ (omega arith) c.as_str.ensures c.requires c.loop-at.invariant.within
    c.in-Less.ensures c.loop-at.invariant.greater

pub returns-in-Equal : goal.returns-in-Equal
returns-in-Equal c = index_equal _ _ _ _ _ c.as_str.ensures c.requires (omega arith) c.in-Equal.ensures

pub returns : goal.returns
returns c = index_first _ _ _ (omega arith) c.loop-at.invariant.greater

use Rattle.std.proofs.Common.{◌≡◌, ◌≤◌, drop, length}
use Rattle.std.specs.declared.cmp.Ordering.TheVariants.{Greater}
use Rattle.metric.proofs.PairLemmas.{AllKeys, key_cmp}
use Rattle.metric.proofs.builder.index_of.Given as goal

-- the keys from here on are greater
abbrev pub invariant-loop-at : goal.invariant-loop-at
invariant-loop-at l = record {
  within : l.at ≤ length l.tags;
  greater : AllKeys (λ k. key_cmp k l.key ≡ Greater)
      (drop l.at l.tags);
}

abbrev pub decreases-loop-at : goal.decreases-loop-at
decreases-loop-at l = l.at

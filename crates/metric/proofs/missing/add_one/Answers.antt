use Rattle.std.proofs.Common.{sym, subst}
use Rattle.std.specs.Str.{IsUtf8}
use Rattle.metric.specs.Metric.{IsTag}
use Rattle.metric.specs.Pairs.{IsInKeyOrder}
use Rattle.metric.proofs.MetricLemmas.{each_sorted}
use Rattle.metric.proofs.PairLemmas.{with_sorted-ordered}
use Rattle.metric.proofs.missing.add_one.Goals as goal

pub returns-clause-sorted : goal.returns-clause-sorted
returns-clause-sorted c =
    subst IsInKeyOrder (sym c.in_ok-insert_tag.ensures.ok)
    (with_sorted-ordered c.args.tags.now _ _ c.requires.sorted)

pub returns-clause-each : goal.returns-clause-each
returns-clause-each c =
    let key = subst IsUtf8 c.as_str.ensures c.as_str.utf8 in
    let value = subst IsUtf8 c.as_str-value.ensures c.as_str-value.utf8 in
    rw (c.in_ok-insert_tag.ensures.ok, c.in_ok-copy.ensures, c.in_ok-copy-2.ensures)
    (each_sorted IsTag c.args.tags.now c.args.key.now c.args.value.now
    (record { filled = c.requires.key; utf8 = key }, record { filled = c.requires.value; utf8 = value })
    c.requires.each)

use Rattle.std.proofs.Common.{◌≡◌, true, rules}
use Rattle.agg_stats.specs.Summary.{is_number}
use Rattle.agg_stats.proofs.RowLemmas.{changed_none, changed_some, distinct_changed}
use Rattle.agg_stats.proofs.row.change.Goals as goal

pub returns-in-Some-clause-changed : goal.returns-in-Some-clause-changed
returns-in-Some-clause-changed c =
    let number : is_number c.args.value.now ≡ true = search rules in
    changed_some c.args.sums.now.items c.as_slice.result.now (c.args.key.now, c.args.value.now) c.index_of.result
    c.in-Some.i c.index.result.now c.index_mut.result.now c.with.result number c.as_slice.ensures.value
    c.index_of.ensures c.in-Some.is c.index.ensures c.index_mut.ensures.value c.with.ensures

pub returns-in-Some-clause-distinct : goal.returns-in-Some-clause-distinct
returns-in-Some-clause-distinct c =
    let number : is_number c.args.value.now ≡ true = search rules in
    distinct_changed c.args.sums.now.items _ (c.args.key.now, c.args.value.now) c.requires
    (changed_some c.args.sums.now.items c.as_slice.result.now (c.args.key.now, c.args.value.now) c.index_of.result
    c.in-Some.i c.index.result.now c.index_mut.result.now c.with.result number c.as_slice.ensures.value
    c.index_of.ensures c.in-Some.is c.index.ensures c.index_mut.ensures.value c.with.ensures)

pub returns-in-None-clause-changed : goal.returns-in-None-clause-changed
returns-in-None-clause-changed c =
    let number : is_number c.args.value.now ≡ true = search rules in
    changed_none c.args.sums.now.items c.as_slice.result.now (c.args.key.now, c.args.value.now) c.index_of.result number
    c.as_slice.ensures.value c.index_of.ensures c.in-None.is

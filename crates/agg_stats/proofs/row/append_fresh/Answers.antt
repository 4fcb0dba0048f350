use Rattle.std.proofs.Common.{◌≡◌, true, rules}
use Rattle.agg_stats.specs.Summary.{is_number}
use Rattle.agg_stats.proofs.RowLemmas.{fresh_none, fresh_some}
use Rattle.agg_stats.proofs.row.append_fresh.Goals as goal

pub returns-in-Some : goal.returns-in-Some
returns-in-Some c =
    let number : is_number c.args.value.now ≡ true = search rules in
    fresh_some c.args.sums.now c.args.fresh.now.items (c.args.key.now, c.args.value.now) c.index_of.result c.in-Some.i
    number c.index_of.ensures c.in-Some.is

pub returns-in_ok-push-in-None : goal.returns-in_ok-push-in-None
returns-in_ok-push-in-None c =
    let number : is_number c.args.value.now ≡ true = search rules in
    fresh_none c.args.sums.now c.args.fresh.now.items c.push.new.self.items (c.args.key.now, c.args.value.now)
    c.index_of.result c.in_ok-copy-in-None.field-0 c.empty.result number c.index_of.ensures c.in-None.is
    c.in_ok-copy-in-None.ensures c.empty.ensures c.in_ok-push-in-None.ensures.items

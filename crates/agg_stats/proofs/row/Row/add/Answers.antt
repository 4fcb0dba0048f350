use Rattle.std.proofs.Common.{◌≡◌, ◌++◌, ◌∙◌, ap, arith, subst, sym}
use Rattle.std.specs.Prelude.{vec_capacity}
use Rattle.agg_stats.specs.Folds.{series_of}
use Rattle.agg_stats.specs.Kept.{all_changed, all_fresh, with_fields, AreDistinct, RowMemory}
use Rattle.agg_stats.proofs.RowLemmas.{distinct_fresh, grown, row_changed, row_sums}
use Rattle.agg_stats.proofs.row.Row.add.Goals.{After-append, After-change_all}
use Rattle.agg_stats.proofs.row.Row.add.Goals as goal

-- the new keys stand behind the others
keys : (c : After-append)
    → c.append.new.self.items ≡ c.self.inside.sums.items ++ all_fresh c.self.inside.sums.items c.args.m.now.fields
keys c =
    let i = c.self.inside in
    let fresh = c.args.fresh in
    grown c.append.result c.args.self.now (series_of i.metric) i.sums.items fresh.items c.append.new.self.items
    c.args.m.now (vec_capacity i.sums) c.self.view_is c.requires.fresh c.requires.room
    (λ room. c.append.ensures.succeeds (omega (arith, room, i.sums.ok.0, fresh.ok.0))) c.append.ensures.items

-- and the numbers of the metric are added
added : (c : After-change_all)
    → c.append.new.self.items ≡ c.self.inside.sums.items ++ all_fresh c.self.inside.sums.items c.args.m.now.fields
    → c.change_all.new.sums.items ≡ with_fields c.self.inside.sums.items c.args.m.now.fields
added c more =
    row_changed c.self.inside.sums.items c.append.new.self.items _ c.args.m.now c.shows_metric.ensures more
    (c.change_all.ensures ∙ ap (all_changed c.append.new.self.items) c.fields.ensures)

pub change_all-requires : goal.change_all-requires
change_all-requires c =
    subst AreDistinct (sym (keys (goal.at.change_all-requires c).After-append))
    (distinct_fresh c.self.inside.sums.items c.args.m.now c.self.invariant c.shows_metric.ensures)

pub invariant_of-self : goal.invariant_of-self
invariant_of-self c =
    let at = goal.at.invariant_of-self c in
    row_sums c.self.inside.sums.items _ c.args.m.now c.self.invariant c.shows_metric.ensures
    (added at.After-change_all (keys at.After-append))

pub returns-clause-sums : goal.returns-clause-sums
returns-clause-sums c =
    let at = goal.at.returns-clause-sums c in
    added at.After-change_all (keys at.After-append)
    ∙ ap (λ (row : RowMemory). with_fields row.row.1 c.args.m.now.fields) c.self.view_is

use Rattle.std.proofs.Common.{◌≡◌, ◌∙◌, List, [], ap, arith, length, subst, sym}
use Rattle.std.proofs.lemmas.List.{length-map}
use Rattle.metric.specs.Series.{Series}
use Rattle.metric.specs.declared.metric.Content.{Content}
use Rattle.agg_stats.specs.Folds.{series_of}
use Rattle.agg_stats.specs.Kept.{all_fresh, row_in, seen, IsIndexed, IsPlace, ReadyMemory, RowMemory}
use Rattle.agg_stats.proofs.MemberLemmas.{new_place, set_indexed, IsSet}
use Rattle.agg_stats.proofs.RoomLemmas.{new_room}
use Rattle.agg_stats.proofs.RowLemmas.{first_sums}
use Rattle.agg_stats.proofs.series_map.Ready.new.Goals as goal

pub all_fresh-requires : goal.all_fresh-requires
all_fresh-requires c = first_sums.distinct

pub returns-clause-indexed : goal.returns-clause-indexed
returns-clause-indexed c = λ h.
    let old = c.args.kept.now.entries in
    let new = c.insert.new.self.entries in
    let at = c.len-at.result in
    let put = subst (λ (s : Series). IsSet old s at new) c.requires.series c.in_ok-insert.ensures.updates.0 in
    subst (IsIndexed new) (sym (ap seen c.reserve.ensures.items))
    (set_indexed old new (seen c.args.rows.now.items) (series_of c.args.m.now) at c.requires.none put h)

pub returns-clause-place : goal.returns-clause-place
returns-clause-place c =
    let old = c.args.kept.now.entries in
    let new = c.insert.new.self.entries in
    let at = c.len-at.result in
    let rows = c.args.rows.now in
    let put = subst (λ (s : Series). IsSet old s at new) c.requires.series c.in_ok-insert.ensures.updates.0 in
    let end : at ≡ length (seen rows.items) = omega
    (arith, c.len-at.ensures, rows.ok.0, length-map rows.items row_in) in
    let place = new_place old new (seen rows.items) (series_of c.args.m.now) at end put in
    let same = sym (ap (λ (ready : ReadyMemory). ready.at) c.of.ensures) in
    subst (λ (list : List RowMemory). IsPlace (series_of c.args.m.now) new (seen list) c.of.result.at)
    (sym c.reserve.ensures.items)
    (subst (IsPlace (series_of c.args.m.now) new (seen rows.items)) same place)

pub returns-clause-room : goal.returns-clause-room
returns-clause-room c =
    let fresh = c.in_ok-fresh.fresh.items in
    let at = c.len-at.result in
    let rows = c.reserve.new.self in
    new_room rows.items at _ c.args.m.now fresh c.of.result
    (c.of.ensures ∙ ap (λ (m : Content). record { metric = m; at = at; fresh = fresh }) c.in_ok-metric.ensures)
    (omega (arith, c.len-at.ensures, c.reserve.ensures.len, rows.ok.0))
    (c.in_ok-fresh.ensures ∙ ap (all_fresh []) c.fields-fields.ensures)
    (omega (arith, c.in_ok-reserve.ensures.ok, rows.ok.0))

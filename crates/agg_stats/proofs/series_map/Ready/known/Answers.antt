use Rattle.std.proofs.Common.{◌∙◌, ap}
use Rattle.metric.specs.declared.metric.Content.{Content}
use Rattle.agg_stats.proofs.RoomLemmas.{known_room, seen_same}
use Rattle.agg_stats.proofs.series_map.Ready.known.Goals as goal

pub returns-in_err-fresh-clause-seen : goal.returns-in_err-fresh-clause-seen
returns-in_err-fresh-clause-seen c =
    seen_same c.args.rows.now.items c.args.at c.index_mut.result.now c.make_room.new.self c.requires
    c.index_mut.ensures.value c.make_room.ensures.same

pub returns-in_err-copy-clause-seen : goal.returns-in_err-copy-clause-seen
returns-in_err-copy-clause-seen c =
    seen_same c.args.rows.now.items c.args.at c.index_mut.result.now c.make_room.new.self c.requires
    c.index_mut.ensures.value c.make_room.ensures.same

pub returns-clause-seen : goal.returns-clause-seen
returns-clause-seen c =
    seen_same c.args.rows.now.items c.args.at c.index_mut.result.now c.make_room.new.self c.requires
    c.index_mut.ensures.value c.make_room.ensures.same

pub returns-clause-room : goal.returns-clause-room
returns-clause-room c =
    let fresh = c.in_ok-fresh.fresh.items in
    let at = c.args.at in
    known_room c.args.rows.now.items at _ c.index_mut.result.now c.make_room.new.self c.args.m.now fresh c.of.result
    (c.of.ensures ∙ ap (λ (m : Content). record { metric = m; at = at; fresh = fresh }) c.in_ok-copy.ensures)
    c.requires c.index_mut.ensures.value c.make_room.ensures.same c.in_ok-fresh.ensures.fresh c.in_ok-fresh.ensures.room

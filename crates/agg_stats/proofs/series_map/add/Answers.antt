use Rattle.std.proofs.Common.{◌∙◌, ◌≡◌, [], None, arith}
use Rattle.agg_stats.specs.Folds.{series_of}
use Rattle.agg_stats.specs.Kept.{with_fields}
use Rattle.std.specs.Prelude.{slice_get}
use Rattle.std.proofs.lemmas.Option.{slice_get_past}
use Rattle.agg_stats.proofs.RoomLemmas.{is_past, is_within, pushed, seen_more}
use Rattle.agg_stats.proofs.series_map.add.Goals as goal

pub returns-then-at-len-clause-known : goal.returns-then-at-len-clause-known
returns-then-at-len-clause-known c = λ row found.
    let parts = c.into_parts-metric in
    let rows = c.args.rows.now in
    seen_more rows.items c.args.ready.at parts.result.1 c.index_mut.result.now c.add.new.self parts.result.0
    c.args.ready.metric row parts.ensures.at parts.ensures.metric
    (omega (arith, c.if-at-len.true, c.len.ensures, rows.ok.0)) c.index_mut.ensures.value c.add.ensures.series
    c.add.ensures.sums found

pub returns-then-at-len-clause-new : goal.returns-then-at-len-clause-new
returns-then-at-len-clause-new c = λ none.
    let parts = c.into_parts-metric in
    let rows = c.args.rows.now in
    absurd (is_within rows.items c.args.ready.at parts.result.1 c.index_mut.result.now parts.ensures.at
    (omega (arith, c.if-at-len.true, c.len.ensures, rows.ok.0)) none)

pub returns-else-at-len-clause-known : goal.returns-else-at-len-clause-known
returns-else-at-len-clause-known c = λ row found.
    let parts = c.into_parts-metric in
    let rows = c.args.rows.now in
    absurd (is_past rows.items c.args.ready.at parts.result.1 row parts.ensures.at
    (omega (arith, c.if-at-len.false, c.len.ensures, rows.ok.0)) found)

pub returns-else-at-len-clause-new : goal.returns-else-at-len-clause-new
returns-else-at-len-clause-new c = λ none.
    let parts = c.into_parts-metric in
    let rows = c.args.rows.now in
    let past : slice_get rows.items c.args.ready.at ≡ None = slice_get_past rows.items c.args.ready.at
    (omega (arith, c.if-at-len.false, c.len.ensures, rows.ok.0, parts.ensures.at)) in
    let fits = c.requires.new past in
    pushed c.push.result rows.items c.push.new.self.items c.of.result _
    (c.push.ensures.succeeds (omega (arith, fits, rows.ok.0))) c.push.ensures.items
    (c.of.ensures ∙ (λ i. (series_of (parts.ensures.metric i), with_fields [] (parts.ensures.metric i).fields)))

use Rattle.std.proofs.Common.{◌∙◌, List, ap, subst, sym}
use Rattle.agg_stats.specs.Folds.{series_of}
use Rattle.agg_stats.specs.Kept.{place_of, seen, IsPlace, RowMemory, SeriesSums}
use Rattle.agg_stats.proofs.MemberLemmas.{known_place}
use Rattle.agg_stats.proofs.RoomLemmas.{if_ok}
use Rattle.agg_stats.proofs.series_map.Ready.make.Goals as goal

pub returns-in-Some-clause-place : goal.returns-in-Some-clause-place
returns-in-Some-clause-place c =
    let kept = c.args.kept.now.entries in
    let own = series_of c.args.m.now in
    let found = sym (ap (λ (list : List RowMemory). place_of kept (seen list) own) c.as_slice.ensures.value)
    ∙ sym c.place_of.ensures ∙ c.in-Some.is in
    let place = (known_place kept (seen c.args.rows.now.items) own c.in-Some.at found).place in
    if_ok c.known.result c.known.ensures.place
    (λ ready e. subst (IsPlace own kept (seen c.known.new.rows.items)) (sym e)
    (subst (λ (list : List SeriesSums). IsPlace own kept list c.in-Some.at) (sym c.known.ensures.seen) place))

use Rattle.std.proofs.Common.{◌∙◌, ◌++◌, ◌∷◌, [], ap, arith, List, Option, None}
use Rattle.statsd_server.specs.Table.{held_by, place_by, Table}
use Rattle.statsd_server.proofs.TableLemmas.{more_place, more_same, more_stays, more_table, IsMore}
use Rattle.statsd_server.proofs.table.Table.add.Given.{Over}
use Rattle.statsd_server.proofs.table.Table.add.Goals.{After-push_reserved}
use Rattle.statsd_server.proofs.table.Table.add.Goals as goal

abbrev old_table : (g : Over) → After-push_reserved g → Table g.row.K.Denot g.row.V.Denot
old_table g c = record { places = c.self.inside.places.entries; values = c.self.inside.values.items }

abbrev new_table : (g : Over) → After-push_reserved g → Table g.row.K.Denot g.row.V.Denot
new_table g c = record { places = c.insert.new.self.entries; values = c.push_reserved.new.self.items }

is_more : (g : Over) (c : After-push_reserved g) → IsMore g.K.PartialEq.eq g.K.Ord.cmp g.met.K.Key.decides
    g.met.K.Ord.matches_eq (old_table g c) (new_table g c) c.args.key c.len-at.result
is_more g c = record {
  absent = ap (λ (table : Table g.row.K.Denot g.row.V.Denot). place_by g.K.Ord.cmp table c.args.key) c.self.view_is
      ∙ c.requires;
  behind = omega (arith, c.len-at.ensures, c.self.inside.values.ok.0);
  places = (c.in_ok-insert.ensures.updates).0;
  values = c.push_reserved.ensures.items
      ∙ ap (λ (list : List (Option g.row.V.Denot)). list ++ None ∷ []) c.reserve.ensures.items;
}

pub invariant_of-self-2 : goal.invariant_of-self-2
invariant_of-self-2 g c = more_table g.K.PartialEq.eq g.K.Ord.cmp g.met.K.Key.decides g.met.K.Ord.matches_eq
    (old_table g c) (new_table g c) c.args.key c.len-at.result (is_more g c) c.self.invariant

pub returns : goal.returns
returns g c =
    let eq = g.K.PartialEq.eq in
    let cmp = g.K.Ord.cmp in
    let decides = g.met.K.Key.decides in
    let ties = g.met.K.Ord.matches_eq in
    let old = old_table g c in
    let new = new_table g c in
    let key = c.args.key in
    let at = c.len-at.result in
    let more = is_more g c in
    record {
      same = λ other. more_same eq cmp decides ties old new key at more c.self.invariant other
          ∙ ap (λ (table : Table g.row.K.Denot g.row.V.Denot). held_by cmp table other) c.self.view_is;
      stays = λ other place is. more_stays eq cmp decides ties old new key at more other place
          (ap (λ (table : Table g.row.K.Denot g.row.V.Denot). place_by cmp table other) c.self.view_is ∙ is);
      place = more_place eq cmp decides ties old new key at more;
    }

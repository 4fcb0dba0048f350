use Rattle.std.proofs.Common.{◌∙◌, ap, arith, cond, refl, Some}
use Rattle.statsd_server.specs.Table.{held_by, place_by, Table}
use Rattle.statsd_server.proofs.TableLemmas.{put_held}
use Rattle.statsd_server.proofs.table.Table.put.Goals as goal

pub returns-then-at-len-clause-held : goal.returns-then-at-len-clause-held
returns-then-at-len-clause-held g c = λ key place other.
    put_held g.K.PartialEq.eq g.K.Ord.cmp g.met.K.Key.decides g.met.K.Ord.matches_eq
    (record { places = c.self.inside.places.entries; values = c.self.inside.values.items }) _ c.args.at c.args.value
    c.self.invariant (omega
    (arith, c.if-at-len.true, c.len.ensures, c.self.inside.values.ok.0)) refl c.put_at.ensures key
    (ap (λ (table : Table g.row.K.Denot g.row.V.Denot). place_by g.K.Ord.cmp table key) c.self.view_is ∙ place) other
    ∙ ap (λ (table : Table g.row.K.Denot g.row.V.Denot). cond (g.K.PartialEq.eq key other) (Some c.args.value)
    (held_by g.K.Ord.cmp table other)) c.self.view_is

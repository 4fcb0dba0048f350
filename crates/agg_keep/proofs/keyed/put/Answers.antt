use Rattle.agg_keep.specs.Keyed.{entry_by}
use Rattle.agg_keep.proofs.KeyLemmas.{parts_put, parts_room, succeeds}
use Rattle.agg_keep.proofs.keyed.put.Goals as goal

pub returns-clause-kept : goal.returns-clause-kept
returns-clause-kept g c =
    let eq = g.K.PartialEq.eq in
    let cmp = g.K.Ord.cmp in
    let decides = g.met.K.Key.decides in
    let ties = g.met.K.Ord.matches_eq in
    let old = c.args.kept.now.entries in
    let parts = c.into_parts-key.result in
    let key = g.K.Key.key_of c.args.ready in
    let are = c.into_parts-key.ensures in
    let here = parts_room eq cmp decides ties old parts key c.args.ready are c.requires.room in
    let done = succeeds c.insert.result (entry_by cmp old parts.0) c.insert.ensures.updates c.insert.ensures.absent
    here in
    parts_put eq cmp decides ties old c.insert.new.self.entries parts key c.args.ready are done.0

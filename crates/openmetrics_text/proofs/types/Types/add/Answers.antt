use Rattle.std.proofs.Common.{◌≡◌, length, Some, arith}
use Rattle.openmetrics_text.proofs.TypeLemmas.{types_more}
use Rattle.std.proofs.lemmas.Map.Text.{btree_map_updates_str}
use Rattle.openmetrics_text.proofs.types.Types.add.Goals as goal

pub returns : goal.returns
returns c = λ pairs h.
    let at : c.len.result ≡ length c.args.self.now.kinds.items = omega (arith, c.len.ensures) in
    types_more c.args.self.now c.push.new.self c.insert.new.self pairs c.args.name.now c.args.kind c.len.result h at
    c.in_ok-push.ensures.items
    (λ q. rw (← c.as_bytes.ensures.value) (btree_map_updates_str c.as_bytes.result.now c.args.self.now.last
    c.insert.new.self (Some c.len.result) c.in_ok-insert.ensures.updates q))

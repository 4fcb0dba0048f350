use Rattle.std.proofs.Common.{◌≡◌, ◌++◌, map}
use Rattle.std.specs.Prelude.{pos}
use Rattle.std.specs.Vec.Iter.{into_iter_items}
use Rattle.statsd_text.specs.TagMap.{kept_content}
use Rattle.statsd_server.specs.Kept.{said_by}
use Rattle.statsd_server.proofs.part.append_each.Given as goal

abbrev pub invariant-loop-part : goal.invariant-loop-part
invariant-loop-part l =
    l.parts.items ++ map said_by (map (kept_content l.name l.tags (pos 0)) (into_iter_items l.part-iterator))
    ≡ l.fn.parts.items ++ map said_by (map (kept_content l.name l.tags (pos 0)) l.fn.said.items)

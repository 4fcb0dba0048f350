use Rattle.std.proofs.Common.{◌≡◌, ◌++◌, take}
use Rattle.std.specs.Prelude.{flat_map}
use Rattle.graphite_text.specs.Pieces.{host_text}
use Rattle.graphite_text.proofs.write.append_hosts.Given as goal

abbrev pub invariant-loop-tag : goal.invariant-loop-tag
invariant-loop-tag l = l.out.items ≡ l.fn.out.items ++ flat_map host_text (take l.tag-index l.tags)

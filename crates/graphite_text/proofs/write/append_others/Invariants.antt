use Rattle.std.proofs.Common.{◌≡◌, ◌++◌, take}
use Rattle.std.specs.Prelude.{flat_map}
use Rattle.graphite_text.specs.Pieces.{other_text}
use Rattle.graphite_text.proofs.write.append_others.Given as goal

abbrev pub invariant-loop-tag : goal.invariant-loop-tag
invariant-loop-tag l = l.out.items ≡ l.fn.out.items ++ flat_map other_text (take l.tag-index l.tags)

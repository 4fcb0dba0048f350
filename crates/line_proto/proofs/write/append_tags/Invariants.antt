use Rattle.std.proofs.Common.{◌≡◌, ◌++◌, take}
use Rattle.std.specs.List.{flat_map}
use Rattle.line_proto.specs.LineText.{tag_text}
use Rattle.line_proto.proofs.write.append_tags.Given as goal

abbrev pub invariant-loop-tag : goal.invariant-loop-tag
invariant-loop-tag l = l.out.items ≡ l.fn.out.items ++ flat_map tag_text (take l.tag-index l.tags)

use Rattle.std.proofs.Common.{◌≡◌, ◌++◌, take}
use Rattle.std.specs.List.{flat_map}
use Rattle.std.specs.Prelude.{codes}
use Rattle.line_proto.specs.LineText.{field_text}
use Rattle.line_proto.proofs.write.append_rest.Given as goal

abbrev pub invariant-loop-field : goal.invariant-loop-field
invariant-loop-field l = l.out.items ≡ l.fn.out.items ++ flat_map (λ field. codes "," ++ field_text field)
    (take l.field-index l.fields)

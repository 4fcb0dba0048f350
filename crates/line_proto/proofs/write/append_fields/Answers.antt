use Rattle.std.proofs.Common.{◌++◌, take, drop, length, ◌-◌, arith, subst}
use Rattle.std.specs.List.{flat_map}
use Rattle.std.specs.Prelude.{codes, List, ℕ}
use Rattle.line_proto.specs.LineText.{field_text}
use Rattle.text_parts.specs.Adds.{Adds}
use Rattle.line_proto.proofs.WriteLemmas.{first_field}
use Rattle.text_parts.proofs.Adding.{adds_after}
use Rattle.line_proto.proofs.write.append_fields.Goals as goal

pub returns-in_ok-append_field-in-len1-up : goal.returns-in_ok-append_field-in-len1-up
returns-in_ok-append_field-in-len1-up c =
    let fields = c.args.fields.now in
    let old = c.args.out.now.items in
    let rest = flat_map (λ field. codes "," ++ field_text field) (take (length fields - 1) (drop 1 fields)) in
    let all = adds_after c.append_rest.result old c.append_field.new.out.items c.append_rest.new.out.items
    (field_text c.first-item.result) rest c.in_ok-append_field-in-len1-up.ensures c.append_rest.ensures in
    subst (λ (text : List ℕ). Adds c.append_rest.result old c.append_rest.new.out.items text)
    (first_field fields c.first-item.result (omega arith) c.first-item.is) all

use Rattle.std.proofs.Common.{◌++◌}
use Rattle.std.specs.List.{flat_map, join_by}
use Rattle.std.specs.Prelude.{codes}
use Rattle.line_proto.specs.LineText.{head_text, name_text, tag_text, field_text}
use Rattle.text_parts.proofs.Adding.{after, adds_after}
use Rattle.line_proto.proofs.write.append_head.Goals as goal

pub returns : goal.returns
unfolding head_text
returns c =
    let name = name_text c.name.result.now in
    let tags = flat_map tag_text c.tags.result.now in
    let fields = join_by field_text (codes ",") c.fields.result.now in
    let old = c.args.out.now.items in
    let with_tags = after old c.append_name.new.out.items c.append_tags.new.out.items name tags
    c.in_ok-append_name.ensures c.in_ok-append_tags.ensures in
    let with_space = after old c.append_tags.new.out.items c.push.new.self.items (name ++ tags)
    (codes " ") with_tags c.in_ok-push.ensures.items in
    let all = adds_after c.append_fields.result old c.push.new.self.items c.append_fields.new.out.items
    (name ++ tags ++ codes " ") fields with_space c.append_fields.ensures in
    rw (c.name.ensures.name, c.tags.ensures, c.fields.ensures) at all

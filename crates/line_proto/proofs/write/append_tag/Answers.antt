use Rattle.std.proofs.Common.{◌++◌}
use Rattle.std.specs.Prelude.{codes}
use Rattle.line_proto.specs.LineText.{key_text, tag_text}
use Rattle.text_parts.proofs.Adding.{after, adds_after}
use Rattle.line_proto.proofs.write.append_tag.Goals as goal

pub returns : goal.returns
unfolding tag_text
returns c =
    let key = key_text c.args.tag.now.0 in
    let old = c.args.out.now.items in
    let with_key = after old c.push.new.self.items c.append_key.new.out.items (codes ",") key c.in_ok-push.ensures.items
    c.in_ok-append_key.ensures in
    let with_sign = after old c.append_key.new.out.items c.push-2.new.self.items (codes "," ++ key)
    (codes "=") with_key c.in_ok-push-2.ensures.items in
    adds_after c.append_key-2.result old c.push-2.new.self.items c.append_key-2.new.out.items
    (codes "," ++ key ++ codes "=") (key_text c.args.tag.now.1) with_sign c.append_key-2.ensures

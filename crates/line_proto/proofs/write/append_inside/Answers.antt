use Rattle.std.proofs.Common.{◌≡◌, List, ℕ, ap, subst, sym, ◌∙◌, rules}
use Rattle.text_parts.specs.Adds.{Adds}
use Rattle.text_parts.specs.Escaped.{escaped}
use Rattle.line_proto.specs.LineText.{on_one_line, text_escapes}
use Rattle.line_proto.proofs.EscapedParts.{text_same}
use Rattle.line_proto.proofs.WordLemmas.{word_quoted}
use Rattle.line_proto.proofs.write.append_inside.Goals as goal

pub append_part-requires : goal.append_part-requires
append_part-requires c = λ plain.
    let same : c.as_bytes.result.now ≡ c.args.text.now = search rules in
    text_same (on_one_line c.as_bytes.result.now) ∙ ap (λ (text : List ℕ). escaped text_escapes (on_one_line text)) same
    ∙ sym (word_quoted c.args.text.now plain)

pub returns : goal.returns
returns c =
    let same : c.as_bytes.result.now ≡ c.args.text.now = search rules in
    subst (λ (text : List ℕ). Adds c.append_part.result c.args.out.now.items c.append_part.new.out.items text)
    (text_same (on_one_line c.as_bytes.result.now) ∙ ap (λ (text : List ℕ). escaped text_escapes (on_one_line text))
    same) c.append_part.ensures

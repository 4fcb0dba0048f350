use Rattle.std.proofs.Common.{◌++◌, ◌≡◌, length, ap, sym, ◌∙◌, arith, subst}
use Rattle.std.specs.Prelude.{List, ℕ}
use Rattle.std.proofs.lemmas.Bool.{eqb-true, eqb-false}
use Rattle.line_proto.specs.LineText.{trimmed, on_one_line}
use Rattle.text_parts.specs.Adds.{Adds}
use Rattle.line_proto.proofs.WriteLemmas.{empty_key, kept_key}
use Rattle.line_proto.proofs.EscapedParts.{key_same}
use Rattle.line_proto.proofs.write.append_any_key.Goals as goal

pub returns-then-is_empty : goal.returns-then-is_empty
returns-then-is_empty c =
    let is = c.trim-kept.ensures ∙ ap trimmed (c.as_bytes.ensures.value ∙ c.as_str.ensures) in
    let none : length c.trim-kept.result.now ≡ 0 = eqb-true _ _ (sym c.is_empty.ensures ∙ c.if-is_empty.true) in
    c.in_ok-push.ensures.items ∙ ap (λ text. c.args.out.now.items ++ text)
    (sym (empty_key c.args.key.now c.trim-kept.result.now is none))

pub returns : goal.returns
returns c =
    let is = c.trim-kept.ensures ∙ ap trimmed (c.as_bytes.ensures.value ∙ c.as_str.ensures) in
    let some : length c.trim-kept.result.now ≡ 0 → ⊥ = eqb-false _ _ (sym c.is_empty.ensures ∙ c.if-is_empty.false) in
    subst (λ (text : List ℕ). Adds c.append_in_line.result c.args.out.now.items c.append_in_line.new.out.items text)
    (key_same (on_one_line c.trim-kept.result.now) ∙ kept_key c.args.key.now c.trim-kept.result.now is (omega arith))
    c.append_in_line.ensures

use Rattle.std.proofs.Common.{◌++◌, ◌∷◌, [], ◌≡◌, length, take, drop, ◌-◌, ap, sym, ◌∙◌, arith, subst}
use Rattle.std.specs.Prelude.{List, ℕ}
use Rattle.std.proofs.lemmas.Bool.{eqb-true, eqb-false, ne_eqb}
use Rattle.line_proto.specs.LineText.{trimmed, on_one_line, name_escapes}
use Rattle.text_parts.specs.Escaped.{escaped}
use Rattle.text_parts.specs.Adds.{Adds}
use Rattle.line_proto.proofs.WriteLemmas.{empty_name, hashed_name, kept_name}
use Rattle.line_proto.proofs.EscapedParts.{name_same}
use Rattle.line_proto.proofs.WordLemmas.{plain_trimmed, word_name}
use Rattle.text_parts.proofs.Adding.{adds_after}
use Rattle.line_proto.proofs.write.append_name.Goals as goal

pub returns-then-is_empty : goal.returns-then-is_empty
returns-then-is_empty c =
    let is = c.trim-kept.ensures ∙ ap trimmed (c.as_bytes.ensures.value ∙ c.as_str.ensures) in
    let none : length c.trim-kept.result.now ≡ 0 = eqb-true _ _ (sym c.is_empty.ensures ∙ c.if-is_empty.true) in
    c.in_ok-push.ensures.items ∙ ap (λ text. c.args.out.now.items ++ text)
    (sym (empty_name c.args.name.now c.trim-kept.result.now is none))

pub returns-then-kept-eq35 : goal.returns-then-kept-eq35
returns-then-kept-eq35 c =
    let is = c.trim-kept.ensures ∙ ap trimmed (c.as_bytes.ensures.value ∙ c.as_str.ensures) in
    let some : length c.trim-kept.result.now ≡ 0 → ⊥ = eqb-false _ _ (sym c.is_empty.ensures ∙ c.if-is_empty.false) in
    let kept = c.trim-kept.result.now in
    let old = c.args.out.now.items in
    let rest = escaped name_escapes (on_one_line (take (length kept - 1) (drop 1 kept))) in
    subst (λ (text : List ℕ). Adds c.append_in_line.result old c.append_in_line.new.out.items text)
    (hashed_name c.args.name.now kept is (omega arith) c.if-kept-eq35.true)
    (adds_after c.append_in_line.result old c.push-then-kept-eq35.new.self.items c.append_in_line.new.out.items
    (95 ∷ []) rest c.in_ok-push-2.ensures.items
    (subst (λ (text : List ℕ). Adds c.append_in_line.result c.push-then-kept-eq35.new.self.items
    c.append_in_line.new.out.items text) (name_same (on_one_line (take (length kept - 1) (drop 1 kept))))
    c.append_in_line.ensures))

pub append_part-requires : goal.append_part-requires
append_part-requires c = λ plain.
    let is = c.trim-kept.ensures ∙ ap trimmed (c.as_bytes.ensures.value ∙ c.as_str.ensures) in
    let some : length c.trim-kept.result.now ≡ 0 → ⊥ = eqb-false _ _ (sym c.is_empty.ensures ∙ c.if-is_empty.false) in
    let no_hash = ne_eqb _ _ c.if-kept-eq35.false in
    name_same (on_one_line c.trim-kept.result.now) ∙ kept_name c.args.name.now c.trim-kept.result.now 0 is
    (omega arith) no_hash ∙ sym (word_name c.args.name.now c.trim-kept.result.now is (omega arith) no_hash plain)
    ∙ is ∙ plain_trimmed c.args.name.now plain

pub returns : goal.returns
returns c =
    let is = c.trim-kept.ensures ∙ ap trimmed (c.as_bytes.ensures.value ∙ c.as_str.ensures) in
    let some : length c.trim-kept.result.now ≡ 0 → ⊥ = eqb-false _ _ (sym c.is_empty.ensures ∙ c.if-is_empty.false) in
    subst (λ (text : List ℕ). Adds c.append_part.result c.args.out.now.items c.append_part.new.out.items text)
    (name_same (on_one_line c.trim-kept.result.now) ∙ kept_name c.args.name.now c.trim-kept.result.now 0 is
    (omega arith) (ne_eqb _ _ c.if-kept-eq35.false)) c.append_part.ensures

use Rattle.std.proofs.Common.{◌≡◌, ◌++◌, List, ℕ, length, ap, sym, subst, ◌∙◌, arith}
use Rattle.std.specs.Prelude.{OnOk}
use Rattle.std.proofs.lemmas.Bool.{eqb-true, eqb-false}
use Rattle.line_proto.specs.LineText.{key_text}
use Rattle.text_parts.proofs.Adding.{appended}
use Rattle.line_proto.proofs.WriteLemmas.{empty_key}
use Rattle.line_proto.proofs.WordLemmas.{plain_key, plain_trimmed}
use Rattle.line_proto.proofs.write.append_plain_key.Goals as goal

pub returns-then-is_empty : goal.returns-then-is_empty
returns-then-is_empty c =
    let none : length c.args.key.now ≡ 0 =
    sym (ap length c.as_str.ensures) ∙ eqb-true _ _ (sym c.is_empty.ensures ∙ c.if-is_empty.true) in
    c.in_ok-push.ensures.items ∙ ap (λ (text : List ℕ). c.args.out.now.items ++ text)
    (sym (empty_key c.args.key.now c.args.key.now (sym (plain_trimmed c.args.key.now c.requires)) none))

pub returns : goal.returns
returns c =
    let some : length c.args.key.now ≡ 0 → ⊥ =
    λ none. eqb-false _ _ (sym c.is_empty.ensures ∙ c.if-is_empty.false) (ap length c.as_str.ensures ∙ none) in
    appended c.append.result c.args.out.now.items c.append.new.out.items (key_text c.args.key.now)
    (subst (λ (text : List ℕ). OnOk c.append.result (c.append.new.out.items ≡ c.args.out.now.items ++ text))
    (sym (plain_key c.args.key.now (omega (arith, some)) c.requires)) c.append.ensures.ok) c.append.ensures.err

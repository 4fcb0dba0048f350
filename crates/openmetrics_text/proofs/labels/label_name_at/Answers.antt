use Rattle.std.proofs.Common.{◌≡◌, ◌+◌, ◌∙◌, length, get_or, sym, subst, arith}
use Rattle.std.proofs.Common.{eqb}
use Rattle.std.proofs.lemmas.Bool.{and_parts}
use Rattle.std.specs.Str.{IsCharBoundary}
use Rattle.openmetrics_text.proofs.Offsets.{behind_test}
use Rattle.openmetrics_text.proofs.labels.label_name_at.Goals as goal

pub returns-clause-behind : goal.returns-clause-behind
returns-clause-behind c =
    let opened = and_parts (eqb (get_or c.args.line.now (c.args.i + c.name_len-n.result) 0) 61)
    (eqb (get_or c.args.line.now (c.args.i + c.name_len-n.result + 1) 0) 34)
    (sym c.is_opened_at.ensures ∙ c.if-not-is_opened_at.false) in
    let offset : c.args.i + c.name_len-n.result + 1 + 1 ≡ c.args.i + length c.split_at-2.result.0.now + 2 =
    omega (arith, c.split_at-2.ensures.front_len) in
    subst (IsCharBoundary c.args.line.now) offset (behind_test c.args.line.now (c.args.i + c.name_len-n.result + 1) 34
    (omega arith) (omega arith) c.utf8.line opened.1)

use Rattle.std.proofs.Common.{subst}
use Rattle.regex.specs.Failures.{IsRightKind}
use Rattle.regex.specs.Patterns.{default_config}
use Rattle.proc_regex.proofs.PatternLemmas.{read_from, refused}
use Rattle.proc_regex.proofs.rewrite.regex_of.Goals as goal

pub returns-in-Ok-clause-read : goal.returns-in-Ok-clause-read
returns-in-Ok-clause-read c =
    (read_from c.args.pattern.now c.in-Ok.regex c.in-Ok.ensures.source c.in-Ok.ensures.config c.in-Ok.ensures.read).0

pub returns-in-Ok-clause-pattern : goal.returns-in-Ok-clause-pattern
returns-in-Ok-clause-pattern c =
    (read_from c.args.pattern.now c.in-Ok.regex c.in-Ok.ensures.source c.in-Ok.ensures.config c.in-Ok.ensures.read).1

pub returns-in-Err-Syntax-clause-bad : goal.returns-in-Err-Syntax-clause-bad
returns-in-Err-Syntax-clause-bad c =
    let text = c.args.pattern.now in
    let e = c.in-Err-Syntax in
    λ bad. refused text e.field-0-0.kind (e.ensures.by_grammar e.field-0-0 e.field-0-is)
    (subst (IsRightKind default_config text) e.field-0-is e.ensures.kind)

use Rattle.std.proofs.Common.{◌≡◌, ◌≤◌, ◌<◌, length, false, arith}
use Rattle.std.specs.Prelude.{◌==◌}
use Rattle.std.proofs.lemmas.Bool.{ne_eqb}
use Rattle.journal_reader.proofs.TextLemmas.{bare, short, escape}
use Rattle.journal_reader.proofs.metrics.meant_first.Goals as goal

pub returns-then-first-ne37-clause-value : goal.returns-then-first-ne37-clause-value
returns-then-first-ne37-clause-value c =
    bare c.args.first c.args.others.now (ne_eqb c.args.first 37 (λ e. absurd (omega (arith, c.if-first-ne37.true, e))))

pub returns-in_default-clause-value : goal.returns-in_default-clause-value
returns-in_default-clause-value c = short c.args.first c.args.others.now (omega (arith, c.in_default.len_below))

pub returns-in-len2-up-clause-value : goal.returns-in-len2-up-clause-value
returns-in-len2-up-clause-value c =
    escape c.args.first c.args.others.now c.digit_of.result c.digit_of-in-len2-up.result
    (omega (arith, c.if-first-ne37.false)) (omega (arith, c.in-len2-up.len_at_least)) c.digit_of.ensures.value
    c.digit_of-in-len2-up.ensures.value

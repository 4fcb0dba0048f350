use Rattle.std.proofs.Common.{sym, ap, ◌∙◌, arith, List, ℕ}
use Rattle.std.specs.Str.{bytes_eq}
use Rattle.metric.proofs.FieldLemmas.{found, nowhere}
use Rattle.metric.proofs.builder.field_at.Goals as goal

pub returns-then-eq : goal.returns-then-eq
returns-then-eq c = found c.args.key.now c.args.fields.now c.loop-at.at c.index-fields-at.result c.loop-at-test.true
    (sym (ap (λ (text : List ℕ). bytes_eq text c.args.key.now) c.as_str.ensures) ∙ sym c.eq.ensures ∙ c.if-eq.true)
    c.loop-at.invariant

pub returns : goal.returns
returns c = nowhere c.args.key.now c.args.fields.now
    (λ k d before. c.loop-at.invariant k d (omega (arith, c.loop-at-test.false)))

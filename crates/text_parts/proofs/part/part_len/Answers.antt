use Rattle.std.proofs.Common.{arith, ◌∙◌, sym}
use Rattle.text_parts.specs.Kinds.{kind_of}
use Rattle.text_parts.proofs.Parts.{escape_at, end_at, more_at, all_read}
use Rattle.text_parts.proofs.part.part_len.Goals as goal

pub loop-i-preserved-then-escape_at : goal.loop-i-preserved-then-escape_at
loop-i-preserved-then-escape_at c =
    let step = escape_at (kind_of c.args.part.now) c.args.bytes.now c.loop-i.i
    (sym c.escape_at.ensures ∙ c.if-escape_at.true) in
    (step.0, omega (arith, step.1, c.loop-i.invariant.1))

pub returns-then-ends_before-clause-value : goal.returns-then-ends_before-clause-value
returns-then-ends_before-clause-value c =
    let step = end_at (kind_of c.args.part.now) c.args.bytes.now c.loop-i.i
    (sym c.escape_at.ensures ∙ c.if-escape_at.false) c.loop-i-test.true
    (sym c.ends_before.ensures ∙ c.if-ends_before.true) in
    omega (arith, step, c.loop-i.invariant.1)

pub loop-i-preserved : goal.loop-i-preserved
loop-i-preserved c =
    let step = more_at (kind_of c.args.part.now) c.args.bytes.now c.loop-i.i
    (sym c.escape_at.ensures ∙ c.if-escape_at.false) c.loop-i-test.true
    (sym c.ends_before.ensures ∙ c.if-ends_before.false) in
    (omega arith, omega (arith, step, c.loop-i.invariant.1))

pub returns-clause-value : goal.returns-clause-value
returns-clause-value c =
    let step = all_read (kind_of c.args.part.now) c.args.bytes.now c.loop-i.i c.loop-i-test.false in
    omega (arith, step, c.loop-i.invariant.1)

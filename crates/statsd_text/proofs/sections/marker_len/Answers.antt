use Rattle.std.proofs.Common.{sym, ◌∙◌, arith}
use Rattle.statsd_text.proofs.Lacking.{end_at, more_at, all_read}
use Rattle.statsd_text.proofs.sections.marker_len.Goals as goal

pub returns-then-marker_at-clause-value : goal.returns-then-marker_at-clause-value
returns-then-marker_at-clause-value c =
    let is = sym c.marker_at.ensures ∙ c.if-marker_at.true in
    omega (arith, end_at c.args.bytes.now c.loop-i.i is)

pub loop-i-preserved : goal.loop-i-preserved
loop-i-preserved c =
    let is = sym c.marker_at.ensures ∙ c.if-marker_at.false in
    record { within = omega arith; so_far = omega (arith, more_at c.args.bytes.now c.loop-i.i is c.loop-i-test.true) }

pub returns-clause-value : goal.returns-clause-value
returns-clause-value c = omega (arith, all_read c.args.bytes.now c.loop-i.i c.loop-i-test.false)

use Rattle.std.proofs.Common.{◌∙◌, sym, arith, true, false, map}
use Rattle.format_words.specs.Views.{now_of}
use Rattle.format_words.proofs.Serving.{filter_longer, begins_at, begins_end}
use Rattle.format_words.proofs.template.begins_with.Goals as goal

pub returns-then-segments-filter : goal.returns-then-segments-filter
returns-then-segments-filter c = sym (filter_longer c.args.filter.now c.args.segments.now c.if-segments-filter.true)

pub returns-then-not-admits : goal.returns-then-not-admits
returns-then-not-admits c =
    let one = begins_at c.args.filter.now c.args.segments.now _ c.loop-i.i c.index-filter-i.result false
    c.loop-i-test.true (omega (arith, c.loop-i-test.true, c.if-segments-filter.false)) c.index-filter-i.is
    (sym c.admits.ensures ∙ c.if-not-admits.true) in
    sym one ∙ c.loop-i.invariant

pub loop-i-preserved : goal.loop-i-preserved
loop-i-preserved c =
    let one = begins_at c.args.filter.now c.args.segments.now _ c.loop-i.i c.index-filter-i.result true
    c.loop-i-test.true (omega (arith, c.loop-i-test.true, c.if-segments-filter.false)) c.index-filter-i.is
    (sym c.admits.ensures ∙ c.if-not-admits.false) in
    sym one ∙ c.loop-i.invariant

pub returns : goal.returns
returns c = sym (begins_end c.args.filter.now (map now_of c.args.segments.now) c.loop-i.i c.loop-i-test.false)
    ∙ c.loop-i.invariant

use Rattle.std.proofs.Common.{sym, ◌∙◌}
use Rattle.journal_reader.proofs.EachLemmas.{one_view, no_view, views_end, views_torn}
use Rattle.journal_reader.proofs.views.take_agg_views.Goals as goal

pub returns-then-is : goal.returns-then-is
returns-then-is c =
    views_end c.args.whole.now c.args.words.now c.loop-word.words c.loop-word.views c.in-Some.word.now c.next.new.self
    c.loop-word.invariant c.in-Some.ensures.next (sym c.is.ensures ∙ c.if-is.true)

pub returns-in_default-2 : goal.returns-in_default-2
returns-in_default-2 c =
    no_view c.args.whole.now c.args.words.now c.loop-word.words c.loop-word.views c.in-Some.word.now c.next.new.self
    c.loop-word.invariant c.in-Some.ensures.next (sym c.is.ensures ∙ c.if-is.false)
    (sym c.in_default-2.is ∙ c.in_ok-view.ensures)

pub loop-word-preserved : goal.loop-word-preserved
loop-word-preserved c =
    rw c.in_ok-push.ensures.ok (one_view c.args.whole.now c.args.words.now c.loop-word.words c.loop-word.views
    c.in-Some.word.now c.next.new.self c.in-Some-2.view c.loop-word.invariant c.in-Some.ensures.next
    (sym c.is.ensures ∙ c.if-is.false) (sym c.in-Some-2.is ∙ c.in_ok-view.ensures))

pub returns : goal.returns
returns c =
    views_torn c.args.whole.now c.args.words.now c.loop-word.words c.loop-word.views c.loop-word.invariant
    c.in_default.ensures.next

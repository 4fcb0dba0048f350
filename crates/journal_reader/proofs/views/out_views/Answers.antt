use Rattle.std.proofs.Common.{Some, sym, ◌∙◌}
use Rattle.journal_reader.specs.EntryReading.{view_of}
use Rattle.journal_reader.proofs.EachLemmas.{one_more, none_read, all_read}
use Rattle.journal_reader.proofs.views.out_views.Goals as goal

pub returns-in_default-2 : goal.returns-in_default-2
returns-in_default-2 c =
    none_read (view_of (Some c.args.whole.now)) c.args.words.now c.loop-word.words c.loop-word.views c.in-Some.word.now
    c.next.new.self c.loop-word.invariant c.in-Some.ensures.next (sym c.in_default-2.is ∙ c.in_ok-view.ensures)

pub loop-word-preserved : goal.loop-word-preserved
loop-word-preserved c =
    rw c.in_ok-push.ensures.ok (one_more (view_of (Some c.args.whole.now)) c.args.words.now c.loop-word.words
    c.loop-word.views c.in-Some.word.now c.next.new.self c.in-Some-2.view c.loop-word.invariant c.in-Some.ensures.next
    (sym c.in-Some-2.is ∙ c.in_ok-view.ensures))

pub returns : goal.returns
returns c =
    all_read (view_of (Some c.args.whole.now)) c.args.words.now c.loop-word.words c.loop-word.views
    c.loop-word.invariant
    c.in_default.ensures.next

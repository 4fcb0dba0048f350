use Rattle.std.proofs.Common.{sym, ◌∙◌}
use Rattle.journal_reader.specs.MetricReading.{pair_of}
use Rattle.journal_reader.proofs.EachLemmas.{one_more, none_read, all_read}
use Rattle.journal_reader.proofs.metrics.pairs_of.Goals as goal

pub returns-in_default-2 : goal.returns-in_default-2
returns-in_default-2 g c =
    none_read (pair_of g.B.Behind.says) c.args.parts.now c.loop-part.parts c.loop-part.pairs c.in-Some.part.now
    c.next.new.self c.loop-part.invariant c.in-Some.ensures.next (sym c.in_default-2.is ∙ c.in_ok-pair.ensures)

pub loop-part-preserved : goal.loop-part-preserved
loop-part-preserved g c =
    rw c.in_ok-push.ensures.ok (one_more (pair_of g.B.Behind.says) c.args.parts.now c.loop-part.parts c.loop-part.pairs
    c.in-Some.part.now c.next.new.self c.in-Some-2.pair c.loop-part.invariant c.in-Some.ensures.next
    (sym c.in-Some-2.is ∙ c.in_ok-pair.ensures))

pub returns : goal.returns
returns g c =
    all_read (pair_of g.B.Behind.says) c.args.parts.now c.loop-part.parts c.loop-part.pairs c.loop-part.invariant
    c.in_default.ensures.next

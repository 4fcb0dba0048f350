use Rattle.journal_reader.proofs.TextLemmas.{unescaped_end}
use Rattle.journal_reader.proofs.metrics.unescaped.Goals as goal

pub returns : goal.returns
returns c =
    unescaped_end c.loop-first.text.items c.loop-first.rest.now _ c.loop-first.invariant c.in_default.ensures.cases

use Rattle.std.proofs.Common.{List, take, [], ◌∷◌, ◌++◌, sym, ap, ◌∙◌}
use Rattle.metric.specs.declared.metric.Content.{Content}
use Rattle.formats.proofs.WritingLemmas.{taken}
use Rattle.formats.proofs.writing.copies_of.Goals as goal

pub loop-i-preserved : goal.loop-i-preserved
loop-i-preserved g c =
    c.in_ok-push.ensures.items ∙ ap (λ (ms : List Content). ms ++ c.in_ok-copy.field-0 ∷ []) c.loop-i.invariant
    ∙ ap (λ (m : Content). take c.loop-i.i (g.M.Metrics.all c.args.metrics.now) ++ m ∷ []) c.in_ok-copy.ensures
    ∙ sym (taken (g.M.Metrics.all c.args.metrics.now) c.loop-i.i c.at.result.now c.at.ensures)

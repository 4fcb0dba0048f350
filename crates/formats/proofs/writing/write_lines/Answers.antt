use Rattle.std.proofs.Common.{ℕ, List, ◌++◌, sym, ap, ◌∙◌}
use Rattle.formats.specs.Lines.{lines_in}
use Rattle.formats.proofs.WritingLemmas.{written}
use Rattle.formats.proofs.writing.write_lines.Goals as goal

pub loop-i-preserved : goal.loop-i-preserved
loop-i-preserved g c =
    c.in_ok-append_lines.ensures.ok
    ∙ ap (λ (xs : List ℕ). xs ++ lines_in c.args.format c.at.result.now) c.loop-i.invariant
    ∙ sym (written (lines_in c.args.format) (g.M.Metrics.all c.args.metrics.now) c.loop-i.i c.at.result.now
    c.at.ensures)

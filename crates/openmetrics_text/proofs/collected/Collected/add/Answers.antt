use Rattle.std.proofs.Common.{◌++◌, ◌∷◌, [], sym, subst}
use Rattle.openmetrics_text.specs.declared.line.Line.{Line}
use Rattle.openmetrics_text.specs.Collecting.{HaveSaid}
use Rattle.openmetrics_text.specs.Views.{line_view}
use Rattle.openmetrics_text.proofs.SaidLemmas.{said_nothing}
use Rattle.openmetrics_text.proofs.collected.Collected.add.Goals as goal

pub returns-in-Nothing : goal.returns-in-Nothing
returns-in-Nothing c = λ lines moment typed h.
    subst (λ (l : Line). HaveSaid moment typed c.args.self.now (lines ++ line_view l ∷ [])) (sym c.in-Nothing.is)
    (said_nothing moment typed c.args.self.now lines h)

use Rattle.std.proofs.Common.{List, length}
use Rattle.text_parts.proofs.Each.{HasRead}
use Rattle.openmetrics_text.specs.Collecting.{HaveSaid}
use Rattle.openmetrics_text.specs.Lines.{LineSays}
use Rattle.openmetrics_text.specs.Reading.{line_at}
use Rattle.openmetrics_text.proofs.read.read_lines.Given as goal

abbrev pub invariant-loop-line : goal.invariant-loop-line
invariant-loop-line l = (says : List LineSays) × HasRead (line_at l.passing) l.initial.lines says l.lines
    × HaveSaid l.moment l.typed l.collected says

abbrev pub decreases-loop-line : goal.decreases-loop-line
decreases-loop-line l = length l.lines

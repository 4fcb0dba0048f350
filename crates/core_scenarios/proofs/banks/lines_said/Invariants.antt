use Rattle.std.specs.Prelude.{All}
use Rattle.account.specs.AggLines.{IsLine}
use Rattle.core_scenarios.proofs.banks.lines_said.Given as goal

abbrev pub invariant-loop-part : goal.invariant-loop-part
invariant-loop-part l = All IsLine l.lines.items

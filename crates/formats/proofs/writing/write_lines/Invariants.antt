use Rattle.std.proofs.Common.{◌≡◌, take}
use Rattle.std.specs.List.{flat_map}
use Rattle.formats.specs.Lines.{lines_in}
use Rattle.formats.proofs.writing.write_lines.Given as goal

abbrev pub invariant-loop-i : goal.invariant-loop-i
invariant-loop-i g l = l.out.items ≡ flat_map (lines_in l.format) (take l.i (g.M.Metrics.all l.metrics))

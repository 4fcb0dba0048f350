use Rattle.openmetrics_text.proofs.Sweeping.{Sweeps}
use Rattle.openmetrics_text.proofs.families.append_all.Given as goal

abbrev pub invariant-loop-time : goal.invariant-loop-time
invariant-loop-time l = Sweeps l.fn.out.items l.out.items l.lines.entries l._time-iterator (λ e. e.1.now)

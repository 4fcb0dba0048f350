-- Lines of aggregators.
use Rattle.std.specs.Prelude.{◌≤ℤ◌, pos}
use Rattle.account.specs.declared.setup.AggLine.{AggLine}

-- a period is at least 1 ns, delay and grace are at least 0 ns
pub record IsLine (line : AggLine) : Type 0 where
  pub period : pos 1 ≤ℤ line.period
  pub delay : pos 0 ≤ℤ line.delay
  pub grace : pos 0 ≤ℤ line.grace

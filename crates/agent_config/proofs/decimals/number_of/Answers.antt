use Rattle.std.proofs.Common.{arith}
use Rattle.agent_config.proofs.DecimalLemmas.{too_long}
use Rattle.agent_config.proofs.decimals.number_of.Goals as goal

pub returns-then-number : goal.returns-then-number
returns-then-number c =
    too_long c.loop-digit.number c.loop-digit.digit-index _ c.args.digits.now (omega arith) (omega arith)
    c.loop-digit.invariant

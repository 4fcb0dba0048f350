use Rattle.std.proofs.Common.{sym, ap}
use Rattle.agent_base.specs.Failing.{count_of, is_numbered}
use Rattle.agent_base.proofs.SlotLemmas.{at_index, no_position}
use Rattle.agent_base.proofs.memory.failing.Goals as goal

pub returns-in-Some : goal.returns-in-Some
returns-in-Some c = sym (ap count_of (at_index (is_numbered c.args.number) c.args.fails.now c.in-Some.at (0, 0)
    (sym c.in-Some.ensures)))

pub returns-in-None : goal.returns-in-None
returns-in-None c = sym (ap count_of (no_position (is_numbered c.args.number) c.args.fails.now (sym c.in-None.ensures)))

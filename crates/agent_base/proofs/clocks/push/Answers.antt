use Rattle.agent_base.proofs.SlotLemmas.{clock_added, clocks_beside_added}
use Rattle.agent_base.proofs.clocks.push.Goals as goal

pub returns-clause-kept : goal.returns-clause-kept
returns-clause-kept c = rw c.in_ok-push.ensures.items (clock_added c.args.clocks.now.items c.args.who c.args.clock
    c.requires)

pub returns-clause-others : goal.returns-clause-others
returns-clause-others c = rw c.in_ok-push.ensures.items (clocks_beside_added c.args.clocks.now.items c.args.who
    c.args.clock)

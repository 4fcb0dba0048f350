use Rattle.agent_base.proofs.BufferLemmas.{none_clean, none_last}
use Rattle.agent_base.proofs.buffer.Buffer.skip_all.Goals as goal

pub invariant_of-self-clause-clean : goal.invariant_of-self-clause-clean
invariant_of-self-clause-clean c = none_clean c.args.self.now.kind c.args.self.now.buf.items 0

pub invariant_of-self-clause-last : goal.invariant_of-self-clause-last
invariant_of-self-clause-last c = none_last c.args.self.now.buf.items 0

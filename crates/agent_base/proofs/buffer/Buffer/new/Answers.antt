use Rattle.agent_base.proofs.BufferLemmas.{none_clean, none_last}
use Rattle.agent_base.proofs.buffer.Buffer.new.Goals as goal

pub invariant_of-result-clause-clean : goal.invariant_of-result-clause-clean
invariant_of-result-clause-clean c = none_clean c.args.kind c.in_ok-buf.buf.items 0

pub invariant_of-result-clause-last : goal.invariant_of-result-clause-last
invariant_of-result-clause-last c = none_last c.in_ok-buf.buf.items 0

use Rattle.agent_base.proofs.BufferLemmas.{begun_last}
use Rattle.agent_base.proofs.buffer.Buffer.begin_line.Goals as goal

pub invariant_of-self-clause-clean : goal.invariant_of-self-clause-clean
invariant_of-self-clause-clean c = c.requires.scanned.clean

pub invariant_of-self-clause-last : goal.invariant_of-self-clause-last
invariant_of-self-clause-last c = begun_last c.args.self.now.kind c.args.self.now.buf.items c.args.self.now.start
    c.args.at c.requires.scanned

use Rattle.agent_base.proofs.Cuts.{first_newline}
use Rattle.agent_base.proofs.buffer.newline_in.Goals as goal

pub returns : goal.returns
returns c = first_newline c.args.bytes.now c.memchr.result c.memchr.ensures

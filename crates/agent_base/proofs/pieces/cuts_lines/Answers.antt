use Rattle.agent_base.proofs.LineLaws as laws
use Rattle.agent_base.proofs.pieces.cuts_lines.Goals as goal

pub returns : goal.returns
returns c = laws.cuts_lines

use Rattle.agent_base.proofs.ExpositionLaws as laws
use Rattle.agent_base.proofs.pieces.cuts_expositions.Goals as goal

pub returns : goal.returns
returns c = laws.cuts_expositions

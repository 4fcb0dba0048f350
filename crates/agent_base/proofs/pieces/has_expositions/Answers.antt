use Rattle.agent_base.proofs.ExpositionLaws as laws
use Rattle.agent_base.proofs.pieces.has_expositions.Goals as goal

pub returns : goal.returns
returns c = laws.each_has_expositions

use Rattle.fixed_num.proofs.Nearest.{rounds_to_nearest}
use Rattle.fixed_num.proofs.laws.rounds_to_nearest.Goals as goal

pub returns : goal.returns
returns c = rounds_to_nearest

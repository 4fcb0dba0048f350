use Rattle.out_lane.proofs.LaneLemmas.{keeps_buffered}
use Rattle.out_lane.proofs.laws.positions_buffered.Goals as goal

pub returns : goal.returns
returns g c = keeps_buffered

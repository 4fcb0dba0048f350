use Rattle.std.proofs.Common.{◌-◌, length}
use Rattle.proc_chain.proofs.chain.+push_from.Given as goal

abbrev pub decreases-push_from : goal.decreases-push_from
decreases-push_from l = length l.stages.now.items - l.at

use Rattle.metric.proofs.GlobScanLemmas.{run_at}
use Rattle.metric.proofs.glob_scan.past_run.Goals as goal

pub returns : goal.returns
returns c = λ most. run_at most _ _ _ _ c.requires

use Rattle.metric.proofs.GlobScanLemmas.{misses_rest, ends_both}
use Rattle.metric.proofs.glob_scan.at_end.Goals as goal

pub retry-requires : goal.retry-requires
retry-requires c = misses_rest _ _ _ _ c.requires c.in-Some.ensures

pub returns-in-None : goal.returns-in-None
returns-in-None c = λ most h. ends_both _ _ _ c.requires c.in-None.ensures

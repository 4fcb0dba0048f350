use Rattle.std.proofs.Common.{sym, ◌∙◌}
use Rattle.metric.proofs.GlobScanLemmas.{one_at, misses_one, misses_end}
use Rattle.metric.proofs.glob_scan.past_one.Goals as goal

pub retry-requires : goal.retry-requires
retry-requires c = misses_end _ _ _ _ c.requires.elements c.in_default.ensures c.requires.single

pub retry-requires-then-not-stands_for : goal.retry-requires-then-not-stands_for
retry-requires-then-not-stands_for c =
    misses_one _ _ _ _ _ _ c.requires.elements c.in-Some.ensures c.requires.single
    (sym c.stands_for.ensures ∙ c.if-not-stands_for.true)

pub returns : goal.returns
returns c =
    λ most. one_at most _ _ _ _ _ _ _ c.requires.elements c.in-Some.ensures (sym c.stands_for.ensures
    ∙ c.if-not-stands_for.false)

use Rattle.std.proofs.Common.{◌∙◌, ap}
use Rattle.agg_stats.specs.Kept.{Memory}
use Rattle.agg_stats.proofs.MemberLemmas.{none_stand}
use Rattle.agg_stats.proofs.stats.Stats.forget.Goals as goal

pub returns : goal.returns
returns c = λ kind members stands.
    none_stand kind _ (ap (λ (m : Memory). m.asked) c.self.view_is ∙ stands.same) c.clear-2.ensures.items

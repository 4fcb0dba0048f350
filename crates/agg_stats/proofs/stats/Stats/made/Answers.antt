use Rattle.std.proofs.Common.{◌∙◌, ℤ, ap, subst, sym}
use Rattle.std.specs.Int.{w64}
use Rattle.std.specs.List.{flat_map}
use Rattle.std.proofs.lemmas.Int.{to_z-of_z}
use Rattle.agg_stats.specs.Kept.{made_at, StandsFor}
use Rattle.agg_stats.specs.StatsView.{memory_of}
use Rattle.agg_stats.proofs.MemberLemmas.{made_is}
use Rattle.agg_stats.proofs.stats.Stats.made.Goals as goal

pub returns : goal.returns
returns c = λ kind members stands.
    let asked = c.self.inside.asked in
    let time = c.args.time in
    c.in_ok-made.ensures
    ∙ ap (λ (t : ℤ). flat_map (made_at asked t) c.as_slice.result.now) (to_z-of_z w64 time c.ranges.time)
    ∙ ap (flat_map (made_at asked time)) c.as_slice.ensures.value
    ∙ made_is kind time members (memory_of c.self.inside)
    (subst (StandsFor kind members) (sym c.self.view_is) stands)

use Rattle.std.proofs.Common.{◌≡◌, ◌∙◌, ℤ, ap, sym, to_z, of_z}
use Rattle.std.specs.Int.{w64}
use Rattle.std.proofs.lemmas.Int.{to_z-of_z}
use Rattle.agg_keep.specs.Final.{gives}
use Rattle.agg_keep.specs.FinalKept.{held}
use Rattle.agg_keep.proofs.FinalLemmas.{dropped, undropped}
use Rattle.agg_keep.proofs.final_map.drop_one.Goals.{After-gives}
use Rattle.agg_keep.proofs.final_map.drop_one.Goals as goal

-- whether the series is given
due : (c : After-gives)
    → gives c.args.timeout c.args.closing (held c.args.kept.now.entries c.args.series.now) ≡ c.gives.result
due c =
    let last = held c.args.kept.now.entries c.args.series.now in
    ap (λ (t : ℤ). gives t c.args.closing last) (sym (to_z-of_z w64 c.args.timeout c.ranges.timeout))
    ∙ ap (gives (to_z w64 (of_z w64 c.args.timeout)) c.args.closing) (sym c.held_of.ensures) ∙ sym c.gives.ensures

pub returns-then-gives : goal.returns-then-gives
returns-then-gives c =
    dropped c.args.timeout c.args.closing c.args.kept.now.entries c.remove.new.self.entries c.args.series.now
    (due (goal.at.returns-then-gives c).After-gives ∙ c.if-gives.true) (c.remove.ensures.updates).0

pub returns-else-gives : goal.returns-else-gives
returns-else-gives c =
    undropped c.args.timeout c.args.closing c.args.kept.now.entries c.args.series.now
    (due (goal.at.returns-else-gives c).After-gives ∙ c.if-gives.false)

use Rattle.std.proofs.Common.{◌∙◌, ℤ, List, ap, refl, subst, sym, rules, to_z, of_z}
use Rattle.std.specs.Int.{w64}
use Rattle.std.proofs.lemmas.Int.{to_z-of_z}
use Rattle.metric.specs.Series.{Series}
use Rattle.agg_keep.specs.FinalKept.{held, left_held, FinalStandsFor}
use Rattle.agg_keep.specs.FinalView.{final_memory}
use Rattle.agg_keep.proofs.FinalLemmas.{closing_at, left}
use Rattle.agg_keep.proofs.finals.Final.forget.Goals as goal

pub returns : goal.returns
returns c = λ timeout members stands.
    let i = c.self.inside in
    let closing = closing_at c.args.moment c.args.all in
    left timeout closing members (final_memory i) _
    (subst (FinalStandsFor timeout members) (sym c.self.view_is) stands) refl
    (λ q. c.drop_given.ensures q
    ∙ ap (λ (m : ℤ). left_held (to_z w64 (of_z w64 i.timeout)) (closing_at m c.args.all) c.as_slice.result.now q
    (held i.kept.entries q)) (to_z-of_z w64 c.args.moment c.ranges.moment)
    ∙ ap (λ (t : ℤ). left_held t closing c.as_slice.result.now q (held i.kept.entries q))
    (to_z-of_z w64 i.timeout (search rules))
    ∙ ap (λ (order : List Series). left_held i.timeout closing order q (held i.kept.entries q))
    c.as_slice.ensures.value)
    c.keep_held.ensures

use Rattle.std.proofs.Common.{◌∙◌, ℤ, ap, subst, sym, rules, to_z, of_z}
use Rattle.std.specs.Int.{w64}
use Rattle.std.specs.List.{flat_map}
use Rattle.std.proofs.lemmas.Int.{to_z-of_z}
use Rattle.agg_keep.specs.FinalKept.{given_at, FinalStandsFor}
use Rattle.agg_keep.specs.FinalView.{final_memory}
use Rattle.agg_keep.proofs.FinalLemmas.{closing_at, made_is}
use Rattle.agg_keep.proofs.finals.Final.made.Goals as goal

pub returns : goal.returns
returns c = λ timeout members stands.
    let i = c.self.inside in
    let closing = closing_at c.args.moment c.args.all in
    let order = c.as_slice-order.result.now in
    c.in_ok-made.ensures
    ∙ ap (λ (m : ℤ). flat_map (given_at (to_z w64 (of_z w64 i.timeout)) (closing_at m c.args.all) i.kept.entries) order)
    (to_z-of_z w64 c.args.moment c.ranges.moment)
    ∙ ap (λ (t : ℤ). flat_map (given_at t closing i.kept.entries) order) (to_z-of_z w64 i.timeout (search rules))
    ∙ ap (flat_map (given_at i.timeout closing i.kept.entries)) c.as_slice-order.ensures.value
    ∙ made_is timeout closing members (final_memory i)
    (subst (FinalStandsFor timeout members) (sym c.self.view_is) stands)

use Rattle.std.proofs.Common.{◌∙◌, ℤ, ap, subst}
use Rattle.std.specs.Int.{w64}
use Rattle.std.proofs.lemmas.Int.{to_z-of_z}
use Rattle.agg_keep.specs.Final.{finals_of, left_of}
use Rattle.agg_keep.specs.FinalKept.{FinalStandsFor}
use Rattle.agg_keep.proofs.FinalLemmas.{closing_at}
use Rattle.agg_keep.proofs.finals.Final.emit.Goals as goal

pub returns-clause-made : goal.returns-clause-made
returns-clause-made c = λ timeout members stands.
    c.in_ok-made.ensures timeout members stands
    ∙ ap (λ (moment : ℤ). finals_of timeout (closing_at moment c.args.all) members)
    (to_z-of_z w64 c.args.moment c.ranges.moment)

pub returns-clause-ok : goal.returns-clause-ok
returns-clause-ok c = λ timeout members stands.
    subst (λ (moment : ℤ). FinalStandsFor timeout (left_of timeout (closing_at moment c.args.all) members)
    c.forget.new.self) (to_z-of_z w64 c.args.moment c.ranges.moment) (c.forget.ensures timeout members stands)

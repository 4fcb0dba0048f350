use Rattle.std.proofs.Common.{◌≡◌, ◌<◌, ◌∙◌, ℕ, List, true, false, length, sym, subst, arith}
use Rattle.std.specs.List.{list_all}
use Rattle.metric.specs.Pairs.{has_key}
use Rattle.metric.proofs.metric.Metric.with_tags.Goals as goal

pub returns-clause-known : goal.returns-clause-known
returns-clause-known c = λ all.
    let lt : c.behind_known-from.result < length c.args.given.now =
    omega (arith, c.behind_known-from.ensures.within, c.if-from-given.false) in
    let none = subst (λ (tags : List (List ℕ × List ℕ)). list_all (λ tag. has_key tags tag.0) c.args.given.now ≡ false)
    c.tags.ensures (c.behind_known-from.ensures.unknown lt) in
    let e : true ≡ false = sym all ∙ none in
    absurd cc

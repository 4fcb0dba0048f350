use Rattle.std.proofs.Common.{ℕ, ◌≡◌, rules, subst, get_or, Result, IsOkAnd}
use Rattle.std.proofs.lemmas.List.Sorted.{answers_always}
use Rattle.track_groups.specs.declared.group.LiveGroup.{LiveGroup}
use Rattle.track_groups.proofs.PlaceLemmas.{searched}
use Rattle.track_groups.proofs.group.place_of.Goals as goal

pub unreachable-requires : goal.unreachable-requires
unreachable-requires c =
    let by_key =
    c.binary_search_by_key.ensures.position (λ (group : LiveGroup). group.number)
    (answers_always _ _ _ (λ f a r g called. search rules))
    in
    subst
    (λ (r : Result ℕ ℕ). IsOkAnd r (λ at. (d : LiveGroup) → (get_or c.args.live.now.items at d).number ≡ c.args.number))
    c.in-Err.is
    (searched c.args.number c.args.live.now.items c.requires.rising c.requires.live _ by_key)

pub returns-clause-found : goal.returns-clause-found
returns-clause-found c =
    let by_key =
    c.binary_search_by_key.ensures.position (λ (group : LiveGroup). group.number)
    (answers_always _ _ _ (λ f a r g called. search rules))
    in
    subst
    (λ (r : Result ℕ ℕ). IsOkAnd r (λ at. (d : LiveGroup) → (get_or c.args.live.now.items at d).number ≡ c.args.number))
    c.in-Ok.is
    (searched c.args.number c.args.live.now.items c.requires.rising c.requires.live _ by_key)

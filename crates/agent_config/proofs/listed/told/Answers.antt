use Rattle.std.proofs.Common.{map, take, ap, sym, ◌∙◌}
use Rattle.std.proofs.lemmas.List.{take-map}
use Rattle.agent_config.specs.Found.{found_view, founds_view}
use Rattle.agent_config.specs.Listed.{listed_of}
use Rattle.agent_config.proofs.listed.told.Goals as goal

pub returns-clause-first : goal.returns-clause-first
returns-clause-first c =
    let items = c.as_slice-all.result.now in
    c.in_ok-listed.ensures
    ∙ ap (λ them. map listed_of (founds_view them)) c.front.ensures
    ∙ ap (map listed_of) (sym (take-map found_view c.args.most items))
    ∙ sym (take-map listed_of c.args.most (founds_view items))
    ∙ ap (λ them. take c.args.most (map listed_of them))
    (ap founds_view c.as_slice-all.ensures.value ∙ c.in_ok-unfollowed.ensures)

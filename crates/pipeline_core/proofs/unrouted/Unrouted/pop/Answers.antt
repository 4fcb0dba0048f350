use Rattle.std.proofs.Common.{◌≡◌, ◌<◌, ◌∙◌, slice_get, Some, ◌≤◌, length, sym, ap, subst}
use Rattle.std.specs.List.{All}
use Rattle.pipeline_core.specs.declared.unrouted.Together.{Together}
use Rattle.pipeline_core.specs.UnroutedView.{UnroutedState, made_of}
use Rattle.pipeline_core.proofs.UnroutedLemmas.{first_is, has_rows, each_behind}
use Rattle.pipeline_core.proofs.unrouted.Unrouted.pop.Goals as goal

-- src/unrouted.rt:91:13
pub returns-then-first-gt1-clause-first : goal.returns-then-first-gt1-clause-first
returns-then-first-gt1-clause-first c =
    subst (λ (u : UnroutedState). slice_get u.groups 0 ≡ Some c.index-first.result.now.group) c.self.view_is
    (first_is (λ (row : Together). row.group) c.self.inside.rows.items c.index-first.result.now c.self.invariant
    (has_rows made_of c.self.inside.rows.items (subst (λ (u : UnroutedState). 0 < length u.made)
    (sym c.self.view_is) c.requires))
    ∙ ap (λ (row : Together). Some row.group) (sym c.index-first.ensures))

-- src/unrouted.rt:82:5
pub invariant_of-self-2 : goal.invariant_of-self-2
invariant_of-self-2 c =
    subst (All (λ (row : Together). 1 ≤ row.count)) (sym c.pop_front.ensures.rest)
    (each_behind c.self.inside.rows.items c.self.invariant)

use Rattle.std.proofs.Common.{◌≡◌, ◌<◌, ◌∙◌, slice_get, Some, length}
use Rattle.std.proofs.Common.{sym, ap, subst}
use Rattle.pipeline_core.specs.declared.unrouted.Together.{Together}
use Rattle.pipeline_core.specs.UnroutedView.{UnroutedState, made_of}
use Rattle.pipeline_core.proofs.UnroutedLemmas.{first_is, has_rows}
use Rattle.pipeline_core.proofs.unrouted.Unrouted.is_first_made.Goals as goal

-- src/unrouted.rt:74:5
pub returns : goal.returns
returns c =
    subst (λ (u : UnroutedState). slice_get u.made 0 ≡ Some c.index.result.now.made) c.self.view_is
    (first_is (λ (row : Together). row.made) c.self.inside.rows.items c.index.result.now c.self.invariant
    (has_rows made_of c.self.inside.rows.items (subst (λ (u : UnroutedState). 0 < length u.made)
    (sym c.self.view_is) c.requires))
    ∙ ap (λ (row : Together). Some row.made) (sym c.index.ensures))

use Rattle.std.proofs.Common.{◌≡◌, ◌∙◌, [], ◌∷◌, refl, sym, ap, length}
use Rattle.pipeline_core.specs.declared.room.Views.{Views}
use Rattle.pipeline_core.specs.ViewList.{listed_views}
use Rattle.pipeline_core.specs.Steps.{lanes_with, outputs_with}
use Rattle.pipeline_core.proofs.Offering.{Offered, only_offered, offered_lanes, offered_numbers}
use Rattle.pipeline_core.proofs.routing.offer_views.Goals.{After-offer_view}
use Rattle.pipeline_core.proofs.routing.offer_views.Goals as goal

only : (c : After-offer_view) → Offered c.args.item c.args.outputs.now.items c.args.account.now (c.in-One.view ∷ []) []
    c.offer_view.new.outputs.items c.offer_view.new.account
only c =
    only_offered c.args.item c.args.outputs.now.items c.args.account.now c.in-One.view
    c.offer_view.new.outputs.items c.offer_view.new.account
    (ap (λ (v : Views). length (listed_views v)) (sym c.in-One.is) ∙ c.requires.views) c.requires.numbers
    c.offer_view.ensures.lanes c.offer_view.ensures.account

pub returns-in-One-clause-lanes : goal.returns-in-One-clause-lanes
returns-in-One-clause-lanes c =
    offered_lanes c.args.item c.args.outputs.now.items c.args.account.now (c.in-One.view ∷ []) []
    c.offer_view.new.outputs.items c.offer_view.new.account refl
    (only (goal.at.returns-in-One-clause-lanes c).After-offer_view)
    ∙ ap (λ (v : Views). lanes_with c.args.item (listed_views v) c.args.outputs.now.items) (sym c.in-One.is)

pub returns-in-One-clause-account : goal.returns-in-One-clause-account
returns-in-One-clause-account c =
    offered_numbers c.args.item c.args.outputs.now.items c.args.account.now (c.in-One.view ∷ []) []
    c.offer_view.new.outputs.items c.offer_view.new.account refl c.requires.numbers
    (only (goal.at.returns-in-One-clause-account c).After-offer_view)
    ∙ ap (λ (v : Views). record c.args.account.now {
      outputs = outputs_with (listed_views v) c.args.outputs.now.items c.args.account.now.outputs;
    }) (sym c.in-One.is)

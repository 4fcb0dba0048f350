-- What a journal offers to an output, and what became of it.
use Rattle.std.specs.Prelude.{ℕ, ◌==◌, List, [], ◌∷◌, ◌++◌, map, slice_get, if◌then◌else◌}
use Rattle.std.specs.declared.option.Option.{Option}
use Rattle.std.specs.declared.option.Option.TheVariants.{Some, None}
use Rattle.metric.specs.declared.metric.Content.{Content}
use Rattle.account.specs.declared.entry.Entry.{Entry}
use Rattle.account.specs.declared.entry.Entry.TheVariants.{Route, Begin}
use Rattle.account.specs.Says.{DoneSays, done_of}
use Rattle.account.specs.declared.entry.Verdict.{Verdict}
use Rattle.account.specs.declared.entry.Verdict.TheVariants.{Passes}
use Rattle.out_lane.specs.LaneEvents.{LaneEvent}
use Rattle.out_lane.specs.LaneEvents as lane
use Rattle.pipeline_core.specs.declared.output.Offer.{Offer}

-- the view at an output, where there is one
abbrev pub view_among : Option (Option Content) → Option Content
view_among None = None
view_among (Some view) = view

abbrev pub view_at : ℕ → List (Option Content) → Option Content
view_at output outs = view_among (slice_get outs output)

-- an item's view as an offer, where there is one
abbrev pub offer_of : ℕ → Option Content → List Offer
offer_of item None = []
offer_of item (Some view) = record { item = item; view = view } ∷ []

-- an item that passes offers its view at an output, where it has one there
abbrev pub offered : ℕ → Verdict → Option Content → List Offer
offered item Passes view = offer_of item view
offered item _ view = []

-- what an entry offers to an output
abbrev pub offered_by : ℕ → Entry → List Offer
offered_by output (Route item whole verdict aggs outs reports) = offered item verdict (view_at output outs)
offered_by output _ = []

-- what the entries offer to an output, in order: each view with its item; a place in this list is a position
unfoldable pub offers : ℕ → List Entry → List Offer
offers output [] = []
offers output (e ∷ es) = offered_by output e ++ offers output es

-- the views of offers
abbrev pub offered_views : List Offer → List Content
offered_views all = map (λ (offer : Offer). offer.view) all

-- what is offered comes to the output
abbrev pub pushes : List Offer → List LaneEvent
pushes [] = []
pushes (offer ∷ others) = lane.Push ∷ pushes others

-- the end of a batch, where it is one of the output
abbrev pub ends_said : ℕ → Option DoneSays → List LaneEvent
ends_said output None = []
ends_said output (Some says) = if says.output == output then lane.Done says.ok ∷ [] else []

-- what an entry does at an output
abbrev pub lane_events_by : ℕ → Entry → List LaneEvent
lane_events_by output (Route item whole verdict aggs outs reports) =
    pushes (offered item verdict (view_at output outs))
lane_events_by output (Begin number from to) = if number == output then lane.Begin from to ∷ [] else []
lane_events_by output e = ends_said output (done_of e)

-- what the entries do at an output
unfoldable pub lane_events : ℕ → List Entry → List LaneEvent
lane_events output [] = []
lane_events output (e ∷ es) = lane_events_by output e ++ lane_events output es

-- How an output is seen.
use Rattle.std.specs.Prelude.{◌≡◌, ◌≤◌, [], IsSome, length, vec_capacity}
use Rattle.out_lane.specs.Lane.{LaneState}
use Rattle.pipeline_core.specs.declared.output.Offer.{Offer}
use Rattle.pipeline_core.specs.declared.output.Output.TheInside.{Inside}

-- an output is seen as its lane
abbrev pub output_state : Inside → LaneState Offer
output_state o = o.lane

-- no more wait than may, and what comes back of a batch in flight has room
pub record IsOutputKept (o : Inside) : Type 0 where
  pub size : o.lane.batch ≡ o.batch
  pub some : 1 ≤ o.lane.batch
  pub waits : length o.lane.waiting ≤ o.lane.limit
  pub most : 1 ≤ o.lane.limit
  pub none : o.back.items ≡ []
  pub room : IsSome o.lane.flight → o.lane.batch ≤ vec_capacity o.back

-- Lists of calls of a server.
use Rattle.std.specs.Prelude.{◌≡◌, List, [], ◌∷◌, ◌++◌}
use Rattle.metric.specs.declared.metric.Content.{Content}
use Rattle.statsd_server.specs.Packets.{Packet}
use Rattle.statsd_server.specs.Served.{served}
use Rattle.statsd_server.specs.Server.{ServerMemory, StandsFor}

-- a call that answered Ok
pub data ServerCall : Type 0 where
  Take : Packet → ServerCall
  -- with the metrics that it gave
  Gather : List Content → ServerCall

-- each gather gives what is served of its packets, which are those since the one before, behind the earlier groups
unfoldable pub GatherServed : List (List Packet) → List Packet → List ServerCall → Type 0
GatherServed earlier hand [] = Unit {0}
GatherServed earlier hand (Take packet ∷ calls) = GatherServed earlier (hand ++ packet ∷ []) calls
GatherServed earlier hand (Gather metrics ∷ calls) =
    (metrics ≡ served earlier hand) × GatherServed (earlier ++ hand ∷ []) [] calls

-- what the contract of a call says of the server before it and behind it, where it answered Ok
abbrev pub Serves : ServerCall → ServerMemory → ServerMemory → Type 0
Serves (Take packet) old new =
    (earlier : List (List Packet)) (hand : List Packet) → StandsFor earlier hand old
    → StandsFor earlier (hand ++ packet ∷ []) new
Serves (Gather metrics) old new =
    (earlier : List (List Packet)) (hand : List Packet) → StandsFor earlier hand old
    → (metrics ≡ served earlier hand) × StandsFor (earlier ++ hand ∷ []) [] new

-- the calls go from one server to another, each as its contract says
unfoldable pub Goes : ServerMemory → List ServerCall → ServerMemory → Type 0
Goes old [] new = new ≡ old
Goes old (call ∷ calls) new = (mid : ServerMemory) × Serves call old mid × Goes mid calls new

-- whatever list of calls comes behind a new one
abbrev pub CallsServe : Type 0
CallsServe =
    (first last : ServerMemory) (calls : List ServerCall) → StandsFor [] [] first → Goes first calls last
    → GatherServed [] [] calls

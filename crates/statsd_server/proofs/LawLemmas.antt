-- Each gather gives what is served of its packets.
use Rattle.std.proofs.Common.{List, [], ◌∷◌, ◌++◌}
use Rattle.statsd_server.specs.Laws.{CallsServe, GatherServed, Goes, ServerCall, Gather, Take}
use Rattle.statsd_server.specs.Packets.{Packet}
use Rattle.statsd_server.specs.Server.{ServerMemory, StandsFor}

from : (earlier : List (List Packet)) (hand : List Packet) (first last : ServerMemory) (calls : List ServerCall)
    → StandsFor earlier hand first → Goes first calls last → GatherServed earlier hand calls
unfolding GatherServed Goes
from earlier hand first last [] h goes = tt
from earlier hand first last (Take packet ∷ calls) h goes =
    from earlier (hand ++ packet ∷ []) goes.0 last calls (goes.1 earlier hand h) goes.2
from earlier hand first last (Gather metrics ∷ calls) h goes =
    let given = goes.1 earlier hand h in
    (given.0, from (earlier ++ hand ∷ []) [] goes.0 last calls given.1 goes.2)

pub calls_serve : CallsServe
calls_serve = λ first last calls h goes. from [] [] first last calls h goes

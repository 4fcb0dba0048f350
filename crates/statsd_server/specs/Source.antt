-- What a source of a server's text tells.
use Rattle.std.specs.Prelude.{◌+◌, ℕ, List, Option}
use Rattle.std.specs.Io.KnownBytes.{prepend_known}
use Rattle.agent_base.specs.Carried.{Carried}
use Rattle.statsd_server.specs.declared.source.StatsdSource.{StatsdSource}
use Rattle.statsd_server.specs.Datagrams.{Arriving}
use Rattle.statsd_server.specs.Outgoing.{text_in}
use Rattle.statsd_server.specs.Receiving.{told_text}

-- the text in hand, and what is served of what is left
abbrev pub bytes_of : {D : Type 0} → (D → Arriving) → StatsdSource D → Option (List ℕ)
bytes_of told source =
    prepend_known (text_in source.outgoing) (told_text source.receiving (told source.datagrams).left)

abbrev pub source_told : {D : Type 0} → (D → Arriving) → StatsdSource D → Carried
source_told told source = record { bytes = bytes_of told source; faults = (told source.datagrams).faults }

-- what its datagrams tell, and how many of them a read takes at most
abbrev pub arriving_of : {D : Type 0} → (D → Arriving) → StatsdSource D → Arriving
arriving_of told source = told source.datagrams

abbrev pub most_taken : {D : Type 0} → StatsdSource D → ℕ
most_taken source = source.receiving.packets + source.receiving.quiet_limit

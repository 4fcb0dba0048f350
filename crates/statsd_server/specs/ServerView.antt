-- How what a server keeps is seen.
use Rattle.statsd_server.specs.Server.{ServerMemory}
use Rattle.statsd_server.specs.TallyView.{memory_of}
use Rattle.statsd_server.specs.declared.server.Server.TheInside.{Inside}

abbrev pub server_memory : Inside → ServerMemory
server_memory s = record { packets = s.packets; tally = memory_of s.tally }

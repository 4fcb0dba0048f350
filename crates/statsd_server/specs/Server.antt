-- What a server stands for.
use Rattle.std.specs.Prelude.{◌≡◌, ◌+◌, ℕ, List, length}
use Rattle.statsd_server.specs.Counting.{counted, counted_in}
use Rattle.statsd_server.specs.Kept.{Keeps, Memory}
use Rattle.statsd_server.specs.Packets.{lines_in, parts_in, refused_lines, Packet}

-- how many packets there are in the group in hand, and what is kept of their parts
pub record ServerMemory : Type 0 where
  pub packets : ℕ
  pub tally : Memory

-- it stands for earlier groups, and for the packets in hand
pub record StandsFor (earlier : List (List Packet)) (hand : List Packet) (memory : ServerMemory) : Type 0 where
  pub packets : memory.packets ≡ length hand
  pub keeps : Keeps (counted_in earlier) (counted (counted_in earlier) (parts_in hand)) memory.tally
  pub all : memory.tally.counted + memory.tally.refused ≡ refused_lines (lines_in hand) + length (parts_in hand)

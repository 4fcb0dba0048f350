-- What groups of packets and quiets are.
use Rattle.std.specs.Prelude.{◌≡◌, ◌≤◌, List, [], ◌∷◌, ◌++◌, length}
use Rattle.std.specs.List.{flat_map, AllByRecursion}
use Rattle.statsd_server.specs.declared.datagrams.Dgram.{Dgram}
use Rattle.statsd_server.specs.declared.datagrams.Dgram.TheVariants as datagrams
use Rattle.statsd_server.specs.Groups.{groups, Rule}
use Rattle.statsd_server.specs.Packets.{Packet}

-- the packets among packets and quiets
abbrev pub packets_among : List Dgram → List Packet
packets_among [] = []
packets_among (datagrams.Packet packet ∷ left) = packet ∷ packets_among left
packets_among (datagrams.Quiet ∷ left) = packets_among left

-- a group has at least one packet, and no more than the rule says
abbrev pub IsGroup : Rule → List Packet → Type 0
IsGroup rule group = (1 ≤ length group) × (length group ≤ rule.packets)

-- the packets of all groups, one group behind the other
abbrev pub packets_of : List (List Packet) → List Packet
packets_of groups = flat_map (λ group. group) groups

-- each is a group, and all packets stand in the groups, in their order, but for those that aren't received, behind them
pub record AreGroups (rule : Rule) (left : List Dgram) : Type 0 where
  pub each : AllByRecursion (IsGroup rule) (groups rule [] 0 left)
  pub rest : List Packet
  pub all : packets_among left ≡ packets_of (groups rule [] 0 left) ++ rest

-- of whatever packets and quiets
abbrev pub GroupsHold : Type 0
GroupsHold = (rule : Rule) (left : List Dgram) → 1 ≤ rule.packets → AreGroups rule left

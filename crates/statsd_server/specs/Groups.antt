-- Groups of packets, and the text that is served of them.
use Rattle.std.specs.Prelude.{ℕ, ◌+◌, ◌==◌, nat_lt, List, [], ◌∷◌, ◌++◌, length, if◌then◌else◌}
use Rattle.std.specs.List.{flat_map}
use Rattle.line_proto.specs.LineText.{untimed_text}
use Rattle.metric.specs.declared.metric.Content.{Content}
use Rattle.statsd_server.specs.declared.datagrams.Dgram.{Dgram}
use Rattle.statsd_server.specs.declared.datagrams.Dgram.TheVariants as datagrams
use Rattle.statsd_server.specs.Packets.{Packet}
use Rattle.statsd_server.specs.Served.{served}

-- how many packets a group has, and how many quiets in succession before a group end the list; both at least 1
pub record Rule : Type 0 where
  pub packets : ℕ
  pub quiet_limit : ℕ

-- the groups of packets and quiets, where a group has begun with some packets, in hand, and so many quiets were counted
-- before it. A group is the next packets, as many as the rule says; it is closed with fewer, but at least one, by a
-- quiet or by the end behind them. A quiet before a group is counted, from 0 behind each group, and belongs to none;
-- that which closes a group isn't counted. Where as many are counted as the rule says, the list counts as ended
unfoldable pub groups : Rule → List Packet → ℕ → List Dgram → List (List Packet)
groups rule hand quiets [] = if length hand == 0 then [] else hand ∷ []
groups rule hand quiets (datagrams.Packet packet ∷ left) =
    if nat_lt (length hand + 1) rule.packets then groups rule (hand ++ packet ∷ []) 0 left
    else (hand ++ packet ∷ []) ∷ groups rule [] 0 left
groups rule hand quiets (datagrams.Quiet ∷ left) =
    if length hand == 0
    then (if nat_lt (quiets + 1) rule.quiet_limit then groups rule [] (quiets + 1) left else [])
    else hand ∷ groups rule [] 0 left

-- the lines of metrics, without times
abbrev pub lines_text : List Content → List ℕ
lines_text metrics = flat_map untimed_text metrics

-- the text that is served of groups, behind earlier groups
unfoldable pub served_text : List (List Packet) → List (List Packet) → List ℕ
served_text earlier [] = []
served_text earlier (group ∷ groups) = lines_text (served earlier group) ++ served_text (earlier ++ group ∷ []) groups

-- what is to come: packets and quiets, by a rule, where a group has begun or may begin and so many quiets were counted
-- before it; or the same behind a group in hand that is whole
pub data Coming : Type 0 where
  Growing : Rule → ℕ → List Dgram → Coming
  Whole : Rule → List Dgram → Coming

-- the groups that it makes, with the packets in hand
abbrev pub groups_of : Coming → List Packet → List (List Packet)
groups_of (Growing rule quiets left) hand = groups rule hand quiets left
groups_of (Whole rule left) hand = hand ∷ groups rule [] 0 left

-- what comes behind a packet more, where so many are in hand with it
abbrev pub behind_packet : Rule → ℕ → List Dgram → Coming
behind_packet rule packets left = if nat_lt packets rule.packets then Growing rule 0 left else Whole rule left

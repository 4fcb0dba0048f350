-- Where the receiving of a group stands.
use Rattle.std.specs.Prelude.{ℕ, ◌+◌, ◌-◌, ◌==◌, nat_lt, List, [], ◌∷◌, take, if◌then◌else◌, ⊤}
use Rattle.statsd_server.specs.declared.datagrams.Dgram.{Dgram}
use Rattle.statsd_server.specs.declared.datagrams.Dgram.TheVariants as datagrams
use Rattle.statsd_server.specs.declared.stage.Stage.{Stage}
use Rattle.statsd_server.specs.declared.stage.Stage.TheVariants.{Open, Pending, Complete, Ended}
use Rattle.statsd_server.specs.Groups.{Coming, Growing, Rule, Whole}

-- how many quiets were counted, and how many bytes a packet has that isn't in hand yet
abbrev pub quiets_in : Stage → ℕ
quiets_in (Open quiets) = quiets
quiets_in stage = 0

abbrev pub pending_in : Stage → ℕ
pending_in (Pending size) = size
pending_in stage = 0

-- behind a packet, with which so many are in hand
abbrev pub behind_packet : ℕ → ℕ → Stage
behind_packet packets in_hand = if nat_lt in_hand packets then Open 0 else Complete

-- behind a quiet, where so many packets are in hand, and so many quiets were counted before
abbrev pub behind_quiet : ℕ → ℕ → ℕ → Stage
behind_quiet limit in_hand quiets =
    if in_hand == 0 then (if nat_lt (quiets + 1) limit then Open (quiets + 1) else Ended) else Complete

-- at the end, where so many packets are in hand
abbrev pub behind_end : ℕ → Stage
behind_end in_hand = if in_hand == 0 then Ended else Complete

-- no packet waits to be in hand
abbrev pub IsClear : Stage → Type 0
IsClear (Pending size) = ⊥
IsClear stage = ⊤

-- a group is whole, or nothing more is received
abbrev pub IsSettled : Stage → Type 0
IsSettled Complete = ⊤
IsSettled Ended = ⊤
IsSettled stage = ⊥

-- the text that is served of what is left, by the text that a server serves, and the buffer
abbrev pub text_by : (Coming → List ℕ) → Rule → Stage → List ℕ → List Dgram → List ℕ
text_by text rule (Open quiets) buffer left = text (Growing rule quiets left)
text_by text rule (Pending size) buffer left = text (Growing rule 0 (datagrams.Packet (take size buffer) ∷ left))
text_by text rule Complete buffer left = text (Whole rule left)
text_by text rule Ended buffer left = []

-- how many datagrams are received at most until a group is whole or nothing more is received, where so many packets are
-- in hand
abbrev pub turns : Rule → ℕ → Stage → ℕ
turns rule in_hand (Open quiets) =
    if in_hand == 0 then rule.packets + (rule.quiet_limit - quiets) else 1 + (rule.packets - in_hand)
turns rule in_hand (Pending size) = rule.packets - in_hand
turns rule in_hand stage = 0

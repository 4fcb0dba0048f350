-- What the calls of a server make of the text that it serves of what is to come.
use Rattle.std.specs.Prelude.{◌≡◌, ◌++◌, ℕ, List, ◌∷◌}
use Rattle.metric.specs.declared.metric.Content.{Content}
use Rattle.statsd_server.specs.declared.datagrams.Dgram.{Dgram}
use Rattle.statsd_server.specs.declared.datagrams.Dgram.TheVariants as datagrams
use Rattle.statsd_server.specs.Groups.{behind_packet, lines_text, Coming, Growing, Rule, Whole}
use Rattle.statsd_server.specs.Packets.{Packet}

-- a packet that was to come is in hand, so many with it
abbrev pub HasTaken : (Coming → List ℕ) → (Coming → List ℕ) → Packet → ℕ → Type 0
HasTaken old new packet packets = (rule : Rule) (quiets : ℕ) (left : List Dgram)
    → old (Growing rule quiets (datagrams.Packet packet ∷ left)) ≡ new (behind_packet rule packets left)

-- a whole group in hand was gathered
abbrev pub HasGathered : (Coming → List ℕ) → (Coming → List ℕ) → List Content → Type 0
HasGathered old new metrics = (rule : Rule) (left : List Dgram)
    → old (Whole rule left) ≡ lines_text metrics ++ new (Growing rule 0 left)

-- the text is as before
abbrev pub IsAsBefore : (Coming → List ℕ) → (Coming → List ℕ) → Type 0
IsAsBefore old new = (coming : Coming) → new coming ≡ old coming

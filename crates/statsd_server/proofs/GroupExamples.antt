-- Groups of packets and quiets that are written out.
use Rattle.std.proofs.Common.{◌≡◌, ℕ, List, [], ◌∷◌, ◌++◌, refl}
use Rattle.std.specs.Prelude.{codes}
use Rattle.std.specs.Fmt.{digits}
use Rattle.std.specs.Str.{chars, is_utf8}
use lib.Utf8.{encode}
use Rattle.metric.specs.Pairs.{with_sorted, in_key_order_on}
use Rattle.fixed_num.specs.Canonical.{places_of}
use Rattle.fixed_num.specs.Decimal.{billionths, decimal_of, with_exponent}
use Rattle.fixed_num.specs.Rounded.{rounded}
use Rattle.text_parts.specs.Escaped.{escaped}
use Rattle.text_parts.specs.Split.{each, first_part, parts_of}
use Rattle.line_proto.specs.LineText.{field_text, head_text, key_text, name_text, tag_text, untimed_text, value_text}
use Rattle.statsd_text.specs.Reading.{line_reading, reading, text_reading}
use Rattle.statsd_text.specs.Said.{part_of, rate_of, texts_of, type_of}
use Rattle.statsd_text.specs.Sections.{marker_len, sections}
use Rattle.statsd_text.specs.Tags.{head_of, head_tag, later_tag, later_tags}
use Rattle.agg_keep.specs.Keyed.{firsts}
use Rattle.statsd_server.specs.declared.datagrams.Dgram.{Dgram}
use Rattle.statsd_server.specs.declared.datagrams.Dgram.TheVariants.{Packet, Quiet}
use Rattle.statsd_server.specs.Counting.{counted, counted_in}
use Rattle.statsd_server.specs.Groups.{groups, served_text, Rule}
use Rattle.statsd_server.specs.Packets.{lines_from, Packet as Bytes}
use Rattle.agg_stats.specs.Summary.{sum_of}
use Rattle.statsd_server.specs.Parts.{change_of, kind_of}
use Rattle.statsd_server.specs.Served.{metric_with, own_metric}

-- a packet of one byte
abbrev p : ℕ → Bytes
p n = n ∷ []

-- two packets a group, and two quiets end the list
abbrev two : Rule
two = record { packets = 2; quiet_limit = 2 }

abbrev one : Rule
one = record { packets = 1; quiet_limit = 1 }

-- the last packet stands behind two quiets before a group, so that it isn't received
abbrev some : List Dgram
some = Packet (p 1) ∷ Packet (p 2) ∷ Packet (p 3) ∷ Quiet ∷ Packet (p 4) ∷ Quiet ∷ Quiet ∷ Packet (p 5) ∷ Quiet
    ∷ Quiet ∷ Quiet ∷ Packet (p 6) ∷ []

pub groups_so : (groups two [] 0 some
    ≡ (p 1 ∷ p 2 ∷ []) ∷ (p 3 ∷ []) ∷ (p 4 ∷ []) ∷ (p 5 ∷ []) ∷ [])
    × (groups two [] 0 [] ≡ []) × (groups two [] 0 (Quiet ∷ Quiet ∷ Packet (p 1) ∷ []) ≡ [])
    -- a quiet that was counted before, and one that a packet sets back
    × (groups two [] 1 (Quiet ∷ Packet (p 1) ∷ []) ≡ [])
    × (groups two [] 1 (Packet (p 1) ∷ Quiet ∷ Quiet ∷ Packet (p 2) ∷ []) ≡ (p 1 ∷ []) ∷ (p 2 ∷ []) ∷ [])
    -- a packet in hand, and what the end closes
    × (groups two (p 1 ∷ []) 0 (Packet (p 2) ∷ Packet (p 3) ∷ []) ≡ (p 1 ∷ p 2 ∷ []) ∷ (p 3 ∷ []) ∷ [])
    -- groups of one packet, which the first quiet ends
    × (groups one [] 0 (Packet (p 1) ∷ Packet (p 2) ∷ Quiet ∷ Packet (p 3) ∷ []) ≡ (p 1 ∷ []) ∷ (p 2 ∷ []) ∷ [])
unfolding groups
groups_so = (refl, refl, refl, refl, refl, refl, refl)

-- two groups of lines, of which the second ends with the datagrams: a gauge is kept, a counter isn't
abbrev lines : List Dgram
lines = Packet (codes "a:2|c") ∷ Packet (codes "g:+3|g") ∷ Packet (codes "g:-1|g") ∷ []

pub text_so : served_text [] (groups two [] 0 lines)
    ≡ codes "statsd packets=2u,refused=0u" ++ 10 ∷ codes "a,metric_type=counter value=2" ++ 10
    ∷ codes "g,metric_type=gauge value=3" ++ 10 ∷ codes "statsd packets=1u,refused=0u" ++ 10
    ∷ codes "g,metric_type=gauge value=2" ++ 10 ∷ []
unfolding groups served_text untimed_text head_text name_text key_text tag_text field_text value_text escaped places_of
    lines_from reading text_reading line_reading sections marker_len first_part head_of parts_of each head_tag
    later_tags later_tag part_of texts_of type_of rate_of decimal_of with_exponent billionths rounded with_sorted
    in_key_order_on change_of kind_of sum_of counted counted_in firsts metric_with own_metric digits chars is_utf8
    encode
text_so = refl

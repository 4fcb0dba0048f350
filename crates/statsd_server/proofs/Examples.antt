-- What is served of packets that are written out.
use Rattle.std.proofs.Common.{◌≡◌, ℕ, pos, ◌*◌, ◌++◌, List, [], ◌∷◌, refl}
use Rattle.std.specs.Prelude.{codes}
use Rattle.std.specs.Str.{chars, is_utf8}
use lib.Utf8.{encode}
use Rattle.metric.specs.Draft.{Field}
use Rattle.metric.specs.Pairs.{with_sorted, in_key_order_on}
use Rattle.metric.specs.declared.metric.Content.{Content}
use Rattle.metric.specs.declared.value.Value.TheVariants.{Uint, Fixed}
use Rattle.fixed_num.specs.Decimal.{billionths, decimal_of, with_exponent}
use Rattle.fixed_num.specs.Rounded.{rounded}
use Rattle.text_parts.specs.Split.{each, first_part, parts_of}
use Rattle.statsd_text.specs.Reading.{line_reading, reading, text_reading}
use Rattle.statsd_text.specs.Said.{part_of, rate_of, texts_of, type_of}
use Rattle.statsd_text.specs.Sections.{marker_len, sections}
use Rattle.statsd_text.specs.Tags.{head_of, head_tag, later_tag, later_tags}
use Rattle.agg_keep.specs.Keyed.{firsts}
use Rattle.statsd_server.specs.Packets.{lines_from, Packet}
use Rattle.agg_stats.specs.Summary.{sum_of}
use Rattle.statsd_server.specs.Parts.{change_of, kind_of}
use Rattle.statsd_server.specs.Counting.{counted, counted_in}
use Rattle.statsd_server.specs.Served.{metric_with, own_metric, served}

-- the metric of the server
abbrev own : ℕ → ℕ → Content
own packets refused = record {
  name = codes "statsd";
  tags = [];
  fields = (codes "packets", Uint packets) ∷ (codes "refused", Uint refused) ∷ [];
  time = pos 0;
}

-- a metric of a name, a type and fields
abbrev one : List ℕ → List ℕ → List Field → Content
one name kind fields = record { name = name; tags = (codes "metric_type", kind) ∷ []; fields = fields; time = pos 0 }

abbrev whole : List ℕ → ℕ → Field
whole key n = (key, Fixed (pos (n * 1000000000)))

abbrev level : List ℕ → ℕ → Content
level name n = one name (codes "gauge") (whole (codes "value") n ∷ [])

abbrev sum : List ℕ → ℕ → Content
sum name n = one name (codes "counter") (whole (codes "value") n ∷ [])

-- lines of one packet
abbrev first_group : List Packet
first_group = (codes "hits:1|c" ++ 10 ∷ codes "hits:2|c") ∷ codes "load:+3|g" ∷ []

abbrev second_group : List Packet
second_group = codes "hits:5|c" ∷ codes "load:-1|g" ∷ codes "x" ∷ []

abbrev mixed_group : List Packet
mixed_group = (codes "u:ann|s" ++ 10 ∷ codes "u:bob|s" ++ 10 ∷ codes "u:ann|s" ++ 10 ∷ codes "t:4|ms" ++ 10
    ∷ codes "t:6|ms") ∷ []

abbrev high_group : List Packet
high_group = codes "g:18446744073709551615|g" ∷ []

abbrev moved_group : List Packet
moved_group = (codes "g:+1|g" ++ 10 ∷ codes "h:1|g" ++ 10 ∷ codes "g:-1|g") ∷ []

abbrev lines_group : List Packet
lines_group = (codes "a b:1|c" ++ 13 ∷ 10 ∷ codes "#n:1|g" ++ 10 ∷ 10 ∷ codes "bad" ++ 10 ∷ codes "  " ++ 10
    ∷ codes "statsd:7|c") ∷ []

-- a counter and a gauge in two groups
pub served_so : (served [] first_group ≡ own 2 0 ∷ sum (codes "hits") 3 ∷ level (codes "load") 3 ∷ [])
    × (served (first_group ∷ []) second_group ≡ own 3 1 ∷ sum (codes "hits") 5 ∷ level (codes "load") 2 ∷ [])
    -- a set and a timing
    × (served [] mixed_group ≡ own 1 0 ∷ one (codes "u") (codes "set") ((codes "count", Uint 2) ∷ [])
    ∷ one (codes "t") (codes "timing") ((codes "count", Uint 2) ∷ whole (codes "lower") 4 ∷ whole (codes "upper") 6
    ∷ whole (codes "sum") 10 ∷ []) ∷ [])
    -- a part that would take a sum out of the range, and some that would take a gauge out of it
    × (served [] (codes "c:18446744073709551615|c:1|c:-5|c" ∷ []) ≡ own 1 1 ∷ sum (codes "c") 18446744073709551610 ∷ [])
    × (served (high_group ∷ []) moved_group ≡ own 1 1 ∷ level (codes "h") 1
    ∷ level (codes "g") 18446744073709551614 ∷ [])
    × (served (high_group ∷ moved_group ∷ []) (codes "g:+2|g" ∷ []) ≡ own 1 1 ∷ [])
    -- lines with a carriage return, without a byte, with nothing but spaces, a refused one, and one without a newline
    × (served [] lines_group ≡ own 1 1 ∷ sum (codes "a b") 1 ∷ level (codes "#n") 1 ∷ sum (codes "statsd") 7 ∷ [])
    -- a packet without a byte, and none
    × (served [] ([] ∷ []) ≡ own 1 0 ∷ []) × (served [] [] ≡ own 0 0 ∷ [])
unfolding lines_from reading text_reading line_reading sections marker_len first_part head_of parts_of each head_tag
    later_tags later_tag part_of texts_of type_of rate_of decimal_of with_exponent billionths rounded with_sorted
    in_key_order_on change_of kind_of sum_of counted counted_in firsts metric_with own_metric chars is_utf8 encode
served_so = (refl, refl, refl, refl, refl, refl, refl, refl, refl)

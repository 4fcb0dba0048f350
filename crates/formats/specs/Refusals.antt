-- Why a piece is refused.
use denote.Enum.Declared.{Declared, tag_of}
use Rattle.std.specs.Prelude.{ℕ, ℤ, List, [], ◌∷◌, codes, get_or, Result, Ok, Err}
use Rattle.std.specs.declared.option.Option.{Option}
use Rattle.std.specs.declared.option.Option.TheVariants.{Some, None}
use Rattle.format_words.specs.declared.format.InFormat.{InFormat}
use Rattle.format_words.specs.declared.format.InFormat.TheVariants as formats
use Rattle.graphite_text.specs.Reading as graphite
use Rattle.graphite_text.specs.declared.fault.GraphiteFault.{GraphiteFault}
use Rattle.graphite_text.specs.declared.fault.GraphiteKind.{GraphiteKind}
use Rattle.graphite_text.specs.contracts.fault.GraphiteKind.{the_type as the_graphite_kind}
use Rattle.line_proto.specs.Reading as influx
use Rattle.line_proto.specs.declared.fault.LineFault.{LineFault}
use Rattle.line_proto.specs.declared.fault.LineKind.{LineKind}
use Rattle.line_proto.specs.contracts.fault.LineKind.{the_type as the_influx_kind}
use Rattle.openmetrics_text.specs.Reading as openmetrics
use Rattle.openmetrics_text.specs.declared.fault.ExpositionFault.{ExpositionFault}
use Rattle.openmetrics_text.specs.declared.fault.ExpositionKind.{ExpositionKind}
use Rattle.openmetrics_text.specs.contracts.fault.ExpositionKind.{the_type as the_openmetrics_kind}
use Rattle.statsd_text.specs.Reading as statsd
use Rattle.statsd_text.specs.declared.fault.StatsdFault.{StatsdFault}
use Rattle.statsd_text.specs.declared.fault.StatsdKind.{StatsdKind}
use Rattle.statsd_text.specs.contracts.fault.StatsdKind.{the_type as the_statsd_kind}
use Rattle.formats.specs.declared.refusal.Refusal.{Refusal}
use Rattle.formats.specs.declared.refusal.Refusal.TheVariants.{TooLong, Influx, Statsd, Graphite, Openmetrics}

-- what a reading gives no value for has a first fault, and that is why it is refused
abbrev pub fault_of : {A F : Type 0} → (F → Refusal) → Result A F → Option Refusal
fault_of named (Ok value) = None
fault_of named (Err fault) = Some (named fault)

-- why a piece that isn't too long is refused in a format at a moment: the first fault of its reading; None where it
-- isn't
abbrev pub refusal_in : InFormat → ℤ → List ℕ → Option Refusal
refusal_in formats.Influx moment piece = fault_of Influx (influx.reading piece moment)
refusal_in formats.Statsd moment piece = fault_of Statsd (statsd.reading piece moment)
refusal_in (formats.Graphite templates separator) moment piece =
    fault_of Graphite (graphite.reading templates separator piece moment)
refusal_in (formats.Openmetrics type_tag passing) moment piece =
    fault_of Openmetrics (openmetrics.reading piece moment type_tag passing)

-- the name of a variant, of these of all variants of its type in their order
abbrev pub variant_name : (type : Declared) → List (List ℕ) → type.D → List ℕ
variant_name type names variant = get_or names (tag_of type variant) []

-- the names of the kinds of faults of each format
abbrev pub influx_word : LineKind → List ℕ
influx_word = variant_name the_influx_kind (codes "OutOfMemory" ∷ codes "NoFields" ∷ codes "BadKey" ∷
    codes "BadValue" ∷ codes "BadTime" ∷ codes "NumberRange" ∷ codes "NotUtf8" ∷ codes "TooMany" ∷ [])

abbrev pub statsd_word : StatsdKind → List ℕ
statsd_word = variant_name the_statsd_kind (codes "OutOfMemory" ∷ codes "NoColon" ∷ codes "BadType" ∷
    codes "BadValue" ∷ codes "BadRate" ∷ codes "BadTag" ∷ codes "NumberRange" ∷ codes "NotUtf8" ∷ codes "BadName" ∷
    codes "TooMany" ∷ [])

abbrev pub graphite_word : GraphiteKind → List ℕ
graphite_word = variant_name the_graphite_kind (codes "OutOfMemory" ∷ codes "FieldCount" ∷ codes "BadPath" ∷
    codes "BadValue" ∷ codes "BadTime" ∷ codes "NumberRange" ∷ codes "NotUtf8" ∷ codes "TooMany" ∷ [])

abbrev pub openmetrics_word : ExpositionKind → List ℕ
openmetrics_word = variant_name the_openmetrics_kind (codes "OutOfMemory" ∷ codes "NoEof" ∷ codes "BadLine" ∷
    codes "BadLabel" ∷ codes "BadNumber" ∷ codes "BadTime" ∷ codes "NumberRange" ∷ codes "NotUtf8" ∷ codes "TooMany"
    ∷ [])

-- the name of the kind of a refusal
abbrev pub kind_of : Refusal → List ℕ
kind_of TooLong = codes "TooLong"
kind_of (Influx fault) = influx_word fault.kind
kind_of (Statsd fault) = statsd_word fault.kind
kind_of (Graphite fault) = graphite_word fault.kind
kind_of (Openmetrics fault) = openmetrics_word fault.kind

-- where its fault is
abbrev pub offset_of : Refusal → Option ℕ
offset_of TooLong = None
offset_of (Influx fault) = Some fault.offset
offset_of (Statsd fault) = Some fault.offset
offset_of (Graphite fault) = Some fault.offset
offset_of (Openmetrics fault) = Some fault.offset

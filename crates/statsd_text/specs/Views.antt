-- What a reader of lines returned.
use Rattle.std.specs.Prelude.{◌≡◌, ◌<◌, ◌≤◌, ◌⊎◌, ℕ, ℤ, List, length, map}
use Rattle.std.specs.Prelude.{option_map, Option, Some, None, Result, Ok, Err}
use Rattle.std.specs.Borrow.{Bor}
use Rattle.std.specs.List.{AllByRecursion}
use Rattle.text_parts.specs.Chain.{Fails}
use Rattle.text_parts.specs.declared.error.ReadError.{ReadError}
use Rattle.text_parts.specs.declared.split.Placed.{Placed}
use Rattle.text_parts.specs.Split.{PartAt}
use Rattle.metric.specs.declared.metric.Content.{Content}
use Rattle.metric.specs.Draft.{Tag}
use Rattle.metric.specs.Pairs.{in_key_order_on}
use Rattle.statsd_text.specs.declared.fault.StatsdFault.{StatsdFault}
use Rattle.statsd_text.specs.declared.fault.StatsdKind.TheVariants.{OutOfMemory, TooMany}
use Rattle.statsd_text.specs.declared.sections.Line.{Line}
use Rattle.statsd_text.specs.declared.said.PartTexts.{PartTexts}
use Rattle.statsd_text.specs.declared.read.LineSaid.{LineSaid}
use Rattle.statsd_text.specs.Reading.{limited}
use Rattle.statsd_text.specs.Sections.{Sections}
use Rattle.statsd_text.specs.TagMap.{kept_content, HasValue, IsKeyed}
use Rattle.statsd_text.specs.Said.{Texts}

-- a part, as the code has it
abbrev pub part_at : Placed → PartAt
part_at part = (part.offset, part.text.now)

abbrev pub sections_view : Line → Sections
sections_view line = record { head = line.head.now; parts = part_at line.parts; tags = part_at line.tags }

abbrev pub texts_view : PartTexts → Texts
texts_view texts = record {
  value = texts.value.now;
  metric_type = texts.metric_type;
  rate = option_map part_at texts.rate;
}

-- the tags that were read were put among others, a later one of a key over an earlier one
abbrev pub HasTags : List Tag → List Tag → Result (Unit {0}) (ReadError StatsdFault)
    → Result (List Tag) StatsdFault → Type 0
HasTags old new (Ok done) reading =
    (given : List Tag) × (reading ≡ Ok given) × (new ≡ in_key_order_on old given)
HasTags old new (Err e) reading = Fails e reading

-- beside the tags the head's name was given
abbrev pub HasHead : List Tag → List Tag → Result (Bor (List ℕ)) (ReadError StatsdFault)
    → Result (List ℕ × List Tag) StatsdFault → Type 0
HasHead old new (Ok name) reading =
    (given : List Tag) × (reading ≡ Ok (name.now, given)) × (new ≡ in_key_order_on old given)
HasHead old new (Err e) reading = Fails e reading

-- the result is the reading, or memory ran out
abbrev pub Answers : {A : Type 0} → (A → List Content) → Result A StatsdFault
    → Result (List Content) StatsdFault → Type 0
Answers listed (Ok metrics) reading = reading ≡ Ok (listed metrics)
Answers listed (Err e) reading = (e ≡ record { kind = OutOfMemory; offset = 0 }) ⊎ (reading ≡ Err e)

-- what a line says makes its metrics at each moment, unless they have too many tags
abbrev pub Says : Result LineSaid (ReadError StatsdFault) → (ℤ → Result (List Content) StatsdFault) → Type 0
Says (Ok line) reading =
    (moment : ℤ) → reading moment ≡ limited (map (kept_content line.name line.tags.items moment) line.said)
Says (Err e) reading = (moment : ℤ) → Fails e (reading moment)

-- a name that isn't empty, and tags in the order of their keys, which have values
pub record IsWholeLine (line : LineSaid) : Type 0 where
  pub named : 0 < length line.name
  pub keyed : IsKeyed line.tags.items
  pub valued : AllByRecursion HasValue line.tags.items

-- the metrics of a line, one for each part
abbrev pub metrics_said : LineSaid → ℤ → List Content
metrics_said line moment = map (kept_content line.name line.tags.items moment) line.said

-- a piece that isn't told: it has no metrics, or each has 64 tags, and may have too many
abbrev pub IsUntold : Result (List Content) StatsdFault → Type 0
IsUntold (Ok metrics) = AllByRecursion (λ (metric : Content). 64 ≤ length metric.tags) metrics
IsUntold (Err e) = e.kind ≡ TooMany

-- what a line says makes its metrics; where nothing is told there are none, or too many tags
abbrev pub SaysIf : Result (Option LineSaid) (ReadError StatsdFault) → (ℤ → Result (List Content) StatsdFault) → Type 0
SaysIf (Ok None) reading = (moment : ℤ) → IsUntold (reading moment)
SaysIf (Ok (Some line)) reading = (moment : ℤ) → reading moment ≡ Ok (metrics_said line moment)
SaysIf (Err e) reading = (moment : ℤ) → Fails e (reading moment)

abbrev pub AnswersSaid : Result (Option LineSaid) StatsdFault → (ℤ → Result (List Content) StatsdFault) → Type 0
AnswersSaid (Ok None) reading = (moment : ℤ) → IsUntold (reading moment)
AnswersSaid (Ok (Some line)) reading = (moment : ℤ) → reading moment ≡ Ok (metrics_said line moment)
AnswersSaid (Err e) reading =
    (moment : ℤ) → (e ≡ record { kind = OutOfMemory; offset = 0 }) ⊎ (reading moment ≡ Err e)

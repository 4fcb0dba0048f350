-- What a draft has of a line.
use Rattle.std.specs.Prelude.{◌≡◌, ℕ, ℤ, List, [], Result, Ok, Err}
use Rattle.text_parts.specs.Chain.{Fails}
use Rattle.text_parts.specs.declared.error.ReadError.{ReadError}
use Rattle.metric.specs.Draft.{Drafted, StandsFor, Tag, Field}
use Rattle.line_proto.specs.declared.fault.LineFault.{LineFault}
use Rattle.line_proto.specs.Reading.{name_at, tags_at, spaced_fields_at, time_at, metric_at}

-- the draft has the tags that were read
abbrev pub HasTags : Drafted → Result ℕ (ReadError LineFault) → Result (List Tag × ℕ) LineFault → Type 0
HasTags draft (Ok behind) reading =
    (tags : List Tag) × (reading ≡ Ok (tags, behind)) × StandsFor draft tags []
HasTags draft (Err e) reading = Fails e reading

-- beside its tags the draft has the fields that were read
abbrev pub HasFields : Drafted → List Tag → Result ℕ (ReadError LineFault)
    → Result (List Field × ℕ) LineFault → Type 0
HasFields draft tags (Ok behind) reading =
    (fields : List Field) × (reading ≡ Ok (fields, behind)) × StandsFor draft tags fields
HasFields draft tags (Err e) reading = Fails e reading

-- what stands behind a measurement: tags, of which and of the fields the draft has all, fields, and a time
pub record IsRest (draft : Drafted) (piece : List ℕ) (i : ℕ) (moment time : ℤ) : Type 0 where
  pub tags : List Tag
  pub behind_tags : ℕ
  pub fields : List Field
  pub behind_fields : ℕ
  pub tags_read : tags_at piece i ≡ Ok (tags, behind_tags)
  pub fields_read : spaced_fields_at piece behind_tags ≡ Ok (fields, behind_fields)
  pub time_read : time_at piece behind_fields moment ≡ Ok time
  pub drafted : StandsFor draft tags fields

-- that was read, or the fault is that of each line whose measurement ends there
abbrev pub HasRest : Drafted → List ℕ → ℕ → ℤ → Result ℤ (ReadError LineFault) → Type 0
HasRest draft piece i moment (Ok time) = IsRest draft piece i moment time
HasRest draft piece i moment (Err e) =
    (start : ℕ) (name : List ℕ) → name_at piece start ≡ Ok (name, i) → Fails e (metric_at piece start moment)

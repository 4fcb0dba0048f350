-- A whole line.
use Rattle.std.proofs.Common.{◌≡◌, ℕ, ℤ, ◌<◌, true, false, cond, List, [], ◌∷◌, length, Result, Ok, Err, Option, refl}
use Rattle.std.proofs.Common.{sym, ap, subst, arith}
use Rattle.std.specs.Prelude.{◌==◌, Some}
use Rattle.text_parts.specs.Many.{items_at}
use Rattle.text_parts.specs.declared.error.ReadError.{ReadError}
use Rattle.text_parts.specs.declared.error.ReadError.TheVariants as errors
use Rattle.text_parts.specs.Chain.{◌>>=◌, Fails}
use Rattle.metric.specs.declared.metric.Content.{Content}
use Rattle.metric.specs.declared.draft.DraftFault.{DraftFault}
use Rattle.metric.specs.declared.draft.DraftFault.TheVariants as drafts
use Rattle.metric.specs.Pairs.{with_pair, in_first_order, in_first_order_on}
use Rattle.metric.specs.Draft.{Tag, Field, Drafted, StandsFor, IsReady, drafted, has_too_many}
use Rattle.metric.proofs.DraftLemmas.{longer_pair}
use Rattle.line_proto.specs.declared.fault.LineFault.{LineFault}
use Rattle.line_proto.specs.declared.fault.LineKind.TheVariants.{NoFields, TooMany}
use Rattle.line_proto.specs.Reading.{behind_spaces, field_at, fields_at, name_at, tags_at, spaced_fields_at, time_at}
use Rattle.line_proto.specs.Reading.{line_at, limited, content_of, metric_at}
use Rattle.std.proofs.lemmas.Int.{to_z-of_z}
use mir.Val.{SFits, of_z, to_z}
use mir.Syntax.{w64}

-- ---- finishing

metric_of : Result Content DraftFault → Content → Content
metric_of (Ok metric) other = metric
metric_of (Err f) other = other

pub limited_ok : (name : List ℕ) (tags : List Tag) (fields : List Field) (time : ℤ) (metric : Content)
    → drafted name tags fields time ≡ Ok metric
    → limited (record { name = name; tags = tags; fields = fields; time = time }) ≡ Ok (Some metric)
unfolding metric_of
limited_ok name tags fields time metric e =
    let content : Content = content_of (record { name = name; tags = tags; fields = fields; time = time }) in
    elim (has_too_many tags fields) as (λ t. cond {A = Result Content DraftFault} t (Err drafts.TooMany)
    (Ok content) ≡ Ok metric
    → cond {A = Result (Option Content) LineFault} t (Err (record { kind = TooMany; offset = 0 }))
    (Ok (Some content)) ≡ Ok (Some metric)) [
      | true ↦ λ is. absurd cc
      | false ↦ λ is. ap (λ (r : Result Content DraftFault). Ok (Some (metric_of r metric))) is
    ] e

pub limited_err : (name : List ℕ) (tags : List Tag) (fields : List Field) (time : ℤ)
    → drafted name tags fields time ≡ Err drafts.TooMany
    → limited (record { name = name; tags = tags; fields = fields; time = time }) ≡ Err
    (record { kind = TooMany; offset = 0 })
limited_err name tags fields time e =
    let content : Content = content_of (record { name = name; tags = tags; fields = fields; time = time }) in
    elim (has_too_many tags fields) as (λ t. cond {A = Result Content DraftFault} t (Err drafts.TooMany)
    (Ok content) ≡ Err drafts.TooMany
    → cond {A = Result (Option Content) LineFault} t (Err (record { kind = TooMany; offset = 0 }))
    (Ok (Some content)) ≡ Err (record { kind = TooMany; offset = 0 })) [
      | true ↦ λ is. refl
      | false ↦ λ is. absurd cc
    ] e

-- ---- the chain of a line's readings

pub name_fails : (e : ReadError LineFault) (piece : List ℕ) (i : ℕ) (moment : ℤ) → Fails e (name_at piece i)
    → Fails e (metric_at piece i moment)
unfolding metric_at line_at
name_fails errors.OutOfMemory piece i moment h = tt
name_fails (errors.Fault f) piece i moment h = rw h refl

pub tags_fail : (e : ReadError LineFault) (piece : List ℕ) (i : ℕ) (moment : ℤ) (name : List ℕ) (j : ℕ)
    → name_at piece i ≡ Ok (name, j) → Fails e (tags_at piece j) → Fails e (metric_at piece i moment)
unfolding metric_at line_at
tags_fail errors.OutOfMemory piece i moment name j n h = tt
tags_fail (errors.Fault f) piece i moment name j n h = rw (n, h) refl

pub fields_fail : (e : ReadError LineFault) (piece : List ℕ) (i : ℕ) (moment : ℤ) (name : List ℕ) (j : ℕ)
    (tags : List Tag) (k : ℕ) → name_at piece i ≡ Ok (name, j) → tags_at piece j ≡ Ok (tags, k)
    → Fails e (spaced_fields_at piece k) → Fails e (metric_at piece i moment)
unfolding metric_at line_at
fields_fail errors.OutOfMemory piece i moment name j tags k n t h = tt
fields_fail (errors.Fault f) piece i moment name j tags k n t h = rw (n, t, h) refl

pub time_fails : (e : ReadError LineFault) (piece : List ℕ) (i : ℕ) (moment : ℤ) (name : List ℕ) (j : ℕ)
    (tags : List Tag) (k : ℕ) (fields : List Field) (l : ℕ) → name_at piece i ≡ Ok (name, j)
    → tags_at piece j ≡ Ok (tags, k)
    → spaced_fields_at piece k ≡ Ok (fields, l) → Fails e (time_at piece l moment) → Fails e (metric_at piece i moment)
unfolding metric_at line_at
time_fails errors.OutOfMemory piece i moment name j tags k fields l n t fs h = tt
time_fails (errors.Fault f) piece i moment name j tags k fields l n t fs h = rw (n, t, fs, h) refl

pub line_is : (piece : List ℕ) (i : ℕ) (moment : ℤ) (name : List ℕ) (j : ℕ) (tags : List Tag) (k : ℕ)
    (fields : List Field) (l : ℕ) (time : ℤ) → name_at piece i ≡ Ok (name, j) → tags_at piece j ≡ Ok (tags, k)
    → spaced_fields_at piece k ≡ Ok (fields, l) → time_at piece l moment ≡ Ok time
    → metric_at piece i moment ≡ limited (record { name = name; tags = tags; fields = fields; time = time })
unfolding metric_at line_at
line_is piece i moment name j tags k fields l time n t fs h = rw (n, t, fs, h) refl

-- a line that is read has a field
joined : Field → List Field × ℕ → Result (List Field × ℕ) LineFault
joined first others = Ok (first ∷ others.0, others.1)

fields_of : Result (List Field × ℕ) LineFault → List Field
fields_of (Ok x) = x.0
fields_of (Err f) = []

some_others : (first : Field) (r : Result (List Field × ℕ) LineFault) (fields : List Field) (at : ℕ)
    → (r >>= joined first) ≡ Ok (fields, at) → 0 < length fields
unfolding joined fields_of
some_others first (Ok x) fields at e = let same : first ∷ x.0 ≡ fields = ap fields_of e in
    subst (λ (fs : List Field). 0 < length fs) same (omega arith)
some_others first (Err f) fields at e = absurd cc

some_first : (piece : List ℕ) (r : Result (Field × ℕ) LineFault) (fields : List Field) (at : ℕ)
    → (r >>= λ first. items_at field_at 44 piece first.1 >>= joined first.0) ≡ Ok (fields, at) → 0 < length fields
some_first piece (Ok x) fields at e = some_others x.0 (items_at field_at 44 piece x.1) fields at e
some_first piece (Err f) fields at e = absurd cc

some_fields : (piece : List ℕ) (i at : ℕ) (fields : List Field) → fields_at piece i ≡ Ok (fields, at)
    → 0 < length fields
unfolding fields_at joined
some_fields piece i at fields e = some_first piece (field_at piece i) fields at e

some_spaced : (piece : List ℕ) (i at : ℕ) (fields : List Field) → spaced_fields_at piece i ≡ Ok (fields, at)
    → 0 < length fields
unfolding spaced_fields_at
some_spaced piece i at fields e = elim (behind_spaces piece i == length piece) as
    (λ t. cond t (Err (record { kind = NoFields; offset = length piece })) (fields_at piece (behind_spaces piece i))
    ≡ Ok (fields, at) → 0 < length fields) [
      | true ↦ λ e. absurd cc
      | false ↦ λ e. some_fields piece (behind_spaces piece i) at fields e
    ] e

kept_some : {X : Type 0} (kept given : List (List ℕ × X)) → 0 < length kept → 0 < length (in_first_order_on kept given)
unfolding in_first_order_on
kept_some kept [] some = some
kept_some kept (pair ∷ given) some = kept_some (with_pair kept pair.0 pair.1) given
    (omega (arith, longer_pair kept pair.0 pair.1))

first_some : {X : Type 0} (given : List (List ℕ × X)) → 0 < length given → 0 < length (in_first_order given)
unfolding in_first_order_on with_pair
first_some [] some = absurd (omega arith)
first_some (pair ∷ given) some = kept_some ((pair.0, pair.1) ∷ []) given (omega arith)

-- the draft of a line that is read makes a metric
pub ready : (piece : List ℕ) (k l : ℕ) (draft : Drafted) (tags : List Tag) (fields : List Field) (name : List ℕ)
    → draft.parts.name ≡ name → 0 < length name
    → spaced_fields_at piece k ≡ Ok (fields, l) → StandsFor draft tags fields → IsReady draft
ready piece k l draft tags fields name is filled read s = record {
  named = subst (λ (n : List ℕ). 0 < length n) (sym is) filled;
  tag_keys = s.tag_keys;
  field_keys = s.field_keys;
  some = λ few. subst (λ (fs : List Field). 0 < length fs) (sym (s.fields_kept few))
      (first_some fields (some_spaced piece k l fields read));
}

-- ---- a moment that was handed on

pub same_time : (piece bytes : List ℕ) (i : ℕ) (moment : ℤ) → SFits w64 moment → bytes ≡ piece
    → time_at bytes i (to_z w64 (of_z w64 moment)) ≡ time_at piece i moment
same_time piece bytes i moment fits same = rw (same, to_z-of_z w64 moment fits) refl

use Rattle.std.proofs.Common.{ℕ, ℤ, ◌≡◌, ◌∙◌, List, Result, Ok, Err, subst, sym}
use Rattle.std.proofs.lemmas.Result.{err_from_is_err_and}
use Rattle.text_parts.specs.Chain.{Fails, Gives}
use Rattle.text_parts.specs.declared.error.ReadError.{ReadError}
use Rattle.metric.specs.Draft.{Drafted, StandsFor, Tag, Field}
use Rattle.line_proto.specs.declared.fault.LineFault.{LineFault}
use Rattle.line_proto.specs.Draft.{HasRest}
use Rattle.line_proto.specs.Reading.{tags_at, spaced_fields_at, time_at}
use Rattle.line_proto.proofs.Lines.{tags_fail, fields_fail, time_fails, same_time}
use Rattle.line_proto.proofs.read.read_rest.Goals as goal

-- behind the tags and the fields the time is read, or its fault
rest_is : (r : Result ℤ (ReadError LineFault)) (draft : Drafted) (piece : List ℕ) (i : ℕ) (moment : ℤ) (tags : List Tag)
    (j : ℕ) (fields : List Field) (k : ℕ)
    → tags_at piece i ≡ Ok (tags, j) → spaced_fields_at piece j ≡ Ok (fields, k) → StandsFor draft tags fields
    → Gives (λ x. x) r (time_at piece k moment)
    → HasRest draft piece i moment r
rest_is (Ok time) draft piece i moment tags j fields k t f stands h =
    record {
      tags = tags;
      behind_tags = j;
      fields = fields;
      behind_fields = k;
      tags_read = t;
      fields_read = f;
      time_read = h;
      drafted = stands;
    }
rest_is (Err e) draft piece i moment tags j fields k t f stands h =
    λ start name n. time_fails e piece start moment name i tags j fields k n t f h

pub returns-in_err-i-clause-rest : goal.returns-in_err-i-clause-rest
returns-in_err-i-clause-rest c =
    let p = err_from_is_err_and c.from_residual.result c.from_residual.ensures.1 in
    rw (p.1, p.2) (λ start name n. tags_fail c.in_err-i.field-0.0 c.args.piece.now start c.args.moment name c.args.i n
    c.in_err-i.ensures.tags)

pub returns-in_err-start-clause-rest : goal.returns-in_err-start-clause-rest
returns-in_err-start-clause-rest c =
    let p = err_from_is_err_and c.from_residual-in_err-start.result c.from_residual-in_err-start.ensures.1 in
    let tags = c.in_ok-i.ensures.tags in
    rw (p.1, p.2) (λ start name n. fields_fail c.in_err-start.field-0.0 c.args.piece.now start c.args.moment name
    c.args.i tags.0 c.in_ok-i.i n tags.1 c.in_err-start.ensures.none)

pub returns-in_err-i-2-clause-rest : goal.returns-in_err-i-2-clause-rest
returns-in_err-i-2-clause-rest c =
    let p = err_from_is_err_and c.from_residual-in_err-i-2.result c.from_residual-in_err-i-2.ensures.1 in
    let tags = c.in_ok-i.ensures.tags in
    let fails = subst (λ r. Fails c.in_err-i-2.field-0.0 r) (sym c.in_ok-start.ensures.there)
    (c.in_err-i-2.ensures.fields tags.0 tags.2) in
    rw (p.1, p.2) (λ start name n. fields_fail c.in_err-i-2.field-0.0 c.args.piece.now start c.args.moment name c.args.i
    tags.0 c.in_ok-i.i n tags.1 fails)

pub returns-clause-rest : goal.returns-clause-rest
returns-clause-rest c =
    let tags = c.in_ok-i.ensures.tags in
    let fields = c.in_ok-i-2.ensures.fields tags.0 tags.2 in
    rest_is c.time_at.result c.read_fields.new.draft c.args.piece.now c.args.i c.args.moment tags.0 c.in_ok-i.i fields.0
    c.in_ok-i-2.i tags.1 (c.in_ok-start.ensures.there ∙ fields.1) fields.2
    (rw (← same_time c.args.piece.now c.as_bytes.result.now c.in_ok-i-2.i c.args.moment c.ranges.moment
    c.as_bytes.ensures.value) c.time_at.ensures)

use Rattle.std.proofs.Common.{◌∙◌}
use Rattle.std.proofs.Common.{rules}
use Rattle.std.proofs.lemmas.Int.{to_z-of_z}
use mir.Val.{SFits}
use mir.Syntax.{w64}
use Rattle.std.proofs.lemmas.Result.{err_from_is_err_and}
use Rattle.text_parts.specs.Part.{text_at}
use Rattle.text_parts.proofs.Spans.{span_some}
use Rattle.line_proto.specs.Kinds.{name_part}
use Rattle.line_proto.proofs.Lines.{name_fails, line_is, ready}
use Rattle.line_proto.proofs.read.metric_at.Goals as goal

pub returns-in_err-name : goal.returns-in_err-name
returns-in_err-name c =
    let p = err_from_is_err_and c.from_residual.result c.from_residual.ensures.1 in
    rw (p.1, p.2) (name_fails c.in_err-name.field-0.0 c.args.piece.now c.args.i c.args.moment
    c.in_err-name.ensures.gives)

pub returns-in_err-time : goal.returns-in_err-time
returns-in_err-time c =
    let p = err_from_is_err_and c.from_residual-in_err-time.result c.from_residual-in_err-time.ensures.1 in
    let fails = rw (to_z-of_z w64 c.args.moment c.ranges.moment) at c.in_err-time.ensures.rest in
    rw (p.1, p.2) (fails c.args.i (text_at name_part c.args.piece.now c.in_ok-name.name.start)
    c.in_ok-name.ensures.gives)

pub finish-requires : goal.finish-requires
finish-requires c =
    let rest = c.in_ok-time.ensures.rest in
    let name = c.read_rest.ensures.name ∙ c.of-draft.ensures.name ∙ c.in_ok-name_text.ensures.text in
    ready c.args.piece.now rest.behind_tags rest.behind_fields c.read_rest.new.draft rest.tags rest.fields
    (text_at name_part c.args.piece.now c.in_ok-name.name.start) name
    (span_some name_part c.args.piece.now c.in_ok-name.name c.in_ok-name.ensures.span c.in_ok-name.ensures.filled)
    rest.fields_read rest.drafted

pub returns : goal.returns
returns c =
    let rest = rw (to_z-of_z w64 c.args.moment c.ranges.moment) at c.in_ok-time.ensures.rest in
    let name = c.read_rest.ensures.name ∙ c.of-draft.ensures.name ∙ c.in_ok-name_text.ensures.text in
    let line = line_is c.args.piece.now c.args.i c.args.moment
    (text_at name_part c.args.piece.now c.in_ok-name.name.start) c.in_ok-name.name.end rest.tags rest.behind_tags
    rest.fields rest.behind_fields c.in_ok-time.time c.in_ok-name.ensures.gives rest.tags_read rest.fields_read
    rest.time_read in
    let fits : SFits w64 c.in_ok-time.time = search rules in
    rw (line, ← name) (rw (to_z-of_z w64 c.in_ok-time.time fits) at
    (c.finish.ensures rest.tags rest.fields rest.drafted))

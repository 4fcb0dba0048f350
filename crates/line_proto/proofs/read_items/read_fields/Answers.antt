use Rattle.std.proofs.Common.{◌∙◌, ◌++◌, ◌∷◌, [], sym}
use Rattle.text_parts.proofs.Items.{nothing_read, one_more, failed_read, all_read, first_fails, other_fails, items_are}
use Rattle.std.proofs.lemmas.Result.{err_from_is_err_and}
use Rattle.metric.specs.Draft.{Field}
use Rattle.line_proto.specs.Reading.{field_at, fields_at}
use Rattle.text_parts.specs.Part.{text_at}
use Rattle.line_proto.specs.Kinds.{key_part}
use Rattle.line_proto.proofs.Loops.{comma_is, comma_within, comma_boundary, no_comma}
use Rattle.line_proto.proofs.read_items.read_fields.Goals as goal

pub returns-in_err-key-clause-fields : goal.returns-in_err-key-clause-fields
unfolding fields_at
returns-in_err-key-clause-fields c = λ tags s.
    let p = err_from_is_err_and c.from_residual.result c.from_residual.ensures.1 in
    rw (p.1, p.2) (first_fails field_at 44 c.args.piece.now c.args.i c.in_err-key.field-0.0 c.in_err-key.ensures.gives)

pub loop-alloc-init : goal.loop-alloc-init
loop-alloc-init c =
    let first : Field = (text_at key_part c.args.piece.now c.in_ok-key.key.start, c.in_ok-key.value) in (
      c.in_ok-key.ensures.behind,
      c.put_field.ensures.name,
      (
        first,
        c.in_ok-key.behind,
        c.in_ok-key.ensures.gives,
        (
          [],
          nothing_read field_at 44 c.args.piece.now c.in_ok-key.behind,
          λ tags s. c.in_ok-put_field.ensures.ok tags [] s,
        ),
      ),
    )

pub field_at-requires-in-loop-alloc : goal.field_at-requires-in-loop-alloc
field_at-requires-in-loop-alloc c = record {
  boundary = comma_boundary c.args.piece.now c.loop-alloc.at c.utf8.piece
      (sym c.comma_at.ensures ∙ c.loop-alloc-test.true);
}

pub returns-in_err-key-2-clause-fields : goal.returns-in_err-key-2-clause-fields
unfolding fields_at
returns-in_err-key-2-clause-fields c = λ tags s.
    let p = err_from_is_err_and c.from_residual-in_err-key-2.result c.from_residual-in_err-key-2.ensures.1 in
    let comma = sym c.comma_at.ensures ∙ c.loop-alloc-test.true in
    let start = c.loop-alloc.invariant.2 in
    let so_far = start.3 in
    rw (p.1, p.2) (other_fails field_at 44 c.args.piece.now c.args.i start.1 start.0 c.in_err-key-2.field-0.0 start.2
    (failed_read field_at 44 c.args.piece.now start.1 so_far.0 c.loop-alloc.at c.in_err-key-2.field-0.0 so_far.1
    (comma_within c.args.piece.now c.loop-alloc.at comma) (comma_is c.args.piece.now c.loop-alloc.at comma)
    c.in_err-key-2.ensures.gives))

pub loop-alloc-preserved : goal.loop-alloc-preserved
loop-alloc-preserved c =
    let comma = sym c.comma_at.ensures ∙ c.loop-alloc-test.true in
    let start = c.loop-alloc.invariant.2 in
    let so_far = start.3 in
    let field : Field = (text_at key_part c.args.piece.now c.in_ok-key-2.key.start, c.in_ok-key-2.value) in (
      c.in_ok-key-2.ensures.behind,
      c.put_field-in-loop-alloc.ensures.name ∙ c.loop-alloc.invariant.1,
      (
        start.0,
        start.1,
        start.2,
        (
          so_far.0 ++ field ∷ [],
          one_more field_at 44 c.args.piece.now start.1 so_far.0 c.loop-alloc.at field c.in_ok-key-2.behind so_far.1
              (comma_within c.args.piece.now c.loop-alloc.at comma) (comma_is c.args.piece.now c.loop-alloc.at comma)
              c.in_ok-key-2.ensures.gives c.in_ok-key-2.ensures.more,
          λ tags s. c.in_ok-put_field-2.ensures.ok tags (start.0 ∷ so_far.0) (so_far.2 tags s),
        ),
      ),
    )

pub returns-clause-fields : goal.returns-clause-fields
unfolding fields_at
returns-clause-fields c = λ tags s.
    let start = c.loop-alloc.invariant.2 in
    let so_far = start.3 in (
      start.0 ∷ so_far.0,
      items_are field_at 44 c.args.piece.now c.args.i start.1 c.loop-alloc.at start.0 so_far.0 start.2
          (all_read field_at 44 c.args.piece.now start.1 so_far.0 c.loop-alloc.at so_far.1
          (no_comma c.args.piece.now c.loop-alloc.at (sym c.comma_at.ensures ∙ c.loop-alloc-test.false))),
      so_far.2 tags s,
    )

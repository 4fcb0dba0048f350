use Rattle.std.proofs.Common.{◌∙◌, ◌++◌, ◌∷◌, [], sym, refl}
use Rattle.text_parts.proofs.Items.{nothing_read, one_more, failed_read, all_read}
use Rattle.std.proofs.lemmas.Result.{err_from_is_err_and}
use Rattle.metric.specs.Draft.{Tag}
use Rattle.line_proto.specs.Reading.{tag_at, tags_at}
use Rattle.text_parts.specs.Part.{text_at}
use Rattle.line_proto.specs.Kinds.{key_part, tag_value_part}
use Rattle.line_proto.proofs.Loops.{comma_is, comma_within, comma_boundary, no_comma}
use Rattle.line_proto.proofs.read_items.read_tags.Goals as goal

pub loop-alloc-init : goal.loop-alloc-init
loop-alloc-init c = (c.requires.boundary, refl, ([], nothing_read tag_at 44 c.args.piece.now c.args.i, c.requires.none))

pub tag_at-requires : goal.tag_at-requires
tag_at-requires c = record {
  boundary = comma_boundary c.args.piece.now c.loop-alloc.at c.utf8.piece
      (sym c.comma_at.ensures ∙ c.loop-alloc-test.true);
}

pub loop-alloc-preserved : goal.loop-alloc-preserved
loop-alloc-preserved c =
    let comma = sym c.comma_at.ensures ∙ c.loop-alloc-test.true in
    let so_far = c.loop-alloc.invariant.2 in
    let tag : Tag = (
      text_at key_part c.args.piece.now c.in_ok-key.key.start,
      text_at tag_value_part c.args.piece.now c.in_ok-key.value.start,
    ) in (
      c.in_ok-key.ensures.value.last,
      c.put_tag.ensures.name ∙ c.loop-alloc.invariant.1,
      (
        so_far.0 ++ tag ∷ [],
        one_more tag_at 44 c.args.piece.now c.args.i so_far.0 c.loop-alloc.at tag c.in_ok-key.value.end so_far.1
            (comma_within c.args.piece.now c.loop-alloc.at comma) (comma_is c.args.piece.now c.loop-alloc.at comma)
            c.in_ok-key.ensures.gives c.in_ok-key.ensures.more,
        c.in_ok-put_tag.ensures.ok so_far.0 [] so_far.2,
      ),
    )

pub returns-in_err-key-clause-tags : goal.returns-in_err-key-clause-tags
unfolding tags_at
returns-in_err-key-clause-tags c =
    let p = err_from_is_err_and c.from_residual.result c.from_residual.ensures.1 in
    let comma = sym c.comma_at.ensures ∙ c.loop-alloc-test.true in
    let so_far = c.loop-alloc.invariant.2 in
    rw (p.1, p.2) (failed_read tag_at 44 c.args.piece.now c.args.i so_far.0 c.loop-alloc.at c.in_err-key.field-0.0
    so_far.1 (comma_within c.args.piece.now c.loop-alloc.at comma) (comma_is c.args.piece.now c.loop-alloc.at comma)
    c.in_err-key.ensures.gives)

pub returns-clause-tags : goal.returns-clause-tags
unfolding tags_at
returns-clause-tags c =
    let so_far = c.loop-alloc.invariant.2 in (
      so_far.0,
      all_read tag_at 44 c.args.piece.now c.args.i so_far.0 c.loop-alloc.at so_far.1
          (no_comma c.args.piece.now c.loop-alloc.at (sym c.comma_at.ensures ∙ c.loop-alloc-test.false)),
      so_far.2,
    )

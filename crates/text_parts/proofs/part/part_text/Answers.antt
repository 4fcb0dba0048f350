use Rattle.std.proofs.Common.{◌≡◌, ◌≤◌, ◌∙◌, sym, ap, subst, refl, true, false, take, drop, length}
use Rattle.std.specs.Str.{IsUtf8}
use Rattle.text_parts.specs.Part.{part_len, plain}
use Rattle.text_parts.specs.Kinds.{kind_of}
use Rattle.text_parts.proofs.Utf8.{part-IsUtf8, ascii_kind}
use Rattle.text_parts.proofs.part.part_text.Goals as goal

pub unreachable-requires : goal.unreachable-requires
unreachable-requires c =
    let rest-is : c.split_at.result.1.now ≡ drop c.args.i c.args.piece.now =
    c.split_at.ensures.back ∙ ap (drop c.args.i) c.as_bytes-bytes.ensures.value in
    let len : c.part_len.result ≡ part_len (kind_of c.args.part.now) (drop c.args.i c.args.piece.now) =
    c.part_len.ensures.value ∙ ap (part_len (kind_of c.args.part.now)) rest-is in
    let le : part_len (kind_of c.args.part.now) (drop c.args.i c.args.piece.now) ≤ length
    (drop c.args.i c.args.piece.now) = rw (← len, ← rest-is) c.part_len.ensures.bound in
    let items : c.in_ok-plain.plain.items ≡ plain (kind_of c.args.part.now)
    (take (part_len (kind_of c.args.part.now) (drop c.args.i c.args.piece.now)) (drop c.args.i c.args.piece.now)) =
    c.in_ok-plain.ensures ∙ ap (plain (kind_of c.args.part.now))
    (c.split_at-2.ensures.front ∙ rw (len, rest-is) refl) in
    let u = part-IsUtf8 (kind_of c.args.part.now) (ascii_kind c.args.part.now c.requires.ascii) c.args.piece.now
    c.args.i c.utf8.piece c.requires.boundary le in
    let e : false ≡ true = c.in-Err.ensures.succeeds (subst IsUtf8 (sym items) u) in
    absurd cc

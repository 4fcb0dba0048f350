use Rattle.std.proofs.Common.{◌≡◌, ◌≤◌, ◌<◌, ◌∙◌, ap, drop, length, get_or, sym, List, ℕ, arith}
use Rattle.std.proofs.lemmas.Bool.{ne_eqb}
use Rattle.std.proofs.lemmas.List.{length-drop}
use Rattle.std.specs.List.{position_or_len}
use Rattle.text_parts.specs.Part.{part_len}
use Rattle.text_parts.specs.Kinds.{kind_of}
use Rattle.text_parts.proofs.Utf8.{ascii_kind}
use Rattle.text_parts.proofs.Spans.{stops, unescaped_none, unescaped_span, escaped_some, escaped_span}
use Rattle.text_parts.proofs.span.span_at.Goals as goal
use Rattle.text_parts.proofs.span.span_at.Goals.{else-first-rest-via-then-first-rest+else-rest-first-eq92}
use Rattle.text_parts.proofs.span.span_at.Goals.{else-first-rest-via-else-first-rest}

pub returns-then-rest-first-eq92-clause-span : goal.returns-then-rest-first-eq92-clause-span
returns-then-rest-first-eq92-clause-span c =
    let k = kind_of c.args.part.now in
    let behind : c.split_at.result.1.now ≡ drop c.args.i c.args.piece.now =
    c.split_at.ensures.back ∙ ap (drop c.args.i) c.as_bytes-bytes.ensures.value in
    let is = c.stop_at-first.ensures.value ∙ ap (position_or_len (stops (kind_of c.args.part.now))) behind in
    let tail : c.split_at-then-rest-first-eq92.result.1.now ≡ drop c.stop_at-first.result
    (drop c.args.i c.args.piece.now) = c.split_at-then-rest-first-eq92.ensures.back
    ∙ ap (drop c.stop_at-first.result) behind in
    let len = c.part_len.ensures.value ∙ ap (part_len (kind_of c.args.part.now)) tail in
    let bound : c.part_len.result ≤ length (drop c.stop_at-first.result (drop c.args.i c.args.piece.now)) =
    rw (← tail) c.part_len.ensures.bound in
    let lt : c.stop_at-first.result < length (drop c.args.i c.args.piece.now) = rw (← behind) c.if-first-rest.true in
    escaped_span (kind_of c.args.part.now) (ascii_kind c.args.part.now c.requires.ascii).ends c.args.piece.now c.args.i
    c.stop_at-first.result c.part_len.result c.requires.boundary is len
    (omega (arith, bound, lt, length-drop c.stop_at-first.result (drop c.args.i c.args.piece.now)))

pub returns-clause-span : goal.returns-clause-span
returns-clause-span c =
    let behind : c.split_at.result.1.now ≡ drop c.args.i c.args.piece.now =
    c.split_at.ensures.back ∙ ap (drop c.args.i) c.as_bytes-bytes.ensures.value in
    let is = c.stop_at-first.ensures.value ∙ ap (position_or_len (stops (kind_of c.args.part.now))) behind in
    elim c.else-first-rest.branch [
      | else-first-rest-via-then-first-rest+else-rest-first-eq92 w ↦
          unescaped_span (kind_of c.args.part.now) (ascii_kind c.args.part.now c.requires.ascii).ends c.args.piece.now
          c.args.i c.stop_at-first.result c.requires.boundary is
          (λ lt. ne_eqb _ _ (λ e. w.if-rest-first-eq92.false
          (ap (λ (l : List ℕ). get_or l c.stop_at-first.result 0) behind ∙ e)))
      | else-first-rest-via-else-first-rest w ↦
          unescaped_span (kind_of c.args.part.now) (ascii_kind c.args.part.now c.requires.ascii).ends c.args.piece.now
          c.args.i c.stop_at-first.result c.requires.boundary is
          (λ lt. absurd (omega (arith, lt, w.if-first-rest.false, ap length behind)))
    ]

pub returns-then-rest-first-eq92-clause-escaped : goal.returns-then-rest-first-eq92-clause-escaped
returns-then-rest-first-eq92-clause-escaped c = λ none.
    let behind : c.split_at.result.1.now ≡ drop c.args.i c.args.piece.now =
    c.split_at.ensures.back ∙ ap (drop c.args.i) c.as_bytes-bytes.ensures.value in
    let tail : c.split_at-then-rest-first-eq92.result.1.now ≡ drop c.stop_at-first.result
    (drop c.args.i c.args.piece.now) = c.split_at-then-rest-first-eq92.ensures.back
    ∙ ap (drop c.stop_at-first.result) behind in
    let len = c.part_len.ensures.value ∙ ap (part_len (kind_of c.args.part.now)) tail in
    let lt : c.stop_at-first.result < length (drop c.args.i c.args.piece.now) = rw (← behind) c.if-first-rest.true in
    let here = ap (λ (l : List ℕ). get_or l c.stop_at-first.result 0) (sym behind) ∙ c.if-rest-first-eq92.true in
    escaped_some (kind_of c.args.part.now) none c.args.piece.now c.args.i c.stop_at-first.result c.part_len.result lt
    here len

pub returns-clause-escaped : goal.returns-clause-escaped
returns-clause-escaped c = λ none.
    let behind : c.split_at.result.1.now ≡ drop c.args.i c.args.piece.now =
    c.split_at.ensures.back ∙ ap (drop c.args.i) c.as_bytes-bytes.ensures.value in
    let is = c.stop_at-first.ensures.value ∙ ap (position_or_len (stops (kind_of c.args.part.now))) behind in
    unescaped_none (kind_of c.args.part.now) c.args.piece.now c.args.i c.stop_at-first.result is

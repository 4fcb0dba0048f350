use Rattle.std.proofs.Common.{◌<◌, ◌+◌, ℕ, length, take, drop, ap, sym, subst, ◌∙◌, arith}
use Rattle.std.specs.List.{position_or_len}
use Rattle.std.specs.Str.{IsCharBoundary}
use Rattle.text_parts.specs.Split.{is_byte}
use Rattle.text_parts.proofs.Splits.{before_boundary, behind_boundary, none_first, some_first}
use Rattle.text_parts.proofs.split.first_part.Goals as goal

pub returns-then-at-text-clause-value : goal.returns-then-at-text-clause-value
returns-then-at-text-clause-value c =
    let is = c.first_byte-at.ensures.value ∙ ap (position_or_len (is_byte c.args.byte)) c.as_bytes.ensures.value in
    sym (none_first c.args.byte c.args.text.now (sym is ∙ c.if-at-text.true))

pub split_at-requires : goal.split_at-requires
split_at-requires c =
    let is = c.first_byte-at.ensures.value ∙ ap (position_or_len (is_byte c.args.byte)) c.as_bytes.ensures.value in
    subst (IsCharBoundary c.args.text.now) (sym is) (before_boundary c.args.byte c.args.text.now c.requires.ascii)

pub split_at-requires-2 : goal.split_at-requires-2
split_at-requires-2 c =
    let is = c.first_byte-at.ensures.value ∙ ap (position_or_len (is_byte c.args.byte)) c.as_bytes.ensures.value in
    let lt : position_or_len (is_byte c.args.byte) c.args.text.now < length c.args.text.now =
    omega (arith, is, c.split_at.ensures.back_len, c.if-at-text.false) in
    subst (λ (n : ℕ). IsCharBoundary c.args.text.now (n + 1)) (sym is)
    (behind_boundary c.args.byte c.args.text.now c.requires.ascii c.utf8.text lt)

pub returns-clause-value : goal.returns-clause-value
returns-clause-value c =
    let is = c.first_byte-at.ensures.value ∙ ap (position_or_len (is_byte c.args.byte)) c.as_bytes.ensures.value in
    let lt : position_or_len (is_byte c.args.byte) c.args.text.now < length c.args.text.now =
    omega (arith, is, c.split_at.ensures.back_len, c.if-at-text.false) in
    let front = c.split_at.ensures.front ∙ ap (λ (n : ℕ). take n c.args.text.now) is in
    let behind = c.split_at-2.ensures.back ∙ ap (λ (n : ℕ). drop (n + 1) c.args.text.now) is in
    rw (front, behind) (sym (some_first c.args.byte c.args.text.now lt))

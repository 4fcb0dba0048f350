use Rattle.std.proofs.Common.{◌<◌, ◌+◌, ℕ, length, take, drop, ap, sym, ◌∙◌, arith}
use Rattle.std.specs.List.{position_or_len}
use Rattle.text_parts.specs.Split.{is_byte}
use Rattle.text_parts.proofs.Splits.{none_first, some_first}
use Rattle.journal_reader.proofs.parts.first_part.Goals as goal

pub returns-then-at-text-clause-value : goal.returns-then-at-text-clause-value
returns-then-at-text-clause-value c =
    sym (none_first c.args.byte c.args.text.now (sym c.first_byte-at.ensures.value ∙ c.if-at-text.true))

pub returns-clause-value : goal.returns-clause-value
returns-clause-value c =
    let is = c.first_byte-at.ensures.value in
    let lt : position_or_len (is_byte c.args.byte) c.args.text.now < length c.args.text.now =
    omega (arith, is, c.first_byte-at.ensures.bound, c.if-at-text.false) in
    let front = c.split_at.ensures.front ∙ ap (λ (n : ℕ). take n c.args.text.now) is in
    let behind = c.split_at-2.ensures.back ∙ ap (λ (n : ℕ). drop (n + 1) c.args.text.now) is in
    rw (front, behind) (sym (some_first c.args.byte c.args.text.now lt))

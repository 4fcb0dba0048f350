use Rattle.std.proofs.Common.{◌+◌, ℕ, ap, refl, subst, sym}
use Rattle.std.specs.Prelude.{◌==◌, not}
use Rattle.std.specs.Str.{IsCharBoundary}
use Rattle.text_parts.proofs.Spans.{found_len}
use Rattle.line_proto.proofs.Parts.{spaces_boundary}
use Rattle.line_proto.proofs.read_parts.behind_spaces.Goals as goal

pub returns-clause-value : goal.returns-clause-value
returns-clause-value c = ap (λ (n : ℕ). c.args.i + n) (found_len
    (λ b. not (b == 32)) c.args.piece.now c.split_at.result.1.now c.split_at.result.1.now c.args.i c.unwrap_or.result
    c.first_other.result c.split_at.ensures.back refl c.first_other.ensures c.unwrap_or.ensures)

pub returns-clause-boundary : goal.returns-clause-boundary
returns-clause-boundary c = λ u at.
    let len = found_len (λ b. not (b == 32)) c.args.piece.now c.split_at.result.1.now c.split_at.result.1.now c.args.i
    c.unwrap_or.result c.first_other.result c.split_at.ensures.back refl c.first_other.ensures c.unwrap_or.ensures in
    subst (λ (n : ℕ). IsCharBoundary c.args.piece.now (c.args.i + n)) (sym len)
    (spaces_boundary c.args.piece.now c.args.i u at)

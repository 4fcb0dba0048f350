use Rattle.std.proofs.Common.{◌≡◌, ◌++◌, ◌∷◌, [], List, ℕ, sym, ap, ◌∙◌, arith}
use Rattle.agent_base.specs.declared.piece.CutKind.{CutKind}
use Rattle.agent_base.specs.declared.piece.CutKind.TheVariants.{Expositions}
use Rattle.agent_base.specs.Cut.{content}
use Rattle.agent_base.proofs.Cuts.{piece_within}
use Rattle.agent_base.proofs.BufferLemmas.{whole_piece}
use Rattle.agent_base.proofs.buffer.Buffer.content.Goals as goal

with_newline : (kind : CutKind) (front : List ℕ) → kind ≡ Expositions → front ++ 10 ∷ [] ≡ content kind front
with_newline kind front is = ap (λ (k : CutKind). content k front) (sym is)

pub returns-in-Expositions-clause-content : goal.returns-in-Expositions-clause-content
returns-in-Expositions-clause-content c =
    let s = c.args.self.now in
    rw c.deref-in-Expositions.ensures.value (whole_piece s.kind s.buf.items s.start s.end c.args.i c.requires.end
    (omega (arith, piece_within s.kind s.buf.items s.start s.end c.args.i c.requires.end))
    ∙ with_newline s.kind _ c.in-Expositions.is)

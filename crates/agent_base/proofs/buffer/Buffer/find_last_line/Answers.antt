use Rattle.std.proofs.Common.{◌≡◌, ◌+◌, ◌-◌, ◌∙◌, true, false, refl, sym, ap, subst, arith}
use Rattle.std.specs.List.{between}
use Rattle.agent_base.specs.declared.piece.CutKind.TheVariants.{Expositions}
use Rattle.agent_base.specs.Cut.{FirstEnd, ends_piece}
use Rattle.agent_base.specs.Hand.{Hand}
use Rattle.agent_base.proofs.BufferLemmas.{scanned_to, first_end, scanned_behind}
use Rattle.agent_base.proofs.buffer.Buffer.find_last_line.Goals as goal

pub invariant_of-self-clause-clean : goal.invariant_of-self-clause-clean
invariant_of-self-clause-clean c =
    let s = c.lines.self in
    (scanned_to s.kind s.buf.items s.start s.line s.searched s.end s.begun s.in_line s.ordered
    (omega arith) s.clean s.last s.end s.ordered (rw c.deref.ensures.value at c.in-None.ensures)).clean

pub invariant_of-self-clause-last : goal.invariant_of-self-clause-last
invariant_of-self-clause-last c =
    let s = c.lines.self in
    (scanned_to s.kind s.buf.items s.start s.line s.searched s.end s.begun s.in_line s.ordered
    (omega arith) s.clean s.last s.end s.ordered (rw c.deref.ensures.value at c.in-None.ensures)).begun

pub returns-then-is_last_line-clause-found : goal.returns-then-is_last_line-clause-found
returns-then-is_last_line-clause-found c =
    let s = c.lines.self in
    let kind : s.kind ≡ Expositions = ap (λ (h : Hand). h.kind) c.lines.invariant ∙ c.requires.kind in
    let ends : ends_piece s.kind (between s.line (s.searched + c.in-Some.i) s.buf.items) ≡ true =
    rw kind (sym (ap (ends_piece Expositions) (rw c.deref-in-Some.ensures.value refl)) ∙ sym c.is_last_line.ensures
    ∙ c.if-is_last_line.true) in
    subst (λ (h : Hand). FirstEnd h.kind h.bytes (s.searched + c.in-Some.i - s.start)) c.lines.invariant
    (first_end s.kind s.buf.items s.start s.line s.searched s.end s.begun s.in_line s.ordered
    (omega arith) s.clean s.last c.in-Some.i (rw c.deref.ensures.value at c.in-Some.ensures) ends)

pub begin_line-requires-clause-scanned : goal.begin_line-requires-clause-scanned
begin_line-requires-clause-scanned c =
    let s = c.lines.self in
    let kind : s.kind ≡ Expositions = ap (λ (h : Hand). h.kind) c.lines.invariant ∙ c.requires.kind in
    let ends : ends_piece s.kind (between s.line (s.searched + c.in-Some.i) s.buf.items) ≡ false =
    rw kind (sym (ap (ends_piece Expositions) (rw c.deref-in-Some.ensures.value refl)) ∙ sym c.is_last_line.ensures
    ∙ c.if-is_last_line.false) in
    scanned_behind s.kind s.buf.items s.start s.line s.searched s.end s.begun s.in_line s.ordered
    (omega arith) s.clean s.last c.in-Some.i (rw c.deref.ensures.value at c.in-Some.ensures) ends

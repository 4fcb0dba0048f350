use Rattle.std.proofs.Common.{arith}
use Rattle.agent_base.proofs.BufferLemmas.{scanned_to, first_end}
use Rattle.agent_base.proofs.LineLaws.{lines_end}
use Rattle.agent_base.proofs.buffer.Buffer.find_newline.Goals as goal

pub invariant_of-self-clause-clean : goal.invariant_of-self-clause-clean
invariant_of-self-clause-clean c =
    let s = c.args.self.now in
    (scanned_to s.kind s.buf.items s.start s.line s.searched s.end s.begun s.in_line s.ordered
    (omega arith) s.clean s.last s.end s.ordered (rw c.deref.ensures.value at c.in-None.ensures)).clean

pub invariant_of-self-clause-last : goal.invariant_of-self-clause-last
invariant_of-self-clause-last c =
    let s = c.args.self.now in
    (scanned_to s.kind s.buf.items s.start s.line s.searched s.end s.begun s.in_line s.ordered
    (omega arith) s.clean s.last s.end s.ordered (rw c.deref.ensures.value at c.in-None.ensures)).begun

pub returns-in-Some-clause-found : goal.returns-in-Some-clause-found
returns-in-Some-clause-found c =
    let s = c.args.self.now in
    first_end s.kind s.buf.items s.start s.line s.searched s.end s.begun s.in_line s.ordered
    (omega arith) s.clean s.last c.in-Some.i (rw c.deref.ensures.value at c.in-Some.ensures)
    (lines_end s.kind _ c.requires.kind)

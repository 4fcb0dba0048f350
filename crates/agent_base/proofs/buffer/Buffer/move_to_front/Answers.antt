use Rattle.std.proofs.Common.{◌≡◌, ◌≤◌, ◌-◌, ◌+◌, ◌∙◌, sym, ap, List, [], ℕ, arith}
use Rattle.std.specs.List.{between}
use Rattle.agent_base.specs.Cut.{has_end, last_line}
use Rattle.agent_base.proofs.BufferLemmas.{moved_start, moved_between}
use Rattle.agent_base.proofs.buffer.Buffer.move_to_front.Goals as goal

-- what was searched, at the front
front : (xs new : List ℕ) (start searched end : ℕ) → between 0 (searched - start) new ≡ between start
    (start + (searched - start)) xs → start ≤ searched → between 0 (searched - start) new ≡ between start searched xs
front xs new start searched end e low = let m : start + (searched - start) ≡ searched = omega arith in
    e ∙ ap (λ (k : ℕ). between start k xs) m

pub invariant_of-self-clause-clean : goal.invariant_of-self-clause-clean
invariant_of-self-clause-clean c =
    let s = c.args.self.now in
    let moved = moved_start s.buf.items c.copy_within.new.self.items s.start s.end c.copy_within.ensures.items
    (omega arith) (omega arith) (s.searched - s.start) (omega arith) in
    ap (has_end s.kind []) (front s.buf.items c.copy_within.new.self.items s.start s.searched s.end moved (omega arith))
    ∙ s.clean

pub invariant_of-self-clause-last : goal.invariant_of-self-clause-last
invariant_of-self-clause-last c =
    let s = c.args.self.now in
    let moved = moved_start s.buf.items c.copy_within.new.self.items s.start s.end c.copy_within.ensures.items
    (omega arith) (omega arith) (s.searched - s.start) (omega arith) in
    let line = moved_between s.buf.items c.copy_within.new.self.items s.start s.end c.copy_within.ensures.items
    (omega arith) (omega arith) s.line s.searched s.begun s.in_line s.ordered in
    ap (last_line []) (front s.buf.items c.copy_within.new.self.items s.start s.searched s.end moved (omega arith))
    ∙ s.last ∙ sym line

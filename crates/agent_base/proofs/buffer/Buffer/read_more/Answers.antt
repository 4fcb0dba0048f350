use Rattle.std.proofs.Common.{[], ◌≡◌, ◌≤◌, ◌+◌, ◌-◌, length, drop, ap, ◌∙◌, arith}
use Rattle.std.specs.List.{between}
use Rattle.std.proofs.lemmas.List.{length-take, length-drop}
use Rattle.agent_base.specs.Buffered.{hand_of}
use Rattle.agent_base.specs.Hand.{Hand}
use Rattle.agent_base.specs.Cut.{has_end}
use Rattle.agent_base.proofs.BufferLemmas.{between_front, scanned_front, read_steps, keeps_steps, hand_is}
use Rattle.agent_base.proofs.HandLemmas.{on_err, hand_zero}
use Rattle.agent_base.proofs.TakenLemmas.{read_takes, keeps_takes}
use Rattle.agent_base.proofs.buffer.Buffer.read_more.Given.{Over}
use Rattle.agent_base.proofs.buffer.Buffer.read_more.Goals.{In_err-n}
use Rattle.agent_base.proofs.buffer.Buffer.read_more.Goals as goal

-- what is in hand behind a read that was refused
abbrev hand_then : (g : Over) → In_err-n g → Hand
hand_then g c = let s = c.args.self.now in record {
  kind = s.kind;
  bytes = between s.start s.end c.read_into.new.buf.items;
  is_passing = s.passing;
  taken = c.read_into.new.taken;
}

-- it is as it was
same_hand : (g : Over) (c : In_err-n g) → hand_then g c ≡ hand_of c.args.self.now
same_hand g c =
    let s = c.args.self.now in
    let same = between_front s.buf.items c.read_into.new.buf.items s.start s.end s.end
    (omega arith) c.in_err-n.ensures.before in
    hand_is s.kind (between s.start s.end c.read_into.new.buf.items) (between s.start s.end s.buf.items) s.passing
    c.read_into.new.taken s.taken same c.in_err-n.ensures.kept

pub invariant_of-self : goal.invariant_of-self
invariant_of-self g c =
    let s = c.args.self.now in record {
      room = omega (arith, c.in_err-n.ensures.len);
      spared = s.spared;
      begun = s.begun;
      in_line = s.in_line;
      ordered = s.ordered;
      within = omega (arith, c.in_err-n.ensures.len);
      most = rw c.in_err-n.ensures.kept s.most;
      clean = ap (has_end s.kind []) (between_front s.buf.items c.read_into.new.buf.items s.start s.searched s.end
          s.ordered c.in_err-n.ensures.before) ∙ s.clean;
      last = scanned_front s.buf.items c.read_into.new.buf.items s.start s.line s.searched s.end s.ordered
          c.in_err-n.ensures.before s.last;
    }

pub invariant_of-self-2-clause-clean : goal.invariant_of-self-2-clause-clean
invariant_of-self-2-clause-clean g c =
    let s = c.args.self.now in
    ap (has_end s.kind []) (between_front s.buf.items c.read_into.new.buf.items s.start s.searched s.end s.ordered
    c.in_ok-n.ensures.before) ∙ s.clean

pub invariant_of-self-2-clause-last : goal.invariant_of-self-2-clause-last
invariant_of-self-2-clause-last g c =
    let s = c.args.self.now in
    scanned_front s.buf.items c.read_into.new.buf.items s.start s.line s.searched s.end s.ordered
    c.in_ok-n.ensures.before s.last

pub returns-in_err-n-clause-steps : goal.returns-in_err-n-clause-steps
returns-in_err-n-clause-steps g c =
    keeps_steps (g.S.Source.told c.args.src.now).bytes (g.S.Source.told c.read_into.new.src).bytes
    (hand_of c.args.self.now) _ c.in_err-n.ensures.bytes
    (same_hand g (goal.at.returns-in_err-n-clause-steps g c).In_err-n)

pub returns-in_err-n-clause-failed : goal.returns-in_err-n-clause-failed
returns-in_err-n-clause-failed g c =
    on_err c.from_residual.result _ (same_hand g (goal.at.returns-in_err-n-clause-failed g c).In_err-n)

pub returns-clause-steps : goal.returns-clause-steps
returns-clause-steps g c =
    let s = c.args.self.now in
    let room : s.end + c.lent-most.result ≤ length c.read_into.new.buf.items =
    omega (arith, c.lent-most.ensures.free) in
    read_steps (g.S.Source.told c.args.src.now).bytes (g.S.Source.told c.read_into.new.src).bytes s.buf.items
    c.read_into.new.buf.items s.start s.end c.lent-most.result c.in_ok-n.n s.taken c.read_into.new.taken s.kind
    s.passing (omega arith) c.in_ok-n.ensures.bound room c.in_ok-n.ensures.before c.in_ok-n.ensures.counted
    c.in_ok-n.ensures.bytes.0

pub returns-clause-end : goal.returns-clause-end
returns-clause-end g c = λ e.
    let s = c.args.self.now in
    let zero_is : c.in_ok-n.n ≡ 0 = cc in
    let room : s.end + c.lent-most.result ≤ length c.read_into.new.buf.items =
    omega (arith, c.lent-most.ensures.free) in (
      hand_zero s.kind s.buf.items c.read_into.new.buf.items s.start s.end c.in_ok-n.n s.taken c.read_into.new.taken
          s.passing zero_is c.in_ok-n.ensures.before c.in_ok-n.ensures.counted,
      c.in_ok-n.ensures.bytes.1 zero_is (omega (
        arith,
        c.lent-most.ensures.some,
        length-take (s.end + c.lent-most.result - s.end) (drop s.end c.read_into.new.buf.items),
        length-drop s.end c.read_into.new.buf.items,
      )),
    )

pub returns-in_err-n-clause-takes : goal.returns-in_err-n-clause-takes
returns-in_err-n-clause-takes g c =
    keeps_takes (g.S.Source.told c.args.src.now).bytes (g.S.Source.told c.read_into.new.src).bytes
    (hand_of c.args.self.now) _ c.in_err-n.ensures.bytes
    (same_hand g (goal.at.returns-in_err-n-clause-takes g c).In_err-n)

pub returns-clause-takes : goal.returns-clause-takes
returns-clause-takes g c =
    let s = c.args.self.now in
    read_takes (g.S.Source.told c.args.src.now).bytes (g.S.Source.told c.read_into.new.src).bytes s.buf.items
    c.read_into.new.buf.items s.start s.end c.lent-most.result c.in_ok-n.n s.taken c.read_into.new.taken s.kind
    s.passing (omega arith) c.in_ok-n.ensures.bound c.in_ok-n.ensures.before c.in_ok-n.ensures.bytes.0

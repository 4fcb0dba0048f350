use Rattle.std.proofs.Common.{refl, ◌∙◌, false, ◌+◌, arith}
use Rattle.agent_base.specs.Buffered.{hand_of, bytes_of}
use Rattle.agent_base.specs.Hand.{Hand}
use Rattle.agent_base.proofs.HandLemmas.{gives_passed, gives_long, gives_whole}
use Rattle.agent_base.proofs.buffer.Buffer.give.Goals as goal

pub returns-then-self-clause-pieces : goal.returns-then-self-clause-pieces
returns-then-self-clause-pieces c =
    let s = c.args.self.now in
    let t = c.skip_to.new.self in
    let after : Hand = record { kind = t.kind; bytes = bytes_of t; is_passing = false; taken = t.taken } in
    gives_passed (hand_of s) after c.skip_to.ensures.kind s.buf.items s.start s.end c.args.i
    (s.start + c.args.i + 1) refl c.skip_to.ensures.bytes refl c.requires.end c.if-self.true refl

pub returns-then-sizes-i-clause-pieces : goal.returns-then-sizes-i-clause-pieces
returns-then-sizes-i-clause-pieces c =
    let s = c.args.self.now in
    let t = c.skip_to-then-sizes-i.new.self in
    let after = c.skip_to-then-sizes-i.ensures in
    gives_long (hand_of s) (hand_of t) after.kind s.buf.items s.start s.end c.args.i
    (s.start + c.args.i + 1) refl after.bytes refl c.requires.end c.if-self.false (after.passing ∙ c.if-self.false)
    (omega arith)

pub returns-clause-pieces : goal.returns-clause-pieces
returns-clause-pieces c =
    let s = c.args.self.now in
    let t = c.skip_to-2.new.self in
    let after = c.skip_to-2.ensures in
    gives_whole (hand_of s) (hand_of t) after.kind s.buf.items s.start s.end c.args.i
    (s.start + c.args.i + 1) refl after.bytes refl c.requires.end c.if-self.false (after.passing ∙ c.if-self.false)
    (omega arith) c.of.result (c.of.ensures ∙ c.filled-bytes.ensures ∙ c.content.ensures.content)

use Rattle.std.proofs.Common.{refl, ◌∙◌, false, ◌-◌, drop, arith}
use Rattle.std.proofs.lemmas.List.{length-take, length-drop}
use Rattle.agent_base.specs.Buffered.{hand_of, bytes_of}
use Rattle.agent_base.specs.Hand.{Hand}
use Rattle.agent_base.proofs.HandLemmas.{ends_passed, ends_empty, ends_last, empty_bytes}
use Rattle.agent_base.proofs.buffer.Buffer.finish.Goals as goal

pub returns-then-self-clause-pieces : goal.returns-then-self-clause-pieces
returns-then-self-clause-pieces c =
    let t = c.skip_all.new.self in
    let after : Hand = record { kind = t.kind; bytes = bytes_of t; is_passing = false; taken = t.taken } in
    ends_passed (hand_of c.args.self.now) after c.skip_all.ensures.kind c.if-self.true refl c.requires.none
    c.skip_all.ensures.bytes

pub returns-then-self-2-clause-pieces : goal.returns-then-self-2-clause-pieces
returns-then-self-2-clause-pieces c =
    let s = c.args.self.now in
    let nothing = ends_empty (hand_of s) c.if-self.false (empty_bytes s.buf.items s.start s.end (omega arith)) in
    (nothing, nothing)

pub returns-clause-pieces : goal.returns-clause-pieces
returns-clause-pieces c =
    let s = c.args.self.now in
    ends_last (hand_of s) (hand_of c.skip_all-2.new.self) c.of.result c.skip_all-2.ensures.kind c.if-self.false
    (c.skip_all-2.ensures.passing ∙ c.if-self.false) c.requires.none
    (omega (arith, length-take (s.end - s.start) (drop s.start s.buf.items), length-drop s.start s.buf.items))
    (omega (arith, length-take (s.end - s.start) (drop s.start s.buf.items), length-drop s.start s.buf.items))
    (c.of.ensures ∙ c.filled-bytes.ensures ∙ rw c.deref.ensures.value refl) c.skip_all-2.ensures.bytes

pub returns-then-self-clause-spent : goal.returns-then-self-clause-spent
returns-then-self-clause-spent c =
    let t = c.skip_all.new.self in
    let after : Hand = record { kind = t.kind; bytes = bytes_of t; is_passing = false; taken = t.taken } in
    ends_empty after refl c.skip_all.ensures.bytes

pub returns-then-self-2-clause-spent : goal.returns-then-self-2-clause-spent
returns-then-self-2-clause-spent c =
    let s = c.args.self.now in
    ends_empty (hand_of s) c.if-self.false (empty_bytes s.buf.items s.start s.end (omega arith))

pub returns-clause-spent : goal.returns-clause-spent
returns-clause-spent c = ends_empty (hand_of c.skip_all-2.new.self) (c.skip_all-2.ensures.passing ∙ c.if-self.false)
    c.skip_all-2.ensures.bytes

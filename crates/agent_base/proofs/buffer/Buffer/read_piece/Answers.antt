use Rattle.std.proofs.Common.{rules}
use Rattle.agent_base.specs.Buffered.{hand_of}
use Rattle.agent_base.specs.Taken.{Takes}
use Rattle.agent_base.proofs.TakenLemmas.{takes_more, takes_byte_limit, takes_piece}
use Rattle.agent_base.proofs.buffer.Buffer.read_piece.Given as given
use Rattle.agent_base.proofs.buffer.Buffer.read_piece.Goals as goal
use Rattle.agent_base.proofs.buffer.Buffer.read_piece.Goals.{After-read_more}

-- what was taken so far, behind one more read
taken : (g : given.Over) (c : After-read_more g) → Takes (g.S.Source.told c.args.src.now).bytes
    (g.S.Source.told c.read_more.new.src).bytes (hand_of c.args.self.now) (hand_of c.read_more.new.self)
taken g c =
    takes_more (g.S.Source.told c.args.src.now).bytes (g.S.Source.told c.reads.src).bytes
    (g.S.Source.told c.read_more.new.src).bytes (hand_of c.args.self.now) (hand_of c.reads.self)
    (hand_of c.make_room.new.self) (hand_of c.read_more.new.self)
    c.reads.invariant.takes c.make_room.ensures.same c.read_more.ensures.takes

pub reads-preserved : goal.reads-preserved
reads-preserved g c = record {
  steps = search rules;
  takes = rw c.find_end.ensures.same (taken g (goal.at.reads-preserved g c).After-read_more);
  faults = search rules;
  grows = search rules;
  most = search rules;
  kind = search rules;
  all = search rules;
}

pub returns-then-self-eq-MAX_TAKEN_BYTES : goal.returns-then-self-eq-MAX_TAKEN_BYTES
returns-then-self-eq-MAX_TAKEN_BYTES g c =
    let takes = taken g (goal.at.returns-then-self-eq-MAX_TAKEN_BYTES g c).After-read_more in
    record {
      gives = record {
        pieces = search rules;
        whatever_follows = takes_byte_limit (g.S.Source.told c.args.src.now).bytes
            (g.S.Source.told c.read_more.new.src).bytes (hand_of c.args.self.now) (hand_of c.read_more.new.self) takes;
        counted = search rules;
        grows = search rules;
        kind = search rules;
        short = search rules;
        limited = search rules;
        reason = search rules;
        faults = search rules;
      };
    }

pub returns-in-Some : goal.returns-in-Some
returns-in-Some g c =
    let takes = taken g (goal.at.returns-in-Some g c).After-read_more in
    let found : Takes (g.S.Source.told c.args.src.now).bytes (g.S.Source.told c.read_more.new.src).bytes
    (hand_of c.args.self.now) (hand_of c.find_end.new.self) = rw c.find_end.ensures.same takes in
    record {
      gives = record {
        pieces = search rules;
        whatever_follows = takes_piece (g.S.Source.told c.args.src.now).bytes
            (g.S.Source.told c.read_more.new.src).bytes
            (hand_of c.args.self.now) (hand_of c.find_end.new.self) (hand_of c.give.new.self) c.give.result found
            c.give.ensures.pieces c.give.ensures.given;
        counted = search rules;
        grows = search rules;
        kind = search rules;
        short = search rules;
        limited = search rules;
        reason = search rules;
        faults = search rules;
      };
    }

use Rattle.std.proofs.Common.{◌≡◌, ◌<◌, ◌≤◌, ◌-◌}
use Rattle.agent_base.specs.Buffered.{hand_of}
use Rattle.agent_base.specs.Hand.{Steps}
use Rattle.agent_base.specs.Taken.{Takes}
use Rattle.agent_base.specs.declared.buffer.TheConstants.{MAX_TAKEN_BYTES}
use Rattle.agent_base.proofs.buffer.Buffer.read_piece.Given as goal

abbrev pub invariant-reads : goal.invariant-reads
invariant-reads g l = record {
  steps : Steps (g.S.Source.told l.fn.src).bytes (g.S.Source.told l.src).bytes (hand_of l.fn.self) (hand_of l.self);
  takes : Takes (g.S.Source.told l.fn.src).bytes (g.S.Source.told l.src).bytes (hand_of l.fn.self) (hand_of l.self);
  faults : (g.S.Source.told l.src).faults ≡ (g.S.Source.told l.fn.src).faults;
  grows : l.fn.self.taken ≤ l.self.taken;
  most : l.self.taken < MAX_TAKEN_BYTES;
  kind : l.self.kind ≡ l.fn.self.kind;
  all : l.self.searched ≡ l.self.end;
}

abbrev pub decreases-reads : goal.decreases-reads
decreases-reads g l = MAX_TAKEN_BYTES - l.self.taken

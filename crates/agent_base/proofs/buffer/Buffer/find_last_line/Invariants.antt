use Rattle.std.proofs.Common.{◌≡◌, ◌-◌}
use Rattle.agent_base.specs.Buffered.{hand_of}
use Rattle.agent_base.proofs.buffer.Buffer.find_last_line.Given as goal

abbrev pub invariant-lines : goal.invariant-lines
invariant-lines l = hand_of l.self ≡ hand_of l.fn.self

abbrev pub decreases-lines : goal.decreases-lines
decreases-lines l = l.self.end - l.self.searched

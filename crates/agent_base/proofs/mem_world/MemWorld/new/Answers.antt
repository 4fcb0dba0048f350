use Rattle.std.proofs.Common.{refl}
use Rattle.agent_base.proofs.mem_world.MemWorld.new.Goals as goal

pub returns-clause-nothing_stands : goal.returns-clause-nothing_stands
returns-clause-nothing_stands g c = rw (c.new.ensures, c.new-2.ensures, c.new-3.ensures.items) refl

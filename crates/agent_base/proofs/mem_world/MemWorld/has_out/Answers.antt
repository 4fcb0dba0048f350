use Rattle.std.proofs.Common.{sym, ◌∙◌}
use Rattle.agent_base.proofs.SlotLemmas.{none_told}
use Rattle.agent_base.specs.Slots.{slot_of}
use Rattle.agent_base.proofs.mem_world.MemWorld.has_out.Goals as goal

pub returns-clause-none : goal.returns-clause-none
returns-clause-none g c = λ e. none_told g.K.Sink.told (slot_of c.args.self.now.outs c.args.place.now)
    (sym c.has.ensures ∙ e)

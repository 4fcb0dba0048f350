use Rattle.std.proofs.Common.{sym, ◌∙◌}
use Rattle.agent_base.proofs.SlotLemmas.{none_told}
use Rattle.agent_base.specs.Slots.{slot_of}
use Rattle.agent_base.proofs.mem_world.MemWorld.has_in.Goals as goal

pub returns-clause-none : goal.returns-clause-none
returns-clause-none g c = λ e. none_told g.S.Source.told (slot_of c.args.self.now.ins c.args.place.now)
    (sym c.has.ensures ∙ e)

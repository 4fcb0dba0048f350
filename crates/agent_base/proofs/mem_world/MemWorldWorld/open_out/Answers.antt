use Rattle.agent_base.proofs.SlotLemmas.{opened_told}
use Rattle.agent_base.specs.Slots.{slot_of}
use Rattle.agent_base.proofs.mem_world.MemWorldWorld.open_out.Goals as goal

pub returns-clause-refused : goal.returns-clause-refused
returns-clause-refused g c =
    (opened_told g.K.Sink.told c.open.result (slot_of c.args.self.now.outs c.args.place.now)
    (slot_of c.open.new.self c.args.place.now) c.requires c.open.ensures.opened).1

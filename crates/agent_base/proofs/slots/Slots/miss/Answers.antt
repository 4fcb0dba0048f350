use Rattle.std.proofs.Common.{refl, None, false}
use Rattle.agent_base.proofs.SlotLemmas.{misses}
use Rattle.agent_base.specs.declared.slots.Slot.{Slot}
use Rattle.agent_base.proofs.slots.Slots.miss.Goals as goal

pub returns-clause-ok : goal.returns-clause-ok
returns-clause-ok g c =
    let y : Slot g.row.P.Denot = record { place = c.in_ok-name.name; part = None; open_faults = 1; is_out = false } in
    let h = misses c.args.self.now.slots.items c.push.new.self.items c.args.place.now y c.requires
    c.in_ok-name.ensures.ok c.in_ok-push.ensures.items in
    rw h.was (record { next = y; now = h.now; has = refl; is_out = refl; open_faults = refl })

pub returns-clause-others : goal.returns-clause-others
returns-clause-others g c =
    let y : Slot g.row.P.Denot = record { place = c.in_ok-name.name; part = None; open_faults = 1; is_out = false } in
    (misses c.args.self.now.slots.items c.push.new.self.items c.args.place.now y c.requires c.in_ok-name.ensures.ok
    c.in_ok-push.ensures.items).others

use Rattle.std.proofs.Common.{refl, ap, Some, false}
use Rattle.agent_base.proofs.SlotLemmas.{Adds, misses, still_home}
use Rattle.agent_base.specs.Slots.{is_out_at}
use Rattle.agent_base.specs.declared.slots.Slot.{Slot}
use Rattle.agent_base.proofs.slots.Slots.push.Given.{Over}
use Rattle.agent_base.proofs.slots.Slots.push.Goals.{In_ok-push}
use Rattle.agent_base.proofs.slots.Slots.push.Goals as goal

-- the slot that was pushed
abbrev pushed : (g : Over) → In_ok-push g → Slot g.row.P.Denot
pushed g c = record { place = c.in_ok-name.name; part = Some c.args.part; open_faults = 0; is_out = false }

adds : (g : Over) (c : In_ok-push g)
    → Adds c.args.self.now.slots.items c.push.new.self.items c.args.place.now (pushed g c)
adds g c = misses c.args.self.now.slots.items c.push.new.self.items c.args.place.now (pushed g c) c.requires
    c.in_ok-name.ensures.ok c.in_ok-push.ensures.items

pub returns-clause-added : goal.returns-clause-added
returns-clause-added g c =
    let h = adds g (goal.at.returns-clause-added g c).In_ok-push in
    rw h.was (record {
      slot = pushed g (goal.at.returns-clause-added g c).In_ok-push;
      now = h.now;
      has = refl;
      is_out = refl;
      open_faults = refl;
    })

pub returns-clause-others : goal.returns-clause-others
returns-clause-others g c = (adds g (goal.at.returns-clause-others g c).In_ok-push).others

pub returns-clause-home : goal.returns-clause-home
returns-clause-home g c =
    let h = adds g (goal.at.returns-clause-home g c).In_ok-push in
    still_home c.args.self.now.slots.items c.push.new.self.items c.args.place.now h.others (ap is_out_at h.now)

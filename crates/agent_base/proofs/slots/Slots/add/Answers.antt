use Rattle.std.proofs.Common.{refl, sym, ap, ◌∙◌, Some, false}
use Rattle.std.specs.List.{position}
use Rattle.agent_base.proofs.SlotLemmas.{changes, still_home}
use Rattle.agent_base.specs.Slots.{is_named, is_out_at}
use Rattle.agent_base.proofs.slots.Slots.add.Goals as goal

pub returns-in-Some-clause-added : goal.returns-in-Some-clause-added
returns-in-Some-clause-added g c =
    let x = c.index_mut-slot.result.now in
    let y = record x { part = Some c.args.part; is_out = false } in
    let found = sym (c.in-Some.ensures ∙ ap (position (is_named c.args.place.now)) c.deref.ensures.value) in
    let h = changes c.args.self.now.slots.items c.args.place.now c.in-Some.at x y found c.index_mut-slot.ensures.value
    refl in
    rw h.was (record { slot = y; now = h.now; has = refl; is_out = refl; open_faults = refl })

pub returns-in-Some-clause-others : goal.returns-in-Some-clause-others
returns-in-Some-clause-others g c =
    let x = c.index_mut-slot.result.now in
    let found = sym (c.in-Some.ensures ∙ ap (position (is_named c.args.place.now)) c.deref.ensures.value) in
    (changes c.args.self.now.slots.items c.args.place.now c.in-Some.at x
    (record x { part = Some c.args.part; is_out = false }) found c.index_mut-slot.ensures.value refl).others

pub returns-in-Some-clause-home : goal.returns-in-Some-clause-home
returns-in-Some-clause-home g c =
    let x = c.index_mut-slot.result.now in
    let found = sym (c.in-Some.ensures ∙ ap (position (is_named c.args.place.now)) c.deref.ensures.value) in
    let h = changes c.args.self.now.slots.items c.args.place.now c.in-Some.at x
    (record x { part = Some c.args.part; is_out = false }) found c.index_mut-slot.ensures.value refl in
    still_home c.args.self.now.slots.items _ c.args.place.now h.others (ap is_out_at h.now)

use Rattle.std.proofs.Common.{refl, sym, ap, ◌∙◌, true, arith}
use Rattle.std.specs.List.{position}
use Rattle.agent_base.proofs.SlotLemmas.{changes}
use Rattle.agent_base.specs.Slots.{is_named}
use Rattle.agent_base.proofs.slots.Slots.open.Goals as goal

pub returns-in-Some-take-clause-opened : goal.returns-in-Some-take-clause-opened
returns-in-Some-take-clause-opened g c =
    let x = c.index_mut-slot.result.now in
    let y = record x { part = c.take.new.self; is_out = true } in
    let found = sym (c.in-Some.ensures ∙ ap (position (is_named c.args.place.now)) c.deref.ensures.value) in
    let h = changes c.args.self.now.slots.items c.args.place.now c.in-Some.at x y found c.index_mut-slot.ensures.value
    refl in
    record {
      slot = x;
      was = h.was;
      had = sym c.in-Some-take.ensures.value;
      next = y;
      now = h.now;
      has = c.in-Some-take.ensures.after;
      is_out = refl;
      open_faults = refl;
    }

pub returns-in-Some-take-clause-others : goal.returns-in-Some-take-clause-others
returns-in-Some-take-clause-others g c =
    let x = c.index_mut-slot.result.now in
    let found = sym (c.in-Some.ensures ∙ ap (position (is_named c.args.place.now)) c.deref.ensures.value) in
    (changes c.args.self.now.slots.items c.args.place.now c.in-Some.at x
    (record x { part = c.take.new.self; is_out = true }) found c.index_mut-slot.ensures.value refl).others

pub returns-in-None-take-clause-opened : goal.returns-in-None-take-clause-opened
returns-in-None-take-clause-opened g c =
    let x = c.index_mut-slot.result.now in
    let y = record x { part = c.take.new.self; open_faults = c.saturating_add-slot.result } in
    let found = sym (c.in-Some.ensures ∙ ap (position (is_named c.args.place.now)) c.deref.ensures.value) in
    let h = changes c.args.self.now.slots.items c.args.place.now c.in-Some.at x y found c.index_mut-slot.ensures.value
    refl in
    rw h.was (record {
      next = y;
      now = h.now;
      has = c.in-None-take.ensures.after;
      is_out = refl;
      open_faults = (sym c.in-None-take.ensures.value, c.saturating_add-slot.ensures, omega arith);
    })

pub returns-in-None-take-clause-others : goal.returns-in-None-take-clause-others
returns-in-None-take-clause-others g c =
    let x = c.index_mut-slot.result.now in
    let found = sym (c.in-Some.ensures ∙ ap (position (is_named c.args.place.now)) c.deref.ensures.value) in
    (changes c.args.self.now.slots.items c.args.place.now c.in-Some.at x
    (record x { part = c.take.new.self; open_faults = c.saturating_add-slot.result }) found
    c.index_mut-slot.ensures.value refl).others

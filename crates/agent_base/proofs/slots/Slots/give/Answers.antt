use Rattle.std.proofs.Common.{refl, sym, ap, ◌∙◌, Some, false}
use Rattle.std.specs.List.{position}
use Rattle.agent_base.proofs.SlotLemmas.{changes, none_at, never}
use Rattle.agent_base.specs.Slots.{is_named}
use Rattle.agent_base.proofs.slots.Slots.give.Goals as goal

pub returns-in-Some-clause-given : goal.returns-in-Some-clause-given
returns-in-Some-clause-given g c =
    let x = c.index_mut-slot.result.now in
    let found = sym (c.in-Some.ensures ∙ ap (position (is_named c.args.place.now)) c.deref.ensures.value) in
    let h = changes c.args.self.now.slots.items c.args.place.now c.in-Some.at x
    (record x { part = Some c.args.part; is_out = false }) found c.index_mut-slot.ensures.value refl in
    record {
      slot = x;
      was = h.was;
      next = record x { part = Some c.args.part; is_out = false };
      now = h.now;
      has = refl;
      is_out = refl;
      open_faults = refl;
    }

pub returns-in-Some-clause-others : goal.returns-in-Some-clause-others
returns-in-Some-clause-others g c =
    let x = c.index_mut-slot.result.now in
    let found = sym (c.in-Some.ensures ∙ ap (position (is_named c.args.place.now)) c.deref.ensures.value) in
    (changes c.args.self.now.slots.items c.args.place.now c.in-Some.at x
    (record x { part = Some c.args.part; is_out = false }) found c.index_mut-slot.ensures.value refl).others

pub returns-in_default-clause-given : goal.returns-in_default-clause-given
returns-in_default-clause-given g c =
    let none = none_at c.args.self.now.slots.items c.args.place.now
    (sym (c.in_default.ensures ∙ ap (position (is_named c.args.place.now)) c.deref.ensures.value)) in
    absurd (never (rw none at c.requires))

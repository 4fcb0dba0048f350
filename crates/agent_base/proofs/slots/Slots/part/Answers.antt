use Rattle.std.proofs.Common.{refl, sym, ap, ◌∙◌}
use Rattle.std.specs.List.{position}
use Rattle.agent_base.proofs.SlotLemmas.{at_position, no_position}
use Rattle.agent_base.specs.Slots.{is_named}
use Rattle.agent_base.proofs.slots.Slots.part.Goals as goal

pub returns-in-Some : goal.returns-in-Some
returns-in-Some g c =
    let found = sym (c.in-Some.ensures ∙ ap (position (is_named c.args.place.now)) c.deref.ensures.value) in
    rw (at_position (is_named c.args.place.now) c.args.self.now.slots.items c.in-Some.at c.index.result.now found
    c.index.ensures)
    c.as_ref.ensures.value

pub returns-in-None : goal.returns-in-None
returns-in-None g c =
    let missed = sym (c.in-None.ensures ∙ ap (position (is_named c.args.place.now)) c.deref.ensures.value) in
    rw (no_position (is_named c.args.place.now) c.args.self.now.slots.items missed) refl

use Rattle.std.proofs.Common.{refl, sym, ap, ◌∙◌}
use Rattle.std.specs.List.{position}
use Rattle.agent_base.specs.Clocks.{is_of}
use Rattle.agent_base.proofs.SlotLemmas.{clock_after, clocks_beside}
use Rattle.agent_base.proofs.clocks.put.Goals as goal

pub returns-in-Some-clause-kept : goal.returns-in-Some-clause-kept
returns-in-Some-clause-kept c =
    let found = sym (c.in-Some.ensures ∙ ap (position (is_of c.args.who)) c.deref.ensures.value) in
    clock_after c.args.clocks.now.items c.args.who c.in-Some.at c.index_mut.result.now
    (c.index_mut.result.now.0, c.args.clock) found c.index_mut.ensures.value refl

pub returns-in-Some-clause-others : goal.returns-in-Some-clause-others
returns-in-Some-clause-others c =
    let found = sym (c.in-Some.ensures ∙ ap (position (is_of c.args.who)) c.deref.ensures.value) in
    clocks_beside c.args.clocks.now.items c.args.who c.in-Some.at c.index_mut.result.now
    (c.index_mut.result.now.0, c.args.clock) found c.index_mut.ensures.value refl

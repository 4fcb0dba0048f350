use Rattle.std.proofs.Common.{refl, sym, ap, ◌∙◌}
use Rattle.std.specs.List.{position}
use Rattle.agent_base.specs.Clocks.{is_of}
use Rattle.agent_base.specs.declared.fresh.FreshClock.{FreshClock}
use Rattle.agent_base.proofs.SlotLemmas.{clock_before, clocks_beside, clock_none}
use Rattle.agent_base.proofs.clocks.take.Goals as goal

pub returns-in-Some-clause-is : goal.returns-in-Some-clause-is
returns-in-Some-clause-is c =
    let found = sym (c.in-Some.ensures ∙ ap (position (is_of c.args.who)) c.deref.ensures.value) in
    rw (clock_before c.args.clocks.now.items c.args.who c.in-Some.at c.index_mut.result.now found
    c.index_mut.ensures.value)
    (ap (λ (x : FreshClock). x.clock) c.replace.ensures.value)

pub returns-in-Some-clause-others : goal.returns-in-Some-clause-others
returns-in-Some-clause-others c =
    let found = sym (c.in-Some.ensures ∙ ap (position (is_of c.args.who)) c.deref.ensures.value) in
    clocks_beside c.args.clocks.now.items c.args.who c.in-Some.at c.index_mut.result.now
    (c.index_mut.result.now.0, c.replace.new.dest) found c.index_mut.ensures.value refl

pub returns-in-None-clause-is : goal.returns-in-None-clause-is
returns-in-None-clause-is c =
    let found = sym (c.in-None.ensures ∙ ap (position (is_of c.args.who)) c.deref.ensures.value) in
    rw (clock_none c.args.clocks.now.items c.args.who found) c.empty-in-None.ensures

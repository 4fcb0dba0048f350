use Rattle.std.proofs.Common.{◌∷◌, List, ℕ, ap, subst, map}
use Rattle.agent_run.specs.PlaceLists.{AreGiven, AreOpened, in_places, out_places, places_in}
use Rattle.agent_run.proofs.SideLemmas.{err_left, left_ins_home, left_outs_home, opens_all, written_refused}
use Rattle.agent_run.proofs.places.open_places.Goals as goal

pub returns-in_err-inputs-clause-refused : goal.returns-in_err-inputs-clause-refused
returns-in_err-inputs-clause-refused g c =
    err_left c.from_residual.result _ c.in_err-inputs.field-0.0 (λ x h. h) (places_in c.as_slice-3.result.now)
    (in_places c.args.config.now) (out_places c.args.config.now) _ _
    (ap places_in c.as_slice-3.ensures) c.from_residual.ensures.1
    c.in_err-inputs.ensures.refused c.open_side.ensures.only

pub returns-in-Ok-open_written-clause-opened : goal.returns-in-Ok-open_written-clause-opened
returns-in-Ok-open_written-clause-opened g c =
    let read = map g.W.In.Source.told c.in_ok-inputs.inputs.items in
    let written = g.W.Out.Sink.told c.in-Ok-open_written.journal ∷ map g.W.Out.Sink.told
    c.in-Ok-open_written.outputs.items in
    let old = g.W.World.view c.args.world.now in
    let mid = g.W.World.view c.open_side.new.world in
    opens_all c.args.config.now read written old mid (g.W.World.view c.open_written.new.world)
    (subst (λ (ps : List (List ℕ)). AreOpened ps read old.ins mid.ins)
    (ap places_in c.as_slice-3.ensures) c.in_ok-inputs.ensures.opened)
    c.open_side.ensures.only c.in-Ok-open_written.ensures.opened c.open_written.ensures.only

pub returns-in-Err-clause-refused : goal.returns-in-Err-clause-refused
returns-in-Err-clause-refused g c =
    let read = map g.W.In.Source.told c.in_ok-inputs.inputs.items in
    let old = g.W.World.view c.args.world.now in
    let mid = g.W.World.view c.open_side.new.world in
    let third = g.W.World.view c.open_written.new.world in
    let last = g.W.World.view c.give_each.new.world in
    written_refused c.in-Err.unopened (in_places c.args.config.now) (out_places c.args.config.now) read old mid third
    last c.requires.ins
    (subst (λ (ps : List (List ℕ)). AreOpened ps read old.ins mid.ins)
    (ap places_in c.as_slice-3.ensures) c.in_ok-inputs.ensures.opened)
    c.open_side.ensures.only c.in-Err.ensures.refused c.open_written.ensures.only
    (subst (λ (ps : List (List ℕ)). AreGiven ps read third.ins last.ins) (ap places_in c.as_slice-in-Err.ensures)
    c.give_each.ensures.given)
    c.give_each.ensures.only

pub returns-in-Err-clause-ins_home : goal.returns-in-Err-clause-ins_home
returns-in-Err-clause-ins_home g c =
    left_ins_home c.in-Err.unopened (in_places c.args.config.now) (out_places c.args.config.now)
    (g.W.World.view c.args.world.now) (g.W.World.view c.give_each.new.world) c.requires.ins
    (returns-in-Err-clause-refused g c)

pub returns-in-Err-clause-outs_home : goal.returns-in-Err-clause-outs_home
returns-in-Err-clause-outs_home g c =
    left_outs_home c.in-Err.unopened (in_places c.args.config.now) (out_places c.args.config.now)
    (g.W.World.view c.args.world.now) (g.W.World.view c.give_each.new.world) c.requires.outs
    (returns-in-Err-clause-refused g c)

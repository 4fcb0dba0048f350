use Rattle.std.proofs.Common.{◌∙◌, ap, subst, sym, map}
use Rattle.std.proofs.lemmas.Map.Keys.{IsDistinct-tail}
use Rattle.std.specs.List.{IsDistinct}
use Rattle.std.specs.Str.{bytes_eq}
use Rattle.agent_base.specs.Places.{Place, Opens}
use Rattle.agent_run.specs.PlaceLists.{places_out}
use Rattle.agent_run.proofs.PartLemmas.{before_same, err_behind, first_refused, go_before, opened_out_still}
use Rattle.agent_run.proofs.places.open_written.Goals as goal

pub open_side-requires-clause-apart : goal.open_side-requires-clause-apart
open_side-requires-clause-apart g c κs within =
    subst (IsDistinct bytes_eq) (sym (ap places_out c.as_slice.ensures))
    (IsDistinct-tail bytes_eq c.args.config.now.agent.journal (places_out c.args.config.now.outputs) c.requires.apart)

pub returns-in_err-outputs-clause-refused : goal.returns-in_err-outputs-clause-refused
returns-in_err-outputs-clause-refused g c =
    err_behind c.from_residual.result _ c.in_err-outputs.field-0.0 (λ x h. h) c.args.config.now.agent.journal
    (places_out c.as_slice.result.now) (places_out c.args.config.now.outputs) _ _
    (ap places_out c.as_slice.ensures) c.from_residual.ensures.1 c.in_err-outputs.ensures.refused

pub open_out-requires : goal.open_out-requires
open_out-requires g c =
    ap (λ (p : Place). p.is_out) (before_same Opens (places_out c.as_slice.result.now)
    (places_out c.args.config.now.outputs) (map g.W.Out.Sink.told c.in_ok-outputs.outputs.items)
    c.as_str-place.result.now c.args.config.now.agent.journal
    (g.W.World.view c.args.world.now).outs (g.W.World.view c.open_side.new.world).outs
    (ap places_out c.as_slice.ensures) c.as_str-place.ensures c.requires.apart c.in_ok-outputs.ensures.opened)
    ∙ c.requires.home c.as_str-place.result.now

pub give_each-requires-clause-apart : goal.give_each-requires-clause-apart
give_each-requires-clause-apart g c κs within =
    subst (IsDistinct bytes_eq) (sym (ap places_out c.as_slice-in-Err.ensures))
    (IsDistinct-tail bytes_eq c.args.config.now.agent.journal (places_out c.args.config.now.outputs) c.requires.apart)

pub give_each-requires-clause-out : goal.give_each-requires-clause-out
give_each-requires-clause-out g c κs within =
    opened_out_still c.args.config.now.agent.journal (places_out c.args.config.now.outputs)
    (places_out c.as_slice.result.now) (places_out c.as_slice-in-Err.result.now) c.as_str-place.result.now
    (map g.W.Out.Sink.told c.in_ok-outputs.outputs.items)
    (g.W.World.view c.args.world.now).outs (g.W.World.view c.open_side.new.world).outs
    (g.W.World.view c.open_out.new.self).outs (ap places_out c.as_slice.ensures)
    (ap places_out c.as_slice-in-Err.ensures) c.as_str-place.ensures c.requires.apart c.in_ok-outputs.ensures.opened
    c.open_out.ensures.only.others

pub returns-in-Ok-clause-opened : goal.returns-in-Ok-clause-opened
returns-in-Ok-clause-opened g c =
    go_before Opens (places_out c.as_slice.result.now) (places_out c.args.config.now.outputs)
    (map g.W.Out.Sink.told c.in_ok-outputs.outputs.items) c.as_str-place.result.now c.args.config.now.agent.journal
    (g.W.Out.Sink.told c.in-Ok.journal) (g.W.World.view c.args.world.now).outs
    (g.W.World.view c.open_side.new.world).outs (g.W.World.view c.open_out.new.self).outs
    (ap places_out c.as_slice.ensures) c.as_str-place.ensures c.requires.apart c.in_ok-outputs.ensures.opened
    c.in-Ok.ensures.opened c.open_out.ensures.only.others

pub returns-in-Err-clause-refused : goal.returns-in-Err-clause-refused
returns-in-Err-clause-refused g c =
    first_refused c.args.config.now.agent.journal (places_out c.args.config.now.outputs)
    (places_out c.as_slice.result.now) (places_out c.as_slice-in-Err.result.now) c.as_str-place.result.now
    (map g.W.Out.Sink.told c.in_ok-outputs.outputs.items)
    (g.W.World.view c.args.world.now).outs (g.W.World.view c.open_side.new.world).outs
    (g.W.World.view c.open_out.new.self).outs (ap places_out c.as_slice.ensures)
    (ap places_out c.as_slice-in-Err.ensures) c.as_str-place.ensures c.requires.apart c.in_ok-outputs.ensures.opened
    c.open_out.ensures.only.others
    c.in-Err.fault c.unopened_at.result (g.W.World.view c.give_each.new.world).outs c.requires.home
    c.unopened_at.ensures c.in-Err.ensures.refused c.give_each.ensures.given

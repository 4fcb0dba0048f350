use Rattle.std.proofs.Common.{◌∙◌, ◌∷◌, List, ℕ, ap, subst, sym, arith, map}
use Rattle.std.proofs.lemmas.Map.Keys.{IsDistinct-tail}
use Rattle.std.specs.List.{IsDistinct}
use Rattle.std.specs.Str.{bytes_eq}
use Rattle.agent_base.specs.Places.{Place, TakesIn}
use Rattle.agent_run.specs.PlaceLists.{PartsAreOut, out_places, places_out}
use Rattle.agent_run.proofs.PartLemmas.{before_same, given_home, go_before, out_behind}
use Rattle.agent_run.proofs.places.give_written.Goals as goal

pub give_each-requires-clause-apart : goal.give_each-requires-clause-apart
give_each-requires-clause-apart g c κs within =
    subst (IsDistinct bytes_eq) (sym (ap places_out c.as_slice.ensures))
    (IsDistinct-tail bytes_eq c.args.config.now.agent.journal (places_out c.args.config.now.outputs) c.requires.apart)

pub give_each-requires-clause-out : goal.give_each-requires-clause-out
give_each-requires-clause-out g c κs within =
    let told = (g.W.World.view c.args.world.now).outs in
    subst (λ (ps : List (List ℕ)). PartsAreOut ps told) (sym (ap places_out c.as_slice.ensures))
    (out_behind c.args.config.now.agent.journal (places_out c.args.config.now.outputs) told c.requires.out)

pub give_out-requires : goal.give_out-requires
give_out-requires g c =
    let told = (g.W.World.view c.args.world.now).outs in
    ap (λ (p : Place). p.is_out) (before_same TakesIn (places_out c.as_slice.result.now)
    (places_out c.args.config.now.outputs) (map g.W.Out.Sink.told c.args.outputs.items) c.as_str.result.now
    c.args.config.now.agent.journal
    told (g.W.World.view c.give_each.new.world).outs (ap places_out c.as_slice.ensures) c.as_str.ensures
    c.requires.apart c.give_each.ensures.given)
    ∙ ap (λ q. (told q).is_out) c.as_str.ensures ∙ c.requires.out 0 (omega arith)

pub returns-clause-given : goal.returns-clause-given
returns-clause-given g c =
    go_before TakesIn (places_out c.as_slice.result.now) (places_out c.args.config.now.outputs)
    (map g.W.Out.Sink.told c.args.outputs.items) c.as_str.result.now c.args.config.now.agent.journal
    (g.W.Out.Sink.told c.args.journal) (g.W.World.view c.args.world.now).outs
    (g.W.World.view c.give_each.new.world).outs (g.W.World.view c.give_out.new.self).outs
    (ap places_out c.as_slice.ensures) c.as_str.ensures c.requires.apart c.give_each.ensures.given
    c.give_out.ensures.given c.give_out.ensures.only.others

pub returns-clause-home : goal.returns-clause-home
returns-clause-home g c = given_home (out_places c.args.config.now) (g.W.Out.Sink.told c.args.journal
    ∷ map g.W.Out.Sink.told c.args.outputs.items)
    (g.W.World.view c.args.world.now).outs (g.W.World.view c.give_out.new.self).outs (returns-clause-given g c)

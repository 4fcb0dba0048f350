use Rattle.std.proofs.Common.{List, ℕ, ap, subst, map}
use Rattle.agent_run.specs.PlaceLists.{AreGiven, in_places, places_in}
use Rattle.agent_run.proofs.PartLemmas.{given_home}
use Rattle.agent_run.proofs.places.give_read.Goals as goal

pub returns-clause-given : goal.returns-clause-given
returns-clause-given g c =
    subst (λ (ps : List (List ℕ)). AreGiven ps (map g.W.In.Source.told c.args.inputs.items)
    (g.W.World.view c.args.world.now).ins (g.W.World.view c.give_each.new.world).ins)
    (ap places_in c.as_slice.ensures) c.give_each.ensures.given

pub returns-clause-home : goal.returns-clause-home
returns-clause-home g c = given_home (in_places c.args.config.now) (map g.W.In.Source.told c.args.inputs.items)
    (g.W.World.view c.args.world.now).ins (g.W.World.view c.give_each.new.world).ins (returns-clause-given g c)

use Rattle.std.proofs.Common.{rules, subst, arith}
use Rattle.account.specs.declared.entry.Entry.TheVariants.{Ended}
use Rattle.pipeline_core.specs.CoreState.{GroupsAgree}
use Rattle.pipeline_core.specs.CoreView.{core_state}
use Rattle.pipeline_core.specs.Stands.{HasJournal}
use Rattle.pipeline_core.proofs.JournalKept.{has_next}
use Rattle.pipeline_core.proofs.StandsSteps.{ended_stands}
use Rattle.pipeline_core.proofs.Keeping.{kept_ended, flights-le}
use Rattle.pipeline_core.proofs.state.Core.ended.Goals as goal

pub invariant_of-self-2 : goal.invariant_of-self-2
invariant_of-self-2 c =
    let groups = c.self.invariant.groups in
    record {
      core = rw c.ended.ensures (kept_ended (core_state c.self.inside) c.args.input _ c.self.invariant.core);
      groups = record {
        known = groups.known;
        tracks = groups.tracks;
        limits = groups.limits;
        few = groups.few;
        told_count = groups.told_count;
      };
      told = has_next c.args.self.now _ (Ended c.args.input)
          (ended_stands c.args.self.now _ c.args.input (search rules)
          (subst GroupsAgree c.self.view_is c.self.invariant.groups) c.requires.reading c.requires.going)
          (subst HasJournal c.self.view_is c.self.invariant.told);
      spare = omega (arith, flights-le c.self.inside.outputs.items, c.in_ok-make_room.ensures.room);
      places = c.self.invariant.places;
    }

pub returns-clause-stands : goal.returns-clause-stands
returns-clause-stands c =
    ended_stands c.args.self.now _ c.args.input (search rules)
    (subst GroupsAgree c.self.view_is c.self.invariant.groups) c.requires.reading c.requires.going

use Rattle.std.proofs.Common.{◌≡◌, ap, rules, subst, arith}
use mir.Syntax.{w64}
use mir.Val.{of_z, to_z}
use Rattle.agg_bank.specs.Events.{closing_event}
use Rattle.pipeline_core.specs.CoreState.{CoreState, GroupsAgree}
use Rattle.pipeline_core.specs.CoreView.{core_state}
use Rattle.pipeline_core.specs.Moments.{closing_entry}
use Rattle.pipeline_core.specs.Stands.{Continues, HasJournal}
use Rattle.pipeline_core.specs.Steps.{moment_at}
use Rattle.pipeline_core.proofs.JournalKept.{has_next}
use Rattle.pipeline_core.proofs.Keeping.{flights-le}
use Rattle.pipeline_core.proofs.WindowsKept.{after_closing, bank_closed, closed_at, closing_stands}
use Rattle.pipeline_core.proofs.WindowsKept.{core_closed, groups_closed}
use Rattle.pipeline_core.proofs.state.Core.close_windows.Goals.{After-push_reserved}
use Rattle.pipeline_core.proofs.state.Core.close_windows.Goals as goal

-- the core stands for the journals with the entry
continues : (c : After-push_reserved) (n : CoreState) → n ≡ after_closing c.args.all c.args.self.now c.args.moment
    c.in_ok-made.made.items c.close_at.new.bank → Continues c.args.self.now n
    (closing_entry c.args.all (moment_at c.args.self.now c.args.moment) c.in_ok-made.made.items)
continues c n is =
    closing_stands c.args.self.now n c.args.moment c.in_ok-made.made.items c.requires c.args.all c.close_at.new.bank is
    (subst GroupsAgree c.self.view_is c.self.invariant.groups)
    (bank_closed c.args.self.now c.args.moment (to_z w64 (of_z w64 c.max-counted.result)) (closing_event c.args.all)
    c.self.inside.bank c.close_at.new.bank c.in_ok-made.made.items (ap (λ (s : CoreState). s.bank) c.self.view_is)
    (search rules) c.in_ok-made.ensures c.close_at.ensures.stands)

pub invariant_of-self-2 : goal.invariant_of-self-2
invariant_of-self-2 c =
    record {
      core = core_closed (core_state c.self.inside) _ c.in_ok-made.made.items (search rules)
          c.in_ok-take_in.ensures.few c.close_at.ensures.lines c.self.invariant.core;
      groups = groups_closed (core_state c.self.inside) _ c.in_ok-made.made.items (search rules)
          c.self.invariant.groups;
      told = has_next c.args.self.now _
          (closing_entry c.args.all (moment_at c.args.self.now c.args.moment) c.in_ok-made.made.items)
          (continues (goal.at.invariant_of-self-2 c).After-push_reserved _ (search rules))
          (subst HasJournal c.self.view_is c.self.invariant.told);
      spare = omega (arith, flights-le c.self.inside.outputs.items, c.in_ok-make_room.ensures.room);
      places = c.self.invariant.places;
    }

pub returns-clause-ok : goal.returns-clause-ok
returns-clause-ok c =
    closed_at c.args.self.now _ c.args.moment c.in_ok-made.made.items c.requires c.args.all (search rules)
    (continues c _ (search rules))

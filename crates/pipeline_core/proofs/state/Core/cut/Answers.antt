use Rattle.std.proofs.Common.{rules, arith}
use Rattle.pipeline_core.specs.CoreView.{core_state}
use Rattle.pipeline_core.proofs.StandsCuts.{cut_stands}
use Rattle.pipeline_core.proofs.Keeping.{kept_entries, flights-le}
use Rattle.pipeline_core.proofs.state.Core.cut.Goals as goal

pub invariant_of-self : goal.invariant_of-self
invariant_of-self c =
    let groups = c.self.invariant.groups in
    rw c.replace.ensures.after
    (record {
      core = kept_entries (core_state c.self.inside) _ _ _ c.self.invariant.core;
      groups = record {
        known = groups.known;
        tracks = groups.tracks;
        limits = groups.limits;
        few = groups.few;
        told_count = groups.told_count;
      };
      told = record {
        journal = c.self.invariant.told.journal;
        stands = cut_stands (core_state c.self.inside) _ (search rules) _ c.self.invariant.told.stands;
      };
      spare = omega (arith, flights-le c.self.inside.outputs.items, c.in-Ok.ensures.exact, c.in-Ok.ensures.len);
      places = c.self.invariant.places;
    })

pub returns-clause-stands : goal.returns-clause-stands
returns-clause-stands c = cut_stands c.args.self.now _ (search rules)

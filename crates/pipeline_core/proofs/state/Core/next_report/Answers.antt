use Rattle.std.proofs.Common.{◌≡◌, ◌<◌, ◌∙◌, ap, sym, subst, arith, length, map, set, List}
use Rattle.std.proofs.lemmas.List.{length-map, length-set}
use Rattle.account.specs.declared.entry.Report.{Report}
use Rattle.track_groups.specs.Tracker.{live_of}
use Rattle.pipeline_core.specs.CoreState.{CoreState}
use Rattle.pipeline_core.specs.CoreView.{core_state}
use Rattle.pipeline_core.specs.Steps.{after_told}
use Rattle.pipeline_core.specs.ToldView.{ToldState, reports_in}
use Rattle.pipeline_core.proofs.JournalKept.{has_still}
use Rattle.pipeline_core.proofs.Keeping.{kept_groups}
use Rattle.pipeline_core.proofs.StandsCuts.{told_stands}
use Rattle.pipeline_core.proofs.TellingLemmas.{places_next, told_next}
use Rattle.pipeline_core.proofs.state.Core.next_report.Goals.{After-next}
use Rattle.pipeline_core.proofs.state.Core.next_report.Goals as goal

-- the input has reports
within : (c : After-next) → c.args.input < length c.self.inside.told.items
within c =
    let known : c.args.input < length (core_state c.self.inside).setup.inputs =
    subst (λ (s : CoreState). c.args.input < length s.setup.inputs) (sym c.self.view_is) c.requires in
    omega (arith, known, c.self.invariant.groups.told_count, length-map c.self.inside.told.items reports_in)

told_is : (c : After-next) → map reports_in (set c.self.inside.told.items c.args.input c.next.new.self)
    ≡ (after_told (core_state c.self.inside) c.args.input).told
told_is c =
    told_next c.self.inside.told.items c.args.input c.index_mut.result.now c.next.new.self (within c)
    c.index_mut.ensures.value (ap reports_in c.next.ensures.others)

pub invariant_of-self : goal.invariant_of-self
invariant_of-self c =
    let groups = c.self.invariant.groups in
    let state : CoreState = core_state c.self.inside in
    let told : List (List Report) = map reports_in (set c.self.inside.told.items c.args.input c.next.new.self) in
    record {
      core = kept_groups state state.groups state.tracker state.marked told c.self.invariant.core;
      groups = record {
        known = groups.known;
        tracks = groups.tracks;
        limits = groups.limits;
        few = groups.few;
        told_count = length-map (set c.self.inside.told.items c.args.input c.next.new.self) reports_in
            ∙ length-set c.self.inside.told.items c.args.input c.next.new.self
            ∙ sym (length-map c.self.inside.told.items reports_in) ∙ groups.told_count;
      };
      told = has_still state (record state { told = told }) (told_stands state (record state { told = told })
          c.args.input (ap (λ (xs : List (List Report)). record state { told = xs }) (told_is
          (goal.at.invariant_of-self c).After-next))
          (omega (
            arith,
            within
                (goal.at.invariant_of-self c).After-next,
            length-map c.self.inside.told.items reports_in,
          )))
          c.self.invariant.told;
      spare = c.self.invariant.spare;
      places = places_next c.self.inside.told.items c.args.input c.index_mut.result.now c.next.new.self
          (live_of state.tracker) (within (goal.at.invariant_of-self c).After-next) c.index_mut.ensures.value
          (ap reports_in c.next.ensures.others)
          (ap (λ (x : ToldState). x.places) c.next.ensures.others) c.self.invariant.places;
    }

pub returns-clause-after : goal.returns-clause-after
returns-clause-after c =
    ap (λ (xs : List (List Report)). record (core_state c.self.inside) { told = xs }) (told_is
    (goal.at.returns-clause-after c).After-next)
    ∙ ap (λ (s : CoreState). after_told s c.args.input) c.self.view_is

pub returns-clause-stands : goal.returns-clause-stands
returns-clause-stands c =
    told_stands c.args.self.now _ c.args.input (returns-clause-after c)
    (omega (
      arith,
      within (goal.at.returns-clause-stands c).After-next,
      length-map c.self.inside.told.items reports_in,
      ap (λ (s : CoreState). length s.told)
          c.self.view_is,
    ))

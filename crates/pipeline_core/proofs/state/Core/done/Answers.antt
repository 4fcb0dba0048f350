use Rattle.std.proofs.Common.{◌≡◌, ◌<◌, ◌∙◌, ℕ, ap, sym, subst, length, map, not, refl, IsSome, arith, List, []}
use Rattle.std.proofs.Common.{◌∷◌, ◌++◌}
use Rattle.std.specs.declared.option.Option.{Option}
use Rattle.account.specs.Numbers.{Numbers, output_numbers, with_output}
use Rattle.account.specs.declared.entry.Entry.TheVariants.{Done}
use Rattle.account.specs.declared.entry.Report.{Report}
use Rattle.out_lane.specs.Lane.{LaneState}
use Rattle.track_groups.specs.Settling.{Copy, after_copies}
use Rattle.track_groups.specs.Tracker.{TrackerState}
use Rattle.pipeline_core.specs.declared.output.Offer.{Offer}
use Rattle.pipeline_core.specs.CoreState.{CoreState, GroupsAgree, IsCore, lane_at}
use Rattle.pipeline_core.specs.CoreView.{core_state}
use Rattle.pipeline_core.specs.Letting.{HasCopies, LetsGo, MayTell}
use Rattle.pipeline_core.specs.Stands.{HasJournal}
use Rattle.pipeline_core.specs.Steps.{after_done, copies_done, count_done, counted_done, done_entry, done_reports}
use Rattle.pipeline_core.specs.Steps.{lane_done, told_with, with_reports}
use Rattle.pipeline_core.specs.ToldView.{reports_in}
use Rattle.pipeline_core.specs.Tracked.{copies_in}
use Rattle.pipeline_core.proofs.GatherKept.{HasPlaces}
use Rattle.pipeline_core.proofs.GroupsKept.{core_done, done_has, done_is, may_tell, places_gone}
use Rattle.pipeline_core.proofs.JournalKept.{has_next, kept_same}
use Rattle.pipeline_core.proofs.Keeping.{flights_done, none_left}
use Rattle.pipeline_core.proofs.LettingLemmas.{lets_all}
use Rattle.pipeline_core.proofs.Offering.{placed}
use Rattle.pipeline_core.proofs.StandsLanes.{done_stands}
use Rattle.pipeline_core.proofs.TellingLemmas.{length-told_with}
use Rattle.pipeline_core.proofs.state.Core.done.Goals.{After-as_slice-2}
use Rattle.pipeline_core.proofs.state.Core.done.Goals as goal

pub settle_all-requires-clause-copies : goal.settle_all-requires-clause-copies
settle_all-requires-clause-copies c =
    subst (λ (xs : List (Option ℕ)). HasCopies (copies_in (not c.args.ok) xs) c.self.inside.tracker)
    (sym (c.as_slice.ensures.value ∙ c.leave-groups.ensures.groups))
    (done_has (core_state c.self.inside) c.args.output c.args.ok c.self.invariant.core c.self.invariant.told
    (omega (arith, ap (λ (s : CoreState). length s.setup.outputs) c.self.view_is, c.requires.known))
    (subst (λ (s : CoreState). IsSome (lane_at s.lanes c.args.output).flight) (sym c.self.view_is) c.requires.begun))

-- the output's lane
known : (c : After-as_slice-2) → c.args.output < length (core_state c.self.inside).setup.outputs
known c = omega (arith, ap (λ (s : CoreState). length s.setup.outputs) c.self.view_is, c.requires.known)

within : (c : After-as_slice-2) → c.args.output < length c.self.inside.outputs.items
within c = omega (arith, known c, c.self.invariant.core.outputs.lane_count)

place : (c : After-as_slice-2) → lane_at c.self.inside.outputs.items c.args.output ≡ c.index_mut-chosen.result.now
place c =
    placed c.self.inside.outputs.items c.args.output c.index_mut-chosen.result.now (within c)
    c.index_mut-chosen.ensures.value

begun : (c : After-as_slice-2) → IsSome (lane_at c.self.inside.outputs.items c.args.output).flight
begun c =
    subst (λ (s : CoreState). IsSome (lane_at s.lanes c.args.output).flight) (sym c.self.view_is) c.requires.begun

lane : (c : After-as_slice-2) → c.done-count.new.self ≡ lane_done c.args.ok
    (lane_at c.self.inside.outputs.items c.args.output)
lane c = c.done-count.ensures.lane ∙ ap (lane_done c.args.ok) (sym (place c))

numbers : (c : After-as_slice-2) → c.count_done.new.account ≡ with_output c.self.inside.account c.args.output
    (counted_done c.args.ok (count_done c.args.ok (lane_at c.self.inside.outputs.items c.args.output))
    (output_numbers c.self.inside.account c.args.output))
numbers c =
    c.count_done.ensures ∙ ap (λ (n : ℕ). with_output c.self.inside.account c.args.output
    (counted_done c.args.ok n (output_numbers c.self.inside.account c.args.output)))
    (c.done-count.ensures.count ∙ ap (count_done c.args.ok) (sym (place c)))

-- the copies that leave, and what settling them makes
copies_are : (c : After-as_slice-2) → copies_in (not c.args.ok) c.as_slice.result.now ≡ copies_done
    (core_state c.self.inside) c.args.output c.args.ok
copies_are c = ap (copies_in (not c.args.ok)) (c.as_slice.ensures.value ∙ c.leave-groups.ensures.groups)

settled : (c : After-as_slice-2) → (c.settle_all.new.tracker ≡ after_copies c.self.inside.tracker
    (copies_done (core_state c.self.inside) c.args.output c.args.ok))
    × (c.settle_all.new.reports.items ≡ done_reports (core_state c.self.inside) c.args.output c.args.ok)
settled c =
    lets_all (copies_done (core_state c.self.inside) c.args.output c.args.ok) c.self.inside.tracker
    c.settle_all.new.tracker c.leave-groups.result.reports.items c.settle_all.new.reports.items
    c.self.invariant.groups.tracks c.leave-groups.ensures.reports
    (subst (λ (xs : List Copy). LetsGo xs c.self.inside.tracker c.leave-groups.result.reports.items
    c.settle_all.new.tracker c.settle_all.new.reports.items) (copies_are c) c.settle_all.ensures.settled)

told_are : (c : After-as_slice-2) → c.as_slice-2.result.now ≡ done_reports (core_state c.self.inside) c.args.output
    c.args.ok
told_are c = c.as_slice-2.ensures.value ∙ (settled c).1

tells : (c : After-as_slice-2) → MayTell c.count_done.new.account c.self.inside.told.items c.as_slice-2.result.now
tells c =
    may_tell (core_state c.self.inside) c.self.invariant.core c.self.invariant.groups c.self.invariant.told
    c.self.inside.tracker (copies_done (core_state c.self.inside) c.args.output c.args.ok)
    c.self.invariant.groups.tracks refl (λ i. refl) c.count_done.new.account
    (ap (λ (n : Numbers). n.inputs) c.count_done.ensures) c.self.inside.told.items refl c.as_slice-2.result.now
    (told_are c) c.self.invariant.places

pub tell-requires : goal.tell-requires
tell-requires c = tells c

pub returns-clause-after : goal.returns-clause-after
returns-clause-after c =
    let at = (goal.at.returns-clause-after c).After-as_slice-2 in
    done_is (core_state c.self.inside) c.args.output c.args.ok c.settle_all.new.tracker c.done-count.new.self
    c.leave-groups.new.marked.items (map reports_in c.tell.new.told.items) c.tell.new.account c.count_done.new.account
    c.settle_all.new.reports.items c.push_reserved.new.self.items (settled at).0 (lane at) c.leave-groups.ensures.marked
    (settled at).1
    (c.tell.ensures.told ∙ ap (told_with (core_state c.self.inside).told) c.as_slice-2.ensures.value) (numbers at)
    (c.tell.ensures.account ∙ ap (with_reports c.count_done.new.account) c.as_slice-2.ensures.value)
    (c.push_reserved.ensures.items
    ∙ ap (λ (r : List Report). c.self.inside.stored.items ++ Done c.args.output c.args.ok r ∷ []) c.of.ensures)
    ∙ ap (λ (s : CoreState). after_done s c.args.output c.args.ok) c.self.view_is

pub returns-clause-stands : goal.returns-clause-stands
returns-clause-stands c =
    done_stands c.args.self.now _ c.args.output c.args.ok (returns-clause-after c)
    (subst IsCore c.self.view_is c.self.invariant.core) (subst GroupsAgree c.self.view_is c.self.invariant.groups)
    c.requires.known c.requires.begun

pub invariant_of-self : goal.invariant_of-self
invariant_of-self c =
    let at = (goal.at.invariant_of-self c).After-as_slice-2 in
    let state : CoreState = core_state c.self.inside in
    record {
      core = kept_same (after_done c.args.self.now c.args.output c.args.ok) _ (returns-clause-after c)
          (core_done c.args.self.now c.args.output c.args.ok (subst IsCore c.self.view_is c.self.invariant.core)
          c.requires.known);
      groups = record {
        known = c.self.invariant.groups.known;
        tracks = c.settle_all.ensures.stands;
        limits = ap (λ (t : TrackerState). t.limits) (settled at).0 ∙ c.self.invariant.groups.limits;
        few = omega (arith, ap (λ (t : TrackerState). t.started) (settled at).0, c.self.invariant.groups.few);
        told_count = ap length c.tell.ensures.told ∙ length-told_with state.told c.as_slice-2.result.now
            ∙ c.self.invariant.groups.told_count;
      };
      told = has_next c.args.self.now _ (done_entry c.args.self.now c.args.output c.args.ok) (returns-clause-stands c)
          (subst HasJournal c.self.view_is c.self.invariant.told);
      spare = omega (
        arith,
        flights_done c.self.inside.outputs.items c.args.output c.done-count.new.self (within at) (begun at)
            (ap (λ (x : LaneState Offer). x.flight) (lane at) ∙ none_left c.args.ok
            (lane_at c.self.inside.outputs.items c.args.output)),
        c.self.invariant.spare,
      );
      places = subst (λ (t : TrackerState). HasPlaces t c.tell.new.told.items) (sym (settled at).0)
          (places_gone c.self.inside.tracker (copies_done state c.args.output c.args.ok) c.self.inside.told.items
          c.tell.new.told.items c.self.invariant.groups.tracks c.self.invariant.places
          (c.tell.ensures.told ∙ ap (told_with state.told) (told_are at)) c.tell.ensures.places);
    }

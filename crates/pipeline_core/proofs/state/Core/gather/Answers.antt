use Rattle.std.proofs.Common.{◌≡◌, ◌<◌, ◌≤◌, ◌^◌, ◌+◌, ◌∙◌, ap, sym, subst, rules, arith, length, map, List, false}
use Rattle.std.proofs.Common.{ℕ}
use Rattle.std.proofs.lemmas.List.{length-map, length-set}
use Rattle.std.proofs.lemmas.Option.{slice_get_within}
use Rattle.std.specs.List.{count_by}
use Rattle.std.specs.declared.option.Option.{Option}
use Rattle.metric.specs.declared.metric.Content.{Content}
use Rattle.account.specs.Numbers.{Numbers}
use Rattle.account.specs.declared.entry.Report.{Report}
use Rattle.track_groups.specs.Settling.{is_report_of}
use Rattle.track_groups.specs.Tracker.{IsTracker, TrackerState}
use Rattle.pipeline_core.specs.Letting.{told_in}
use Rattle.pipeline_core.specs.CoreState.{CoreState, GroupsAgree, IsCore}
use Rattle.pipeline_core.specs.CoreView.{core_state}
use Rattle.pipeline_core.specs.Stands.{HasJournal}
use Rattle.pipeline_core.specs.Steps.{FitsRaw, HasGroup, HasRawRoom, after_gather, gather_entry, most_of}
use Rattle.pipeline_core.specs.Steps.{next_number, reports_started, start_group, told_with}
use Rattle.pipeline_core.specs.ToldView.{reports_in}
use Rattle.pipeline_core.proofs.GatherKept.{HasPlaces, agree_gathered, core_gathered, few_counted, limit_is}
use Rattle.pipeline_core.proofs.GatherKept.{places_kept}
use Rattle.pipeline_core.proofs.GatherKept.{places_to_tell, places_told, started_own}
use Rattle.pipeline_core.proofs.GatherStanding.{gather_stands}
use Rattle.pipeline_core.proofs.JournalKept.{agree_same, has_next, kept_as_before, kept_same}
use Rattle.pipeline_core.proofs.Keeping.{flights-le}
use Rattle.pipeline_core.proofs.state.Core.gather.Goals.{After-as_slice-2, After-push_reserved}
use Rattle.pipeline_core.proofs.state.Core.gather.Goals as goal

pub invariant_of-self-in_err-make_place : goal.invariant_of-self-in_err-make_place
invariant_of-self-in_err-make_place c =
    kept_as_before c.self.inside _ (search rules)
    (omega (arith, flights-le c.self.inside.outputs.items, c.in_ok-make_room_for.ensures.room))
    (places_kept c.self.inside.tracker c.self.inside.told.items c.make_place.new.told.items
    c.make_place.ensures.reports c.make_place.ensures.kept c.self.invariant.places) c.self.invariant

pub invariant_of-self-in_err-line_up : goal.invariant_of-self-in_err-line_up
invariant_of-self-in_err-line_up c =
    kept_as_before c.self.inside _ (search rules)
    (omega (arith, flights-le c.self.inside.outputs.items, c.in_ok-make_room_for.ensures.room))
    (places_kept c.self.inside.tracker c.self.inside.told.items c.make_place.new.told.items
    c.make_place.ensures.reports c.make_place.ensures.kept c.self.invariant.places) c.self.invariant

pub start-group-requires-clause-limit : goal.start-group-requires-clause-limit
start-group-requires-clause-limit c =
    let known : c.args.g.input < length (core_state c.self.inside).setup.inputs =
    omega (
      arith,
      slice_get_within c.args.self.now.ended c.args.g.input false c.requires.reading,
      ap (λ (s : CoreState). length s.ended) c.self.view_is,
      c.self.invariant.core.inputs.ended_count,
    ) in
    limit_is (core_state c.self.inside) c.args.g.input c.most_live-most.result c.self.invariant.groups known
    (c.most_live-most.ensures ∙ ap (λ (s : CoreState). most_of s c.args.g.input) (sym c.self.view_is))
    (subst (λ (s : CoreState). HasGroup s c.args.g.input) (sym c.self.view_is) c.in-Admitted.ensures.1)

-- which group begins
group_is : (c : After-as_slice-2) → c.start-group.result ≡ next_number
    (most_of (core_state c.self.inside) c.args.g.input) c.self.inside.tracker.started
group_is c =
    c.start-group.ensures.group ∙ ap (λ (most : Option ℕ). next_number most c.self.inside.tracker.started)
    (c.most_live-most.ensures ∙ ap (λ (s : CoreState). most_of s c.args.g.input) (sym c.self.view_is))

-- what is told
told_are : (c : After-as_slice-2) → c.as_slice-2.result.now ≡ reports_started c.self.inside.tracker
    (next_number (most_of (core_state c.self.inside) c.args.g.input) c.self.inside.tracker.started) c.args.g.input
    (length c.args.g.metrics)
told_are c =
    c.as_slice-2.ensures.value ∙ c.start-group.ensures.reports
    ∙ ap (λ (group : Option ℕ). reports_started c.self.inside.tracker group c.args.g.input
    (length c.as_slice-count.result.now)) (group_is c)
    ∙ ap (λ (xs : List Content). reports_started c.self.inside.tracker (next_number
    (most_of (core_state c.self.inside) c.args.g.input) c.self.inside.tracker.started) c.args.g.input (length xs))
    c.as_slice-count.ensures

-- the input is known
within : (c : After-as_slice-2) → c.args.g.input < length (core_state c.self.inside).setup.inputs
within c =
    omega (
      arith,
      slice_get_within c.args.self.now.ended c.args.g.input false c.requires.reading,
      ap (λ (s : CoreState). length s.ended) c.self.view_is,
      c.self.invariant.core.inputs.ended_count,
    )

many_told : (c : After-as_slice-2) → length c.make_place.new.told.items ≡ length (core_state c.self.inside).setup.inputs
many_told c =
    sym (length-map c.make_place.new.told.items reports_in) ∙ ap length c.make_place.ensures.reports
    ∙ c.self.invariant.groups.told_count

pub tell-requires : goal.tell-requires
tell-requires c =
    record {
      known = λ i some.
          let own : c.args.g.input ≡ i = started_own c.self.inside.tracker
          (most_of (core_state c.self.inside) c.args.g.input) c.args.g.input (length c.args.g.metrics) i
          (subst (λ (xs : List Report). 0 < count_by (is_report_of i) xs) (told_are c) some) in
          let many : length c.count_gathered.new.account.inputs ≡ length c.self.inside.account.inputs =
          ap (λ (n : Numbers). length n.inputs) c.count_gathered.ensures
          ∙ length-set c.self.inside.account.inputs c.args.g.input _ in (
            omega (arith, own, within c, many_told c),
            omega (arith, own, within c, many, c.self.invariant.core.inputs.number_count),
          );
      places = λ i b.
          subst (λ (xs : List Report). length (told_in c.make_place.new.told.items i).reports
          + count_by (is_report_of i) xs ≤ (told_in c.make_place.new.told.items i).places) (sym (told_are c))
          (places_to_tell c.self.inside.tracker (most_of (core_state c.self.inside) c.args.g.input) c.args.g.input
          (length c.args.g.metrics) c.self.inside.told.items c.make_place.new.told.items c.make_place.ensures.reports
          c.make_place.ensures.kept c.in_ok-make_place.ensures.place c.self.invariant.places i b);
      some = (search rules);
      few = λ i b.
          few_counted (core_state c.self.inside) c.args.g c.is_some.result c.count_gathered.new.account
          c.self.invariant.core c.self.invariant.told
          (subst (λ (s : CoreState). s.tracker.started < 2 ^ 63) (sym c.self.view_is) c.in-Admitted.ensures.5)
          c.count_gathered.ensures i b;
    }

-- the numbers fit
few : (c : After-as_slice-2) → c.args.self.now.gathered + length c.args.g.metrics < 2 ^ 32
few c =
    subst (λ (xs : List Content). c.args.self.now.gathered + length xs < 2 ^ 32) c.as_slice-count.ensures
    c.in-Admitted.ensures.0

few_items : (c : After-as_slice-2)
    → c.args.self.now.taken + length c.args.self.now.raw + length c.args.g.metrics < 2 ^ 63
few_items c =
    subst (λ (xs : List Content). c.args.self.now.taken + length c.args.self.now.raw + length xs < 2 ^ 63)
    c.as_slice-count.ensures c.in-Admitted.ensures.3

room : (c : After-as_slice-2) → HasRawRoom c.args.self.now c.args.g
room c =
    subst (λ (xs : List Content). FitsRaw c.args.self.now (length xs)) c.as_slice-count.ensures
    c.in-Admitted.ensures.2

-- the groups, once one began
tracker_is : (c : After-as_slice-2) → c.start-group.new.tracker ≡ start_group c.self.inside.tracker (next_number
    (most_of (core_state c.self.inside) c.args.g.input) c.self.inside.tracker.started) c.args.g.input
    (length c.args.g.metrics)
tracker_is c =
    c.start-group.ensures.state
    ∙ ap (λ (group : Option ℕ). start_group c.self.inside.tracker group c.args.g.input
    (length c.as_slice-count.result.now)) (group_is c)
    ∙ ap (λ (xs : List Content). start_group c.self.inside.tracker (next_number
    (most_of (core_state c.self.inside) c.args.g.input) c.self.inside.tracker.started) c.args.g.input (length xs))
    c.as_slice-count.ensures

tracks : (c : After-as_slice-2) → IsTracker (start_group c.args.self.now.tracker (next_number
    (most_of c.args.self.now c.args.g.input) c.args.self.now.tracker.started) c.args.g.input (length c.args.g.metrics))
tracks c =
    subst IsTracker (tracker_is c ∙ ap (λ (s : CoreState). start_group s.tracker (next_number
    (most_of s c.args.g.input) s.tracker.started) c.args.g.input (length c.args.g.metrics)) c.self.view_is)
    c.start-group.ensures.stands

-- there are places for the reports of all live groups
places : (c : After-push_reserved) → HasPlaces c.start-group.new.tracker c.tell.new.told.items
places c =
    let at = (goal.at.invariant_of-self-2 c).After-as_slice-2 in
    subst (λ (t : TrackerState). HasPlaces t c.tell.new.told.items) (sym (tracker_is at))
    (places_told c.self.inside.tracker (most_of (core_state c.self.inside) c.args.g.input) c.args.g.input
    (length c.args.g.metrics) c.self.inside.told.items c.make_place.new.told.items c.make_place.ensures.reports
    c.make_place.ensures.kept c.in_ok-make_place.ensures.place c.self.invariant.places c.tell.new.told.items
    (c.tell.ensures.told ∙ ap (told_with (map reports_in c.make_place.new.told.items)) (told_are at))
    c.tell.ensures.places)

pub returns-clause-ok : goal.returns-clause-ok
unfolding gather_entry
returns-clause-ok c = search rules

pub returns-clause-stands : goal.returns-clause-stands
returns-clause-stands c =
    gather_stands c.args.self.now _ c.args.g (returns-clause-ok c) (subst IsCore c.self.view_is c.self.invariant.core)
    (subst GroupsAgree c.self.view_is c.self.invariant.groups) c.requires.reading c.requires.going
    (few (goal.at.returns-clause-stands c).After-as_slice-2) c.in-Admitted.ensures.1
    (room (goal.at.returns-clause-stands c).After-as_slice-2)

pub invariant_of-self-2 : goal.invariant_of-self-2
invariant_of-self-2 c =
    let at = (goal.at.invariant_of-self-2 c).After-as_slice-2 in
    record {
      core = kept_same (after_gather c.args.self.now c.args.g) _ (returns-clause-ok c)
          (core_gathered c.args.self.now c.args.g (subst IsCore c.self.view_is c.self.invariant.core) (few at)
          (few_items at));
      groups = agree_same (after_gather c.args.self.now c.args.g) _ (returns-clause-ok c)
          (agree_gathered c.args.self.now c.args.g (subst GroupsAgree c.self.view_is c.self.invariant.groups)
          c.in-Admitted.ensures.5 (tracks at));
      told = has_next c.args.self.now _ (gather_entry c.args.self.now c.args.g) (returns-clause-stands c)
          (subst HasJournal c.self.view_is c.self.invariant.told);
      spare = omega (arith, flights-le c.self.inside.outputs.items, c.in_ok-make_room_for.ensures.room);
      places = places c;
    }

use Rattle.std.proofs.Common.{◌≡◌, ◌<◌, ◌^◌, ◌++◌, ◌∷◌, [], ◌∙◌, ap, sym, List, length, map, Option, subst}
use Rattle.std.proofs.Common.{refl, arith, false, ◌+◌, ℕ, Some}
use Rattle.std.specs.Prelude.{IfSome}
use Rattle.std.specs.Vec.{vec_capacity}
use Rattle.metric.specs.declared.metric.Content.{Content}
use Rattle.account.specs.Numbers.{Numbers}
use Rattle.account.specs.declared.entry.Entry.{Entry}
use Rattle.account.specs.declared.entry.Entry.TheVariants.{Route}
use Rattle.account.specs.declared.entry.Report.{Report}
use Rattle.account.specs.declared.entry.Verdict.{Verdict}
use Rattle.agg_bank.specs.Bank.{BankStands, lines_of}
use Rattle.pipeline_core.specs.CoreState.{CoreState, GroupsAgree, IsCore}
use Rattle.pipeline_core.specs.CoreView.{core_state}
use Rattle.pipeline_core.specs.Stands.{HasJournal, IsAsBefore, Stands}
use Rattle.pipeline_core.specs.Letting.{HasCopies, LetsGo, MayTell}
use Rattle.pipeline_core.specs.Steps.{after_route, held_group, lanes_routed, marked_routed, numbers_routed}
use Rattle.pipeline_core.specs.Steps.{route_copies}
use Rattle.pipeline_core.specs.Steps.{route_entry}
use Rattle.pipeline_core.specs.Steps.{route_reports, route_tracker, told_with, with_reports}
use Rattle.pipeline_core.specs.ToldView.{reports_in}
use Rattle.pipeline_core.specs.Tracked.{copy_of, held_routed, routed_copies}
use Rattle.track_groups.specs.Settling.{Copy, after_copies}
use Rattle.track_groups.specs.Tracker.{IsLive, IsTracker, TrackerState, copies_of}
use Rattle.pipeline_core.specs.Windows.{bank_events, judged, offered_to, BankIs}
use Rattle.pipeline_core.proofs.StandsLanes.{route_line, route_stands}
use Rattle.pipeline_core.proofs.GroupsKept.{may_tell, places_gone}
use Rattle.pipeline_core.proofs.GatherKept.{HasPlaces}
use Rattle.pipeline_core.proofs.InStep.{marked_in_step, marked_within}
use Rattle.pipeline_core.proofs.JournalKept.{has_next, has_still, kept_same, known_fewer}
use Rattle.pipeline_core.proofs.LettingLemmas.{lets_all}
use Rattle.pipeline_core.proofs.RouteKept.{core_routed, front_is, hand_few, hand_lives, held_limits, held_live}
use Rattle.pipeline_core.proofs.RouteKept.{held_started}
use Rattle.pipeline_core.proofs.RouteKept.{held_places, room_for, route_has, routed_is, same_inputs}
use Rattle.pipeline_core.proofs.TellingLemmas.{length-told_with}
use Rattle.pipeline_core.proofs.Standing.{few_offers, on_err, stands_with}
use Rattle.pipeline_core.proofs.Keeping.{flights-le, has_few, kept_bank, kept_entries, length-lanes_routed}
use Rattle.pipeline_core.proofs.state.Core.route.Goals.{After-as_slice-3, After-as_slice-4, Joined-r-12}
use Rattle.pipeline_core.specs.ViewList.{listed_views}
use Rattle.pipeline_core.proofs.state.Core.route.Goals as goal

-- the group of the item in hand
group_is : (c : After-as_slice-3) → c.pop-group.result ≡ held_group (core_state c.self.inside)
group_is c =
    front_is c.self.inside.unrouted.groups c.pop-group.result c.pop-group.ensures.first

held_is : (c : After-as_slice-3) → (core_state c.self.inside).held ≡ Some c.args.r.item
held_is c = ap (λ (s : CoreState). s.held) c.self.view_is ∙ c.requires.held

-- the bank stands for the journals for which the core stands
bank_is : (c : After-as_slice-3) (journal : List Entry) → Stands c.args.self.now journal
    → BankIs c.args.self.now.setup journal c.self.inside.bank
bank_is c journal h = subst (λ (s : CoreState). BankIs c.args.self.now.setup journal s.bank) (sym c.self.view_is) h.bank

judged_so : (c : After-as_slice-3) (journal : List Entry) → Stands c.args.self.now journal
    → c.in_ok-verdict.verdict ≡ judged c.args.self.now.setup journal c.args.r.whole c.args.r.aggs
judged_so c journal h =
    c.in_ok-verdict.ensures.verdict c.args.self.now.setup journal (bank_is c journal h)
    ∙ ap (judged c.args.self.now.setup journal c.args.r.whole) c.as_slice-2.ensures

keeps : (c : After-as_slice-3) (journal : List Entry) → Stands c.args.self.now journal
    → BankStands c.args.self.now.setup.aggs c.args.self.now.setup.start
    (bank_events journal ++ offered_to c.args.r.whole c.args.r.aggs) c.judge.new.bank
keeps c journal h =
    subst (λ (aggs : List (Option Content)). BankStands c.args.self.now.setup.aggs c.args.self.now.setup.start
    (bank_events journal ++ offered_to c.args.r.whole aggs) c.judge.new.bank) c.as_slice-2.ensures
    (c.in_ok-verdict.ensures.ok c.args.self.now.setup journal (bank_is c journal h)
    (few_offers c.args.self.now journal (subst IsCore c.self.view_is c.self.invariant.core) h))

-- of the copies that are let go as many wait
has : (c : After-as_slice-3) → HasCopies (route_copies (core_state c.self.inside) c.args.r c.in_ok-verdict.verdict)
    (route_tracker (core_state c.self.inside) c.args.r c.in_ok-verdict.verdict)
has c =
    subst (λ (s : CoreState). HasCopies (route_copies s c.args.r c.in_ok-verdict.verdict)
    (route_tracker s c.args.r c.in_ok-verdict.verdict)) (sym c.self.view_is)
    (let told : HasJournal c.args.self.now = subst HasJournal c.self.view_is c.self.invariant.told in
    route_has c.args.self.now c.args.r c.in_ok-verdict.verdict (subst IsCore c.self.view_is c.self.invariant.core) told
    (route_line c.args.self.now c.args.r c.in_ok-verdict.verdict [] told.journal told.stands c.requires.held
    c.requires.aggregators c.requires.outputs c.requires.views c.requires.made (judged_so c told.journal told.stands))
    c.requires.held)

-- the copies in the words of the call
copies_are : (c : After-as_slice-3) → routed_copies c.in_ok-verdict.verdict c.as_slice-3.result.now
    c.self.inside.marked.items ++ copy_of false c.pop-group.result ≡ route_copies (core_state c.self.inside) c.args.r
    c.in_ok-verdict.verdict
copies_are c =
    ap (λ (outs : List (Option Content)). routed_copies c.in_ok-verdict.verdict outs c.self.inside.marked.items
    ++ copy_of false c.pop-group.result) c.as_slice-3.ensures
    ∙ ap (λ (group : Option ℕ). routed_copies c.in_ok-verdict.verdict c.args.r.outs c.self.inside.marked.items
    ++ copy_of false group) (group_is c)

tracker_is : (c : After-as_slice-3) → held_routed c.self.inside.tracker c.pop-group.result c.in_ok-verdict.verdict
    c.as_slice-3.result.now ≡ route_tracker (core_state c.self.inside) c.args.r c.in_ok-verdict.verdict
tracker_is c =
    ap (λ (outs : List (Option Content)). held_routed c.self.inside.tracker c.pop-group.result
    c.in_ok-verdict.verdict outs) c.as_slice-3.ensures
    ∙ ap (λ (group : Option ℕ). held_routed c.self.inside.tracker group c.in_ok-verdict.verdict c.args.r.outs)
    (group_is c)

many_outs : (c : After-as_slice-3) → length c.as_slice-3.result.now ≡ length (core_state c.self.inside).setup.outputs
many_outs c =
    ap length c.as_slice-3.ensures ∙ c.requires.outputs
    ∙ ap (λ (s : CoreState). length s.setup.outputs) (sym c.self.view_is)

pub settle_routed-requires-clause-live : goal.settle_routed-requires-clause-live
settle_routed-requires-clause-live c =
    let at = (goal.at.settle_routed-requires-clause-live c).After-as_slice-3 in
    subst (λ (group : Option ℕ). IfSome group (λ g. IsLive c.self.inside.tracker g)) (sym (group_is at))
    (hand_lives (core_state c.self.inside) c.args.r.item c.self.invariant.core c.self.invariant.told (held_is at))

pub settle_routed-requires-clause-few : goal.settle_routed-requires-clause-few
settle_routed-requires-clause-few c =
    let at = (goal.at.settle_routed-requires-clause-few c).After-as_slice-3 in
    subst (λ (group : Option ℕ). IfSome group (λ g. copies_of c.self.inside.tracker g
    + length c.as_slice-3.result.now < 2 ^ 40)) (sym (group_is at))
    (hand_few (core_state c.self.inside) c.args.r.item (length c.as_slice-3.result.now) c.self.invariant.core
    c.self.invariant.told (held_is at) (omega (arith, many_outs at, c.self.invariant.core.outputs.few)))

pub settle_routed-requires-clause-pushed : goal.settle_routed-requires-clause-pushed
settle_routed-requires-clause-pushed c o b =
    omega (
      arith,
      (marked_in_step (core_state c.self.inside) c.self.invariant.told o b).pushed,
      (has_few (core_state c.self.inside) c.self.invariant.core o
          (omega (
            arith,
            marked_within (core_state c.self.inside) c.self.invariant.told o b,
            c.self.invariant.core.outputs.lane_count,
          ))).pushed,
    )

pub settle_routed-requires-clause-copies : goal.settle_routed-requires-clause-copies
settle_routed-requires-clause-copies c =
    let at = (goal.at.settle_routed-requires-clause-copies c).After-as_slice-3 in
    rw (copies_are at, tracker_is at) (has at)

pub settle_routed-requires-clause-room : goal.settle_routed-requires-clause-room
settle_routed-requires-clause-room c =
    let at = (goal.at.settle_routed-requires-clause-room c).After-as_slice-3 in (
      c.in_ok-reports.ensures.none,
      rw (copies_are at) (room_for (core_state c.self.inside) c.args.r c.in_ok-verdict.verdict
          (vec_capacity c.in_ok-reports.reports) (has at) c.in_ok-reports.ensures.room),
    )

-- what settling the copies makes
settled : (c : After-as_slice-4) → (c.settle_routed.new.tracker ≡ after_copies (route_tracker
    (core_state c.self.inside) c.args.r c.in_ok-verdict.verdict) (route_copies (core_state c.self.inside) c.args.r
    c.in_ok-verdict.verdict)) × (c.settle_routed.new.reports.items ≡ route_reports (core_state c.self.inside) c.args.r
    c.in_ok-verdict.verdict)
settled c =
    let at = (goal.at.tell-requires c).After-as_slice-3 in
    let tracker : TrackerState = route_tracker (core_state c.self.inside) c.args.r c.in_ok-verdict.verdict in
    let gone : List Copy = route_copies (core_state c.self.inside) c.args.r c.in_ok-verdict.verdict in
    lets_all gone tracker c.settle_routed.new.tracker c.in_ok-reports.reports.items c.settle_routed.new.reports.items
    (subst IsTracker (tracker_is at) c.settle_routed.ensures.held) c.in_ok-reports.ensures.none
    (subst (λ (xs : List Copy). LetsGo xs tracker c.in_ok-reports.reports.items c.settle_routed.new.tracker
    c.settle_routed.new.reports.items) (copies_are at)
    (subst (λ (t : TrackerState). LetsGo (routed_copies c.in_ok-verdict.verdict c.as_slice-3.result.now
    c.self.inside.marked.items ++ copy_of false c.pop-group.result) t c.in_ok-reports.reports.items
    c.settle_routed.new.tracker c.settle_routed.new.reports.items) (tracker_is at) c.settle_routed.ensures.settled))

told_are : (c : After-as_slice-4) → c.as_slice-4.result.now ≡ route_reports (core_state c.self.inside) c.args.r
    c.in_ok-verdict.verdict
told_are c = c.as_slice-4.ensures.value ∙ (settled c).1

tracks : (c : After-as_slice-4) → IsTracker (route_tracker (core_state c.self.inside) c.args.r c.in_ok-verdict.verdict)
tracks c =
    subst IsTracker (tracker_is (goal.at.tell-requires c).After-as_slice-3) c.settle_routed.ensures.held

-- what is counted
numbers : (c : After-as_slice-4) → c.hand_out.new.account ≡ numbers_routed c.in_ok-verdict.verdict c.args.r.outs
    c.self.inside.outputs.items c.self.inside.account
numbers c =
    c.hand_out.ensures.account
    ∙ ap (λ (xs : List (Option Content)). numbers_routed c.in_ok-verdict.verdict xs c.self.inside.outputs.items
    c.self.inside.account) (c.in_ok-views.ensures ∙ c.as_slice.ensures)

inputs : (c : After-as_slice-4) → c.hand_out.new.account.inputs ≡ c.self.inside.account.inputs
inputs c =
    ap (λ (n : Numbers). n.inputs) (numbers c)
    ∙ same_inputs c.in_ok-verdict.verdict c.args.r.outs c.self.inside.outputs.items c.self.inside.account

tells : (c : After-as_slice-4) → MayTell c.hand_out.new.account c.self.inside.told.items c.as_slice-4.result.now
tells c =
    may_tell (core_state c.self.inside) c.self.invariant.core c.self.invariant.groups c.self.invariant.told
    (route_tracker (core_state c.self.inside) c.args.r c.in_ok-verdict.verdict)
    (route_copies (core_state c.self.inside) c.args.r c.in_ok-verdict.verdict) (tracks c)
    (held_limits c.in_ok-verdict.verdict c.self.inside.tracker (held_group (core_state c.self.inside)) c.args.r.outs)
    (held_live c.in_ok-verdict.verdict c.self.inside.tracker (held_group (core_state c.self.inside)) c.args.r.outs)
    c.hand_out.new.account (inputs c) c.self.inside.told.items refl c.as_slice-4.result.now (told_are c)
    c.self.invariant.places

pub tell-requires : goal.tell-requires
tell-requires c = tells c

pub returns-clause-ok : goal.returns-clause-ok
returns-clause-ok c =
    let at = (goal.at.returns-clause-ok c).After-as_slice-4 in
    let before = (goal.at.returns-clause-ok c).After-as_slice-3 in
    let verdict : Verdict = c.in_ok-verdict.verdict in
    routed_is (core_state c.self.inside) c.args.r verdict c.judge.new.bank c.pop-group.new.self.made
    c.pop-group.new.self.groups c.settle_routed.new.tracker c.hand_out.new.outputs.items
    c.settle_routed.new.marked.items (map reports_in c.tell.new.told.items) c.tell.new.account c.hand_out.new.account
    c.settle_routed.new.reports.items c.push_reserved.new.self.items c.pop-group.ensures.made c.pop-group.ensures.groups
    (settled at).0
    (c.hand_out.ensures.lanes ∙ ap (λ (xs : List (Option Content)). lanes_routed c.args.r.item verdict xs
    c.self.inside.outputs.items) (c.in_ok-views.ensures ∙ c.as_slice.ensures))
    (c.settle_routed.ensures.marked
    ∙ ap (λ (outs : List (Option Content)). marked_routed c.pop-group.result verdict outs c.self.inside.marked.items)
    c.as_slice-3.ensures
    ∙ ap (λ (group : Option ℕ). marked_routed group verdict c.args.r.outs c.self.inside.marked.items) (group_is before))
    (settled at).1
    (c.tell.ensures.told ∙ ap (told_with (core_state c.self.inside).told) c.as_slice-4.ensures.value) (numbers at)
    (c.tell.ensures.account ∙ ap (with_reports c.hand_out.new.account) c.as_slice-4.ensures.value)
    (c.push_reserved.ensures.items
    ∙ ap (λ (stored : List Entry). stored ++ Route c.args.r.item c.args.r.whole verdict c.args.r.aggs c.args.r.outs
    c.listed.result ∷ []) c.in_ok-make_room.ensures.items
    ∙ ap (λ (r : List Report). c.self.inside.stored.items ++ Route c.args.r.item c.args.r.whole verdict c.args.r.aggs
    c.args.r.outs r ∷ []) c.listed.ensures)
    ∙ ap (λ (s : CoreState). after_route s c.args.r verdict c.judge.new.bank) c.self.view_is

pub returns-clause-verdict : goal.returns-clause-verdict
returns-clause-verdict c = judged_so (goal.at.returns-clause-verdict c).After-as_slice-3

pub returns-clause-stands : goal.returns-clause-stands
returns-clause-stands c =
    let at = (goal.at.returns-clause-stands c).After-as_slice-3 in
    route_stands c.args.self.now _ c.args.r c.in_ok-verdict.verdict (returns-clause-ok c)
    (subst IsCore c.self.view_is c.self.invariant.core) (subst GroupsAgree c.self.view_is c.self.invariant.groups)
    c.requires.held c.requires.aggregators c.requires.outputs c.requires.views c.requires.made (judged_so at) (keeps at)

pub invariant_of-self-3 : goal.invariant_of-self-3
invariant_of-self-3 c =
    let at = (goal.at.invariant_of-self-3 c).After-as_slice-4 in
    let state : CoreState = core_state c.self.inside in
    let verdict : Verdict = c.in_ok-verdict.verdict in
    record {
      core = kept_same (after_route c.args.self.now c.args.r verdict c.judge.new.bank) _ (returns-clause-ok c)
          (core_routed c.args.self.now c.args.r verdict c.judge.new.bank
          (subst IsCore c.self.view_is c.self.invariant.core) c.requires.held
          (c.judge.ensures.lines ∙ ap (λ (s : CoreState). lines_of s.bank) c.self.view_is));
      groups = record {
        known = ap length c.pop-group.ensures.groups
            ∙ known_fewer c.self.inside.unrouted.groups c.self.inside.unrouted.made c.self.invariant.groups.known
            ∙ sym (ap length c.pop-group.ensures.made);
        tracks = c.settle_routed.ensures.stands;
        limits = ap (λ (t : TrackerState). t.limits) (settled at).0
            ∙ held_limits verdict c.self.inside.tracker (held_group state) c.args.r.outs
            ∙ c.self.invariant.groups.limits;
        few = omega (
          arith,
          ap (λ (t : TrackerState). t.started) (settled at).0,
          held_started verdict c.self.inside.tracker (held_group state) c.args.r.outs,
          c.self.invariant.groups.few,
        );
        told_count = ap length c.tell.ensures.told ∙ length-told_with state.told c.as_slice-4.result.now
            ∙ c.self.invariant.groups.told_count;
      };
      told = has_next c.args.self.now _ (route_entry c.args.self.now c.args.r verdict) (returns-clause-stands c)
          (subst HasJournal c.self.view_is c.self.invariant.told);
      spare = omega (
        arith,
        flights-le c.hand_out.new.outputs.items,
        ap length (c.hand_out.ensures.lanes),
        length-lanes_routed c.args.r.item verdict (listed_views c.in_ok-views.views) c.self.inside.outputs.items,
        c.in_ok-make_room.ensures.room,
      );
      places = subst (λ (t : TrackerState). HasPlaces t c.tell.new.told.items) (sym (settled at).0)
          (places_gone (route_tracker state c.args.r verdict) (route_copies state c.args.r verdict)
          c.self.inside.told.items c.tell.new.told.items (tracks at)
          (held_places verdict c.self.inside.tracker (held_group state) c.args.r.outs c.self.inside.told.items
          c.self.invariant.places)
          (c.tell.ensures.told ∙ ap (told_with state.told) (told_are at)) c.tell.ensures.places);
    }

-- where the aggregators took no memory all else is as before
as_before : (c : Joined-r-12) → IsAsBefore c.args.self.now
    (record (core_state c.self.inside) { bank = c.judge.new.bank; stored = c.make_room.new.stored.items })
as_before c =
    let same : record (core_state c.self.inside) { bank = c.judge.new.bank; stored = c.make_room.new.stored.items }
    ≡ record c.args.self.now { bank = c.judge.new.bank } =
    ap (λ (xs : List Entry). record (core_state c.self.inside) { bank = c.judge.new.bank; stored = xs })
    c.in_ok-make_room.ensures.items
    ∙ ap (λ (s : CoreState). record s { bank = c.judge.new.bank }) c.self.view_is in
    record {
      same = same;
      stands = λ journal h. subst (λ (n : CoreState). Stands n journal) (sym same)
          (stands_with c.args.self.now c.judge.new.bank journal h
          (c.in_err-verdict.ensures.err c.args.self.now.setup journal
          (subst (λ (s : CoreState). BankIs c.args.self.now.setup journal s.bank) (sym c.self.view_is) h.bank)));
    }

pub invariant_of-self-in_err-verdict : goal.invariant_of-self-in_err-verdict
invariant_of-self-in_err-verdict c =
    let groups = c.self.invariant.groups in
    record {
      core = kept_entries (record (core_state c.self.inside) { bank = c.judge.new.bank }) c.make_room.new.stored.items
          _ _ (kept_bank (core_state c.self.inside) c.judge.new.bank c.judge.ensures.lines c.self.invariant.core);
      groups = record {
        known = groups.known;
        tracks = groups.tracks;
        limits = groups.limits;
        few = groups.few;
        told_count = groups.told_count;
      };
      told = has_still c.args.self.now _ (as_before c).stands (subst HasJournal c.self.view_is c.self.invariant.told);
      spare = omega (
        arith,
        c.self.invariant.spare,
        c.in_ok-make_room.ensures.len,
        c.in_ok-make_room.ensures.kept,
      );
      places = c.self.invariant.places;
    }

pub returns-in_err-verdict-clause-err : goal.returns-in_err-verdict-clause-err
returns-in_err-verdict-clause-err c = on_err _ _ (as_before (goal.at.returns-in_err-verdict-clause-err c).Joined-r-12)

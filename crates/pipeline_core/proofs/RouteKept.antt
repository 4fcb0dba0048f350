-- What a core keeps of groups as the item in hand is routed.
use Rattle.std.proofs.Common.{◌≡◌, ◌<◌, ◌≤◌, ◌^◌, ◌*◌, ℕ, ◌+◌, Bool, true, false, cond, List, [], ◌∷◌, ◌++◌, length}
use Rattle.std.proofs.Common.{refl, sym, ap, ◌∙◌, subst, inl, inr, arith, drop, length-append, if◌then◌else◌, is_some}
use Rattle.std.proofs.Common.{get_or}
use Rattle.std.proofs.Math.Nat.{mul-le-mul_right}
use Rattle.std.proofs.lemmas.Bool.{cases_lt}
use Rattle.std.proofs.lemmas.Option.{get_or_from_slice_get}
use Rattle.std.specs.Prelude.{IfSome, find, slice_get}
use Rattle.std.specs.Option.{option_to_list, option_map_or}
use Rattle.std.specs.List.{count_by}
use Rattle.std.specs.declared.option.Option.{Option}
use Rattle.std.specs.declared.option.Option.TheVariants.{Some, None}
use Rattle.metric.specs.declared.metric.Content.{Content}
use Rattle.account.specs.Numbers.{Numbers}
use Rattle.account.specs.Origins.{groups, origin_at}
use Rattle.account.specs.declared.entry.Entry.{Entry}
use Rattle.account.specs.declared.entry.Entry.TheVariants.{Route}
use Rattle.account.specs.declared.entry.Report.{Report}
use Rattle.account.specs.declared.entry.Verdict.{Verdict}
use Rattle.account.specs.declared.entry.Verdict.TheVariants as verdicts
use Rattle.agg_bank.specs.Bank.{BankMemory, lines_of}
use Rattle.out_lane.specs.Lane.{LaneState, pushed_out}
use Rattle.track_groups.specs.Settling.{Copy, after_copies, is_copy_of}
use Rattle.track_groups.specs.Tracker.{IsLive, TrackerState, changed, copies_of, has_number, held, is_of}
use Rattle.track_groups.specs.Tracker.{live_of}
use Rattle.track_groups.specs.declared.group.LiveGroup.{LiveGroup}
use Rattle.pipeline_core.specs.declared.output.Offer.{Offer}
use Rattle.pipeline_core.specs.declared.routing.Routed.{Routed}
use Rattle.pipeline_core.specs.Legal.{MeetsLine, gathered_count}
use Rattle.pipeline_core.specs.Letting.{HasCopies}
use Rattle.pipeline_core.specs.Tracked.{copies_in, copy_of, gone_for, held_routed, pushed_copies, routed_copies}
use Rattle.pipeline_core.specs.CoreState.{CoreState, IsCore}
use Rattle.pipeline_core.specs.Stands.{HasJournal}
use Rattle.pipeline_core.specs.Steps.{after_route, held_group, lanes_routed, marked_routed, numbers_routed}
use Rattle.pipeline_core.specs.Steps.{route_copies}
use Rattle.pipeline_core.specs.Steps.{route_entry, route_reports, route_tracker, told_with, with_reports}
use Rattle.pipeline_core.specs.ToldView.{ToldState}
use Rattle.pipeline_core.proofs.GatherKept.{HasPlaces}
use Rattle.pipeline_core.proofs.CopyBounds.{few_copies, no_copies}
use Rattle.pipeline_core.proofs.CopyCounts.{count-cons}
use Rattle.pipeline_core.proofs.CopyGroups.{hand_copies, hand_live}
use Rattle.pipeline_core.proofs.CopySums.{comers}
use Rattle.pipeline_core.proofs.GroupStanding.{hand_group, held_so, route_lets, shown_group}
use Rattle.pipeline_core.proofs.GroupsKept.{has_gone}
use Rattle.pipeline_core.proofs.Keeping.{kept_groups, kept_reported, kept_route, same_number}
use Rattle.pipeline_core.proofs.TrackerLemmas.{copies_in_tracker, live_in_tracker}

-- what a queue gives first
pub front_is : (xs : List (Option ℕ)) (r : Option ℕ) → slice_get xs 0 ≡ Some r → r ≡ get_or xs 0 None
front_is xs r is = sym (get_or_from_slice_get xs 0 r None is)

-- of the copies that the item in hand lets go as many wait
pub route_has : (s : CoreState) (r : Routed) (verdict : Verdict) → IsCore s → (told : HasJournal s) →
    MeetsLine s.setup told.journal (Route r.item r.whole verdict r.aggs r.outs []) → s.held ≡ Some r.item →
    HasCopies (route_copies s r verdict) (route_tracker s r verdict)
route_has s r verdict core told line held =
    subst (HasCopies (route_copies s r verdict)) (held_so verdict s.tracker (held_group s) r.outs)
    (has_gone s told (Route r.item r.whole verdict r.aggs r.outs []) (shown_group verdict (held_group s))
    (comers verdict r.outs) (route_copies s r verdict)
    (route_lets s told.journal r.item r.whole verdict r.aggs r.outs [] core told.stands line held))

-- the group of the item in hand
module _ (s : CoreState) (item : ℕ) (core : IsCore s) (told : HasJournal s) (held : s.held ≡ Some item) (g : ℕ)
    (own : held_group s ≡ Some g) where
  own_group : (origin_at told.journal item).group ≡ Some g
  own_group = sym (hand_group s told.journal item told.stands held) ∙ own

  begun : g < groups told.journal
  begun =
      let some = hand_copies s.setup told.journal item g told.stands.legal (sym told.stands.held ∙ held) own_group in
      elim (cases_lt g (groups told.journal)) [
        | inl l ↦ l
        | inr l ↦ absurd (omega (arith, some, no_copies s.setup told.journal g told.stands.legal l))
      ]

  own_live : IsLive s.tracker g
  own_live =
      subst (λ (t : TrackerState). IsLive t g) (sym told.stands.tracker)
      ((live_in_tracker s.setup told.journal g).1 (
        begun,
        hand_live s.setup told.journal item g told.stands.legal
            (sym told.stands.held ∙ held) own_group,
      ))

  own_few : copies_of s.tracker g + 16 < 2 ^ 40
  own_few =
      let most = few_copies s.setup told.journal g told.stands.legal in
      let is = copies_in_tracker s.setup told.journal g begun in
      let same = ap (λ (t : TrackerState). copies_of t g) told.stands.tracker in
      let few : (1 + length s.setup.outputs) * gathered_count told.journal ≤ 17 * gathered_count told.journal =
      mul-le-mul_right (gathered_count told.journal) (omega (arith, core.outputs.few)) in
      omega (arith, most, is, same, few, told.stands.gathered, core.items.few_gathered)

pub hand_lives : (s : CoreState) (item : ℕ) → IsCore s → HasJournal s → s.held ≡ Some item →
    IfSome (held_group s) (λ g. IsLive s.tracker g)
hand_lives s item core told held = go (held_group s) refl
  where
    go : (o : Option ℕ) → held_group s ≡ o → IfSome o (λ g. IsLive s.tracker g)
    go None e = tt
    go (Some g) e = own_live s item core told held g e

pub hand_few : (s : CoreState) (item n : ℕ) → IsCore s → HasJournal s → s.held ≡ Some item → n ≤ 16 →
    IfSome (held_group s) (λ g. copies_of s.tracker g + n < 2 ^ 40)
hand_few s item n core told held few = go (held_group s) refl
  where
    go : (o : Option ℕ) → held_group s ≡ o → IfSome o (λ g. copies_of s.tracker g + n < 2 ^ 40)
    go None e = tt
    go (Some g) e = omega (arith, few, own_few s item core told held g e)

-- where no group is live no copy is let go
pub none_goes : (xs : List Copy) (t : TrackerState) → t.live ≡ [] → HasCopies xs t → xs ≡ []
none_goes [] t idle has = refl
none_goes (x ∷ xs) t idle has =
    let none : copies_of t x.group ≡ 0 =
    ap (λ (live : List LiveGroup). option_map_or (λ (group : LiveGroup). group.copies)
    (find (has_number x.group) live) 0) idle in
    let one : cond {A = ℕ} (is_copy_of x.group x) 1 0 ≡ 1 = ap (λ (b : Bool). cond {A = ℕ} b 1 0)
    (same_number x.group) in
    absurd (omega (arith, has x.group, count-cons (is_copy_of x.group) x xs, none, one))

-- holding changes no numbers of groups
held_idle : (verdict : Verdict) (t : TrackerState) (grp : Option ℕ) (outs : List (Option Content)) → t.live ≡ [] →
    (held_routed t grp verdict outs).live ≡ []
held_idle verdicts.Passes t None outs idle = idle
held_idle verdicts.Passes t (Some g) outs idle = ap (changed g (held (count_by is_some outs))) idle
held_idle verdicts.Consumed t grp outs idle = idle
held_idle verdicts.Late t grp outs idle = idle
held_idle verdicts.Removed t grp outs idle = idle

pub held_limits : (verdict : Verdict) (t : TrackerState) (grp : Option ℕ) (outs : List (Option Content)) →
    (held_routed t grp verdict outs).limits ≡ t.limits
held_limits verdicts.Passes t None outs = refl
held_limits verdicts.Passes t (Some g) outs = refl
held_limits verdicts.Consumed t grp outs = refl
held_limits verdicts.Late t grp outs = refl
held_limits verdicts.Removed t grp outs = refl

pub held_started : (verdict : Verdict) (t : TrackerState) (grp : Option ℕ) (outs : List (Option Content)) →
    (held_routed t grp verdict outs).started ≡ t.started
held_started verdicts.Passes t None outs = refl
held_started verdicts.Passes t (Some g) outs = refl
held_started verdicts.Consumed t grp outs = refl
held_started verdicts.Late t grp outs = refl
held_started verdicts.Removed t grp outs = refl

held_of : (g n i : ℕ) (live : List LiveGroup) → count_by (is_of i) (changed g (held n) live) ≡ count_by (is_of i) live
held_of g n i [] = refl
held_of g n i (x ∷ live) =
    let same : is_of i (if has_number g x then held n x else x) ≡ is_of i x =
    elim (has_number g x) as (λ b. is_of i (if b then held n x else x) ≡ is_of i x) [ true ↦ refl | false ↦ refl ] in
    let one : cond {A = ℕ} (is_of i (if has_number g x then held n x else x)) 1 0 ≡ cond {A = ℕ} (is_of i x) 1 0 =
    ap (λ (b : Bool). cond {A = ℕ} b 1 0) same in
    omega (
      arith,
      held_of g n i live,
      count-cons (is_of i) (if has_number g x then held n x else x) (changed g (held n) live),
      count-cons (is_of i) x live,
      one,
    )

pub held_live : (verdict : Verdict) (t : TrackerState) (grp : Option ℕ) (outs : List (Option Content)) (i : ℕ) →
    live_of (held_routed t grp verdict outs) i ≡ live_of t i
held_live verdicts.Passes t None outs i = refl
held_live verdicts.Passes t (Some g) outs i = held_of g (count_by is_some outs) i t.live
held_live verdicts.Consumed t grp outs i = refl
held_live verdicts.Late t grp outs i = refl
held_live verdicts.Removed t grp outs i = refl

-- no more copies are let go than there are outputs, and one
gone_few : (view : Option Content) (x : LaneState (Option ℕ)) → length (gone_for view x) ≤ 1
gone_few None x = omega arith
gone_few (Some view) x = go (pushed_out x)
  where
    go : (o : Option (Option ℕ)) → length (copies_in true (option_to_list o)) ≤ 1
    go None = omega arith
    go (Some None) = omega arith
    go (Some (Some g)) = omega arith

pushed_few : (outs : List (Option Content)) (all : List (LaneState (Option ℕ))) →
    length (pushed_copies outs all) ≤ length all
unfolding pushed_copies
pushed_few [] all = omega arith
pushed_few (view ∷ outs) [] = omega arith
pushed_few (view ∷ outs) (x ∷ all) =
    omega (arith, length-append (gone_for view x) (pushed_copies outs all), gone_few view x, pushed_few outs all)

routed_few : (verdict : Verdict) (outs : List (Option Content)) (all : List (LaneState (Option ℕ))) →
    length (routed_copies verdict outs all) ≤ length all
routed_few verdicts.Passes outs all = pushed_few outs all
routed_few verdicts.Consumed outs all = omega arith
routed_few verdicts.Late outs all = omega arith
routed_few verdicts.Removed outs all = omega arith

copy_few : (grp : Option ℕ) → length (copy_of false grp) ≤ 1
copy_few None = omega arith
copy_few (Some g) = omega arith

-- so there is room for their reports
pub room_for : (s : CoreState) (r : Routed) (verdict : Verdict) (room : ℕ) →
    HasCopies (route_copies s r verdict) (route_tracker s r verdict) →
    (0 < length s.tracker.live → length s.marked + 1 ≤ room) → length (route_copies s r verdict) ≤ room
room_for s r verdict room has enough = go s.tracker.live refl
  where
    go : (live : List LiveGroup) → s.tracker.live ≡ live → length (route_copies s r verdict) ≤ room
    go [] idle = omega (
      arith,
      ap length (none_goes (route_copies s r verdict) (route_tracker s r verdict)
          (held_idle verdict s.tracker (held_group s) r.outs idle) has),
    )
    go (x ∷ live) e = omega (
      arith,
      length-append (routed_copies verdict r.outs s.marked) (copy_of false (held_group s)),
      routed_few verdict r.outs s.marked,
      copy_few (held_group s),
      enough (omega (arith, ap length e)),
    )

-- what a routed item leaves
pub routed_is : (s : CoreState) (r : Routed) (verdict : Verdict) (bank : BankMemory) (made : List Bool)
    (groups : List (Option ℕ)) (tracker : TrackerState) (lanes : List (LaneState Offer))
    (marked : List (LaneState (Option ℕ))) (told : List (List Report)) (n m : Numbers) (reports : List Report)
    (stored : List Entry) → made ≡ drop 1 s.made → groups ≡ drop 1 s.groups →
    tracker ≡ after_copies (route_tracker s r verdict) (route_copies s r verdict) →
    lanes ≡ lanes_routed r.item verdict r.outs s.lanes → marked ≡ marked_routed (held_group s) verdict r.outs s.marked →
    reports ≡ route_reports s r verdict → told ≡ told_with s.told reports →
    m ≡ numbers_routed verdict r.outs s.lanes s.numbers → n ≡ with_reports m reports →
    stored ≡ s.stored ++ Route r.item r.whole verdict r.aggs r.outs reports ∷ [] →
    record s {
      held = None;
      made = made;
      groups = groups;
      tracker = tracker;
      bank = bank;
      lanes = lanes;
      marked = marked;
      told = told;
      numbers = n;
      stored = stored;
    } ≡ after_route s r verdict bank
unfolding route_entry
routed_is s r verdict bank made groups tracker lanes marked told n m reports stored a b c d e f g h i j =
    rw (a, b, c, d, e, g, i, h, j, f) refl

-- and agrees with what it keeps
pub core_routed : (s : CoreState) (r : Routed) (verdict : Verdict) (bank : BankMemory) → IsCore s →
    s.held ≡ Some r.item → lines_of bank ≡ lines_of s.bank → IsCore (after_route s r verdict bank)
core_routed s r verdict bank core held same =
    let reports : List Report = route_reports s r verdict in
    let stored : List Entry = s.stored ++ route_entry s r verdict ∷ [] in
    let left : CoreState = record s {
      held = None;
      made = drop 1 s.made;
      bank = bank;
      lanes = lanes_routed r.item verdict r.outs s.lanes;
      numbers = numbers_routed verdict r.outs s.lanes s.numbers;
      stored = stored;
    } in
    kept_groups (record left { numbers = with_reports left.numbers reports }) (drop 1 s.groups)
    (after_copies (route_tracker s r verdict) (route_copies s r verdict))
    (marked_routed (held_group s) verdict r.outs s.marked) (told_with s.told reports)
    (kept_reported left reports
    (kept_route s verdict r.outs r.item bank (lanes_routed r.item verdict r.outs s.lanes) left.numbers stored held same
    refl refl core))

-- the numbers of inputs stay
pub same_inputs : (verdict : Verdict) (outs : List (Option Content)) (lanes : List (LaneState Offer)) (n : Numbers) →
    (numbers_routed verdict outs lanes n).inputs ≡ n.inputs
same_inputs verdicts.Passes outs lanes n = refl
same_inputs verdicts.Consumed outs lanes n = refl
same_inputs verdicts.Late outs lanes n = refl
same_inputs verdicts.Removed outs lanes n = refl

-- and so do the places for reports
pub held_places : (verdict : Verdict) (t : TrackerState) (grp : Option ℕ) (outs : List (Option Content))
    (told : List ToldState) → HasPlaces t told → HasPlaces (held_routed t grp verdict outs) told
held_places verdict t grp outs told h i b = omega (arith, h i b, held_live verdict t grp outs i)

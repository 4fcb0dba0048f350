-- A core that stands for a journal stands for it with the Gather more.
use Rattle.std.proofs.Common.{◌≡◌, ◌<◌, ◌≤◌, ◌⊎◌, ℕ, ◌+◌, ◌==◌, Bool, false, List, [], ◌∷◌, ◌++◌, length}
use Rattle.std.proofs.Common.{refl, sym, ap, ◌∙◌, subst, inl, inr, arith, get_or, set, is_some}
use Rattle.std.proofs.Common.{if◌then◌else◌}
use Rattle.std.proofs.Math.Bool.{or-false}
use Rattle.std.proofs.lemmas.Bool.{cases_eq}
use Rattle.std.proofs.lemmas.Option.{slice_get-get_or, slice_get_within}
use Rattle.std.proofs.lemmas.List.{get_or-set_same, get_or-set_other, length-set}
use Rattle.std.specs.Prelude.{IfSome, slice_get}
use Rattle.std.specs.Option.{option_to_list}
use Rattle.std.specs.declared.option.Option.{Option}
use Rattle.std.specs.declared.option.Option.TheVariants.{Some, None}
use Rattle.metric.specs.declared.metric.Content.{Content}
use Rattle.account.specs.Says.{GatherSays}
use Rattle.account.specs.Origins.{group_inputs, groups}
use Rattle.account.proofs.OriginLemmas.{group_inputs-push}
use Rattle.account.specs.Numbers.{Numbers, gathered_more, input_numbers, unread_input, with_input}
use Rattle.account.specs.declared.numbers.InputNumbers.{InputNumbers}
use Rattle.account.specs.declared.entry.Entry.{Entry}
use Rattle.account.specs.declared.entry.Entry.TheVariants.{Gather}
use Rattle.account.specs.declared.entry.Report.{Report}
use Rattle.track_groups.specs.Tracker.{TrackerState, after_start, live_of, start_report}
use Rattle.pipeline_core.specs.Fates.{is_dropped}
use Rattle.pipeline_core.specs.Groups.{copies, count_of_fate, live_count, next_group, reports_at}
use Rattle.pipeline_core.specs.Legal.{MeetsLine, has_ended}
use Rattle.pipeline_core.specs.Totals.{gathered_with, gathers_too, group_count, said_with, totals}
use Rattle.pipeline_core.specs.Tracked.{tracker_after}
use Rattle.pipeline_core.specs.CoreState.{CoreState, GroupsAgree, IsCore}
use Rattle.pipeline_core.specs.Stands.{Continues, Stands}
use Rattle.pipeline_core.specs.Steps.{HasGroup, HasNumbers, HasRawRoom, after_gather, entry_of, gather_entry}
use Rattle.pipeline_core.specs.Steps.{gather_reports, gathered_too, group_for, most_of, next_number, said_of}
use Rattle.pipeline_core.specs.Steps.{reports_started, start_group}
use Rattle.pipeline_core.specs.declared.gathering.Gathered.{Gathered}
use Rattle.pipeline_core.proofs.CopyBounds.{no_copies, no_fates}
use Rattle.pipeline_core.proofs.CopyGroups.{gather_copies}
use Rattle.pipeline_core.proofs.CopySums.{plain_all}
use Rattle.pipeline_core.proofs.GroupStanding.{Lets, begins_none, stays_silent, stays_tracker}
use Rattle.pipeline_core.proofs.Keeping.{differs, full, same_number}
use Rattle.pipeline_core.proofs.ReportTotals.{numbers_told}
use Rattle.pipeline_core.proofs.Standing.{stands_grows, ended_stays, bank_stays, outputs_stand}
use Rattle.pipeline_core.proofs.StandsSteps.{by_step, groups_of, marks_of, outputs_stay, placed_raw, some_same}
use Rattle.pipeline_core.proofs.TellingLemmas.{told_with-at}
use Rattle.pipeline_core.proofs.TrackerLemmas.{live_of_tracker, reports_start, tracker_starts}

-- how many groups were started
started_is : (s : CoreState) (journal : List Entry) → Stands s journal → s.tracker.started ≡ groups journal
unfolding tracker_after
started_is s journal h = ap (λ (t : TrackerState). t.started) h.tracker

-- the next group of an input
next_is : (most : Option ℕ) (n : ℕ) (es : List Entry) → n ≡ groups es → next_number most n ≡ next_group most es
next_is None n es e = refl
next_is (Some m) n es e = ap Some e

counted_group : (most : Option ℕ) (n : ℕ) → (if is_some most then 1 else 0) ≡ group_count (next_number most n)
counted_group None n = refl
counted_group (Some m) n = refl

module _ (s : CoreState) (g : Gathered) (agree : GroupsAgree s) (journal : List Entry) (h : Stands s journal) where
  -- a group begins, where the input is tracked, and may settle
  starts : (most : Option ℕ) (reports : List Report) →
      MeetsLine s.setup journal (entry_of g (next_number most s.tracker.started) reports) →
      (start_group s.tracker (next_number most s.tracker.started) g.input (length g.metrics) ≡ tracker_after s.setup
      (journal ++ entry_of g (next_number most s.tracker.started) reports ∷ []))
      × (reports_started s.tracker (next_number most s.tracker.started) g.input (length g.metrics) ≡ reports_at s.setup
      journal (entry_of g (next_number most s.tracker.started) reports))
  starts None reports line =
      let e : Entry = entry_of g None reports in
      let lets : Lets s.setup journal e None 0 [] = record {
        same = begins_none journal e refl;
        counts = λ n. omega (
          arith,
          gather_copies s.setup journal g.input g.moment g.pieces g.refused g.passed g.filtered g.metrics None reports n
              h.legal line,
        );
        dropped = λ n. omega (arith, plain_all s.setup is_dropped journal e n h.legal line tt);
        known = λ n is. inr refl;
      } in
      (stays_tracker s journal e agree h lets, stays_silent s journal e agree h lets)
  starts (Some m) reports line =
      let n : ℕ = s.tracker.started in
      let next : n ≡ groups journal = started_is s journal h in
      let e : Entry = entry_of g (Some n) reports in
      let held : (k : ℕ) → copies s.setup (journal ++ e ∷ []) k ≡ copies s.setup journal k
      + (if n == k then length g.metrics else 0) =
      λ k. gather_copies s.setup journal g.input g.moment g.pieces g.refused g.passed g.filtered g.metrics (Some n)
      reports k h.legal line in
      let counts : (k : ℕ) → k < groups journal → copies s.setup (journal ++ e ∷ []) k ≡ copies s.setup journal k =
      λ k b. held k ∙ ap (λ (t : Bool). copies s.setup journal k + (if t then length g.metrics else 0))
      (differs n k (λ same. absurd (omega (arith, b, next, same))))
      ∙ (let none : copies s.setup journal k + 0 ≡ copies s.setup journal k = omega arith in none) in
      let marks : (k : ℕ) → k < groups journal → count_of_fate is_dropped s.setup (journal ++ e ∷ []) k
      ≡ count_of_fate is_dropped s.setup journal k =
      λ k b. plain_all s.setup is_dropped journal e k h.legal line tt in
      let here : copies s.setup (journal ++ e ∷ []) (groups journal) ≡ length g.metrics =
      held (groups journal)
      ∙ ap (λ (t : Bool). copies s.setup journal (groups journal) + (if t then length g.metrics else 0))
      (full n (groups journal) next)
      ∙ (let none : copies s.setup journal (groups journal) ≡ 0 = no_copies s.setup journal (groups journal) h.legal
      (omega arith) in
      let all : copies s.setup journal (groups journal) + length g.metrics ≡ length g.metrics = omega arith in
      all) in
      let unmarked : count_of_fate is_dropped s.setup (journal ++ e ∷ []) (groups journal) ≡ 0 =
      plain_all s.setup is_dropped journal e (groups journal) h.legal line tt
      ∙ no_fates s.setup is_dropped journal (groups journal) h.legal (omega arith) in
      let begins : group_inputs (journal ++ e ∷ []) ≡ group_inputs journal ++ g.input ∷ [] =
      group_inputs-push journal e in (
        ap (λ (t : TrackerState). after_start t g.input (length g.metrics)) h.tracker
            ∙ sym (tracker_starts s.setup journal e g.input (length g.metrics) begins counts marks here unmarked),
        ap (λ (t : TrackerState). option_to_list (start_report t g.input (length g.metrics))) h.tracker
            ∙ sym (reports_start s.setup journal e g.input (length g.metrics) begins counts marks here unmarked),
      )

  -- the numbers of the inputs
  numbers_said : (most : Option ℕ) (group : Option ℕ) (reports : List Report) (k : ℕ) →
      length s.numbers.inputs ≡ length s.setup.inputs → (if is_some most then 1 else 0) ≡ group_count group →
      g.input < length s.setup.inputs → k < length s.setup.inputs →
      get_or (set s.numbers.inputs g.input (gathered_too (input_numbers s.numbers g.input) g (is_some most))) k
      (unread_input false) ≡ said_with k (get_or (totals s.setup journal).inputs k (unread_input false))
      (entry_of g group reports)
  numbers_said most group reports k many one n b =
      let says : GatherSays = said_of g group reports in
      let old : (j : ℕ) → input_numbers s.numbers j ≡ get_or (totals s.setup journal).inputs j (unread_input false) =
      λ j. ap (λ (m : Numbers). input_numbers m j) h.numbers in
      let more : (x : InputNumbers) → gathered_too x g (is_some most) ≡ gathers_too x says =
      λ x. ap (λ (i : ℕ). record (gathered_more x g.pieces g.refused g.passed g.filtered (length g.metrics))
      { undelivered = x.undelivered + i }) one in
      elim (cases_eq g.input k) [
        | inl e ↦ subst (λ (j : ℕ). get_or (set s.numbers.inputs g.input (gathered_too (input_numbers s.numbers g.input)
            g (is_some most))) j (unread_input false) ≡ gathered_with j (get_or (totals s.setup journal).inputs j
            (unread_input false)) (Some says)) e
            (get_or-set_same s.numbers.inputs g.input _ (unread_input false) (omega (arith, n, many))
            ∙ more (input_numbers s.numbers g.input)
            ∙ ap (λ (x : InputNumbers). gathers_too x says) (old g.input)
            ∙ ap (λ (t : Bool). if t then gathers_too (get_or (totals s.setup journal).inputs g.input
            (unread_input false)) says else (get_or (totals s.setup journal).inputs g.input (unread_input false)))
            (sym (same_number g.input)))
        | inr d ↦ get_or-set_other s.numbers.inputs g.input k _ (unread_input false) (λ e. d (sym e)) ∙ old k
            ∙ ap (λ (t : Bool). if t then gathers_too (get_or (totals s.setup journal).inputs k
            (unread_input false)) says else (get_or (totals s.setup journal).inputs k (unread_input false)))
            (sym (differs g.input k d))
      ]

pub gather_stands : (s n : CoreState) (g : Gathered) → n ≡ after_gather s g → IsCore s → GroupsAgree s →
    slice_get s.ended g.input ≡ Some false → s.stopped ≡ false → HasNumbers s g → HasGroup s g.input →
    HasRawRoom s g → Continues s n (gather_entry s g)
unfolding gather_entry
gather_stands s n g q core agree reading going few has place =
    by_step s n (after_gather s g) (gather_entry s g) q (λ journal h.
    let group : Option ℕ = group_for s g.input in
    let reports : List Report = gather_reports s g in
    let e : Entry = entry_of g group reports in
    let n : g.input < length s.setup.inputs = omega (
      arith,
      slice_get_within s.ended g.input false reading,
      h.ended_count,
    ) in
    let live : live_of s.tracker g.input ≡ live_count s.setup journal g.input =
    ap (λ (t : TrackerState). live_of t g.input) h.tracker ∙ live_of_tracker s.setup journal g.input in
    let line : MeetsLine s.setup journal e = record {
      most = most_of s g.input;
      known = slice_get-get_or s.setup.inputs g.input None n;
      going = sym h.stopped ∙ going;
      reading = some_same (has_ended g.input journal) false (sym (h.ended g.input n) ∙ reading);
      fits = omega (arith, h.gathered, few);
      room = subst (λ (xs : List Content). (xs ≡ []) ⊎ (length xs + length g.metrics ≤ 10000)) h.raw
          (placed_raw s.raw (length g.metrics) place);
      few = subst (λ (k : ℕ). IfSome (most_of s g.input) (λ most. k < most)) live has;
      group = next_is (most_of s g.input) s.tracker.started journal (started_is s journal h);
    } in
    let more : Numbers = with_input s.numbers g.input
    (gathered_too (input_numbers s.numbers g.input) g (is_some (most_of s g.input))) in
    stands_grows s (after_gather s g) journal e h
    (record {
      meets = record { line = line; reports = (starts s g agree journal h (most_of s g.input) reports line).1 };
      items = record {
        raw_is = refl;
        taken_is = omega arith;
        made_is = ap (λ (marks : List Bool). s.made ++ marks) (marks_of (length g.metrics)
            (record { input = Some g.input; group = group }));
        groups_are = ap (λ (groups : List (Option ℕ)). s.groups ++ groups) (groups_of (length g.metrics)
            (record { input = Some g.input; group = group }));
      };
      held = refl;
      tracker = (starts s g agree journal h (most_of s g.input) reports line).0;
      bank = bank_stays s journal h;
      outputs = outputs_stand s journal e h line tt;
      told = λ i b. told_with-at s.told reports i (omega (arith, b, agree.told_count));
      numbers = numbers_told s.setup journal e s.numbers more reports h.numbers refl
          (length-set s.numbers.inputs g.input _ ∙ core.inputs.number_count)
          (λ k b. numbers_said s g agree journal h (most_of s g.input) group reports k core.inputs.number_count
          (counted_group (most_of s g.input) s.tracker.started) n b)
          (omega arith) (omega arith) (omega arith)
          (ap (λ (m : Numbers). m.outputs) h.numbers
          ∙ sym (outputs_stay s.setup journal e (λ o. refl) (λ o. refl) (λ o t. refl)));
      stored = refl;
      inputs = record {
        gathered_is = refl;
        counted_is = refl;
        each_ended = ended_stays s journal h;
        ended_count = refl;
        stopped_is = sym (or-false s.stopped);
      };
    }))

-- What a core keeps as metrics are gathered: a place for the report of their group.
use Rattle.std.proofs.Common.{◌≡◌, ◌<◌, ◌≤◌, ◌^◌, ℕ, ◌+◌, ◌==◌, Bool, true, false, cond, List, [], ◌∷◌, ◌++◌, length}
use Rattle.std.proofs.Common.{map, refl, sym, ap, ◌∙◌, subst, inl, inr, arith, get_or, is_some, length-append}
use Rattle.std.proofs.Common.{replicate}
use Rattle.std.proofs.Common.{if◌then◌else◌}
use Rattle.std.proofs.lemmas.Bool.{cases_eq}
use Rattle.std.proofs.lemmas.List.{get_or-map, get_or-set_other, get_or-set_same, length-map, length-set}
use Rattle.std.proofs.lemmas.List.Sums.{length-filter}
use Rattle.std.specs.Prelude.{IfSome, slice_index}
use Rattle.std.specs.List.{count_by, filter}
use Rattle.std.specs.Option.{option_to_list}
use Rattle.std.specs.declared.option.Option.{Option}
use Rattle.std.specs.declared.option.Option.TheVariants.{Some, None}
use Rattle.account.specs.Numbers.{Numbers, input_numbers, unread_input, with_input}
use Rattle.account.specs.declared.numbers.InputNumbers.{InputNumbers}
use Rattle.account.specs.declared.entry.Report.{Report}
use Rattle.track_groups.specs.Settling.{is_report_of}
use Rattle.track_groups.specs.Tracker.{IsTracker, TrackerState, is_of, live_of, new_group}
use Rattle.track_groups.specs.declared.group.LiveGroup.{LiveGroup}
use Rattle.pipeline_core.specs.Tracked.{most_live, tracker_after}
use Rattle.pipeline_core.specs.CoreState.{CoreState, GroupsAgree, IsCore}
use Rattle.pipeline_core.specs.Stands.{HasJournal}
use Rattle.pipeline_core.specs.Steps.{HasGroup, after_gather, gather_entry, gather_reports, gathered_too}
use Rattle.pipeline_core.specs.Steps.{most_of, next_number, reports_started, start_group}
use Rattle.pipeline_core.specs.Steps.{told_with, with_reports}
use Rattle.pipeline_core.specs.ToldView.{ToldState, no_reports, reports_in}
use Rattle.pipeline_core.specs.declared.gathering.Gathered.{Gathered}
use Rattle.pipeline_core.proofs.CopyCounts.{count-append, count-cons}
use Rattle.pipeline_core.proofs.GroupSteps.{core_has_sizes}
use Rattle.pipeline_core.proofs.GroupTotals.{few_totals}
use Rattle.pipeline_core.proofs.Keeping.{differs, kept_entries, kept_gather, kept_groups, kept_inputs, kept_reported}
use Rattle.pipeline_core.proofs.Keeping.{same_number}
use Rattle.pipeline_core.proofs.JournalKept.{known_more}
use Rattle.pipeline_core.specs.Letting.{groups_in, told_in}
use Rattle.pipeline_core.proofs.TellingLemmas.{length-told_with, told_with-at}

-- one where an input is tracked
abbrev pub one_of : Option ℕ → ℕ
one_of None = 0
one_of (Some most) = 1

one_counts : (b : Bool) (r : Report) (x : LiveGroup) (live : List LiveGroup) (i : ℕ) (own : Bool) →
    is_report_of i r ≡ own → is_of i x ≡ own →
    count_by (is_report_of i) (option_to_list (if b then Some r else None)) + count_by (is_of i)
    (if b then live else live ++ x ∷ []) ≡ count_by (is_of i) live + cond own 1 0
one_counts true r x live i own told is =
    let one : cond {A = ℕ} (is_report_of i r) 1 0 ≡ cond {A = ℕ} own 1 0 = ap (λ (b : Bool). cond {A = ℕ} b 1 0) told in
    omega (arith, count-cons (is_report_of i) r [])
one_counts false r x live i own told is =
    let one : cond {A = ℕ} (is_of i x) 1 0 ≡ cond {A = ℕ} own 1 0 = ap (λ (b : Bool). cond {A = ℕ} b 1 0) is in
    omega (arith, count-append (is_of i) live (x ∷ []), count-cons (is_of i) x [])

-- a group that begins is told of or is live
pub started_counts : (t : TrackerState) (most : Option ℕ) (input copies i : ℕ) →
    count_by (is_report_of i) (reports_started t (next_number most t.started) input copies)
    + live_of (start_group t (next_number most t.started) input copies) i ≡ live_of t i
    + cond (input == i) (one_of most) 0
started_counts t None input copies i =
    let none : cond {A = ℕ} (input == i) 0 0 ≡ 0 = elim (input == i) as (λ b. cond {A = ℕ} b 0 0 ≡ 0) [
      | true ↦ refl
      | false ↦ refl
    ] in
    omega arith
started_counts t (Some m) input copies i =
    one_counts (copies == 0) (record { group = t.started; input = input; delivered = true })
    (new_group t.started input copies) t.live i (input == i) refl refl

live_grows : (t : TrackerState) (most : Option ℕ) (input copies i : ℕ) →
    live_of t i ≤ live_of (start_group t (next_number most t.started) input copies) i
live_grows t None input copies i = omega arith
live_grows t (Some m) input copies i = go (copies == 0) (new_group t.started input copies)
  where
    go : (b : Bool) (x : LiveGroup) → count_by (is_of i) t.live ≤ count_by (is_of i)
        (if b then t.live else t.live ++ x ∷ [])
    go true x = omega arith
    go false x = omega (arith, count-append (is_of i) t.live (x ∷ []))

-- only the input whose group begins is told of, and once at most
pub started_few : (t : TrackerState) (most : Option ℕ) (input copies i : ℕ) →
    count_by (is_report_of i) (reports_started t (next_number most t.started) input copies)
    ≤ cond (input == i) (one_of most) 0
started_few t most input copies i = omega
    (arith, started_counts t most input copies i, live_grows t most input copies i)

one_few : (most : Option ℕ) → one_of most ≤ 1
one_few None = omega arith
one_few (Some m) = omega arith

pub started_own : (t : TrackerState) (most : Option ℕ) (input copies i : ℕ) →
    0 < count_by (is_report_of i) (reports_started t (next_number most t.started) input copies) → input ≡ i
started_own t most input copies i some = elim (cases_eq input i) [
  | inl e ↦ e
  | inr d ↦ absurd (let none : cond {A = ℕ} (input == i) (one_of most) 0 ≡ 0 =
      ap (λ (b : Bool). cond {A = ℕ} b (one_of most) 0) (differs input i d) in
      omega (arith, some, started_few t most input copies i))
]

-- there is a place for each live group's report
abbrev pub HasPlaces : TrackerState → List ToldState → Type 0
HasPlaces t told =
    (i : ℕ) → i < length told → length (told_in told i).reports + live_of t i ≤ (told_in told i).places

many_told : (old new : List ToldState) → map reports_in new ≡ map reports_in old → length new ≡ length old
many_told old new e = sym (length-map new reports_in) ∙ ap length e ∙ length-map old reports_in

same_reports : (old new : List ToldState) (i : ℕ) → map reports_in new ≡ map reports_in old → i < length old →
    (told_in new i).reports ≡ (told_in old i).reports
same_reports old new i e b =
    sym (get_or-map reports_in new i no_reports [] (omega (arith, b, many_told old new e)))
    ∙ ap (λ (xs : List (List Report)). get_or xs i []) e ∙ get_or-map reports_in old i no_reports [] b

-- so it is where there are more places
pub places_kept : (t : TrackerState) (old new : List ToldState) → map reports_in new ≡ map reports_in old →
    ((i : ℕ) → i < length old → (told_in old i).places ≤ (told_in new i).places) → HasPlaces t old → HasPlaces t new
places_kept t old new e more h i b =
    let c : i < length old = omega (arith, b, many_told old new e) in
    omega (arith, ap length (same_reports old new i e c), more i c, h i c)

module _ (t : TrackerState) (most : Option ℕ) (input copies : ℕ) (old new : List ToldState)
    (same : map reports_in new ≡ map reports_in old)
    (more : (i : ℕ) → i < length old → (told_in old i).places ≤ (told_in new i).places)
    (place : length (told_in new input).reports + (live_of t input + 1) ≤ (told_in new input).places)
    (h : HasPlaces t old) where
  -- and where one more group begins
  place_for : (i : ℕ) → i < length new →
      length (told_in new i).reports + (live_of t i + cond (input == i) (one_of most) 0) ≤ (told_in new i).places
  place_for i b = elim (cases_eq input i) [
    | inl e ↦ subst (λ (j : ℕ). length (told_in new j).reports + (live_of t j + cond (input == j) (one_of most) 0)
        ≤ (told_in new j).places) e
        (let one : cond {A = ℕ} (input == input) (one_of most) 0 ≡ one_of most =
        ap (λ (b : Bool). cond {A = ℕ} b (one_of most) 0) (same_number input) in
        omega (arith, one_few most, place))
    | inr d ↦ (let none : cond {A = ℕ} (input == i) (one_of most) 0 ≡ 0 =
        ap (λ (b : Bool). cond {A = ℕ} b (one_of most) 0) (differs input i d) in
        omega (arith, places_kept t old new same more h i b))
  ]

  pub places_to_tell : (i : ℕ) → i < length new →
      length (told_in new i).reports + count_by (is_report_of i) (reports_started t (next_number most t.started) input
      copies) ≤ (told_in new i).places
  places_to_tell i b = omega (arith, started_few t most input copies i, place_for i b)

  -- behind it
  pub places_told : (last : List ToldState) →
      map reports_in last ≡ told_with (map reports_in new) (reports_started t (next_number most t.started) input copies)
      → ((i : ℕ) → i < length new → (told_in last i).places ≡ (told_in new i).places) →
      HasPlaces (start_group t (next_number most t.started) input copies) last
  places_told last told places i b =
      let reports : List Report = reports_started t (next_number most t.started) input copies in
      let many : length last ≡ length new = sym (length-map last reports_in) ∙ ap length told
      ∙ length-told_with (map reports_in new) reports ∙ length-map new reports_in in
      let c : i < length new = omega (arith, b, many) in
      let are : (told_in last i).reports ≡ (told_in new i).reports ++ filter (is_report_of i) reports =
      sym (get_or-map reports_in last i no_reports [] b)
      ∙ ap (λ (xs : List (List Report)). get_or xs i []) told
      ∙ told_with-at (map reports_in new) reports i (omega (arith, c, length-map new reports_in))
      ∙ ap (λ (xs : List Report). xs ++ filter (is_report_of i) reports)
      (get_or-map reports_in new i no_reports [] c) in
      omega (
        arith,
        ap length are,
        length-append (told_in new i).reports (filter (is_report_of i) reports),
        length-filter (is_report_of i) reports,
        started_counts t most input copies i,
        place_for i c,
        places i c,
      )

-- no more groups of an input were counted than were started
pub few_groups : (s : CoreState) → IsCore s → HasJournal s → (i : ℕ) → i < length s.setup.inputs →
    groups_in (input_numbers s.numbers i) ≤ s.tracker.started
unfolding tracker_after
few_groups s core told i b =
    let h = told.stands in
    let few = few_totals s.setup told.journal i (core_has_sizes s core) h.legal b in
    omega (
      arith,
      few,
      ap (λ (n : Numbers). groups_in (input_numbers n i)) h.numbers,
      ap (λ (t : TrackerState). t.started) h.tracker,
    )

more_groups : (x : InputNumbers) (g : Gathered) (tracked : Bool) → groups_in
    (gathered_too x g tracked) ≤ groups_in x + 1
more_groups x g true = omega arith
more_groups x g false = omega arith

pub few_counted : (s : CoreState) (g : Gathered) (tracked : Bool) (n : Numbers) → IsCore s → HasJournal s →
    s.tracker.started < 2 ^ 63 →
    n ≡ with_input s.numbers g.input (gathered_too (input_numbers s.numbers g.input) g tracked) → (i : ℕ) →
    i < length n.inputs → groups_in (input_numbers n i) < 2 ^ 64
few_counted s g tracked n core told few is i b =
    let y : InputNumbers = gathered_too (input_numbers s.numbers g.input) g tracked in
    let many : length n.inputs ≡ length s.setup.inputs =
    ap (λ (m : Numbers). length m.inputs) is ∙ length-set s.numbers.inputs g.input y ∙ core.inputs.number_count in
    let c : i < length s.setup.inputs = omega (arith, b, many) in
    elim (cases_eq g.input i) [
      | inl e ↦ subst (λ (j : ℕ). groups_in (input_numbers n j) < 2 ^ 64) e
          (omega (
            arith,
            more_groups (input_numbers s.numbers g.input) g tracked,
            few_groups s core told g.input (omega (arith, c, e)),
            ap (λ (m : Numbers). groups_in (input_numbers m g.input)) is,
            ap groups_in (get_or-set_same s.numbers.inputs g.input y (unread_input false)
                (omega (arith, c, e, core.inputs.number_count))),
          ))
      | inr d ↦ omega (
        arith,
        few_groups s core told i c,
        ap (λ (m : Numbers). groups_in (input_numbers m i)) is,
        ap groups_in (get_or-set_other s.numbers.inputs g.input i y (unread_input false) (λ e. d (sym e))),
      )
    ]

below_limit : (most : Option ℕ) (live limit : ℕ) → limit ≡ most_live most → IfSome most (λ m. live < m) →
    IfSome most (λ m. live < limit)
below_limit None live limit e has = tt
below_limit (Some m) live limit e has = omega (arith, e, has)

-- the limit of the input whose group begins
pub limit_is : (s : CoreState) (input : ℕ) (most : Option ℕ) → GroupsAgree s → input < length s.setup.inputs →
    most ≡ most_of s input → HasGroup s input →
    IfSome most (λ m. live_of s.tracker input < slice_index s.tracker.limits input)
limit_is s input most agree b is has =
    let limit : slice_index s.tracker.limits input ≡ most_live (most_of s input) =
    ap (λ (xs : List ℕ). slice_index xs input) agree.limits ∙ get_or-map most_live s.setup.inputs input None 0 b in
    subst (λ (o : Option ℕ). IfSome o (λ m. live_of s.tracker input < slice_index s.tracker.limits input)) (sym is)
    (below_limit (most_of s input) (live_of s.tracker input) (slice_index s.tracker.limits input) limit has)

-- what a core keeps agrees once metrics were gathered
pub core_gathered : (s : CoreState) (g : Gathered) → IsCore s → s.gathered + length g.metrics < 2 ^ 32 →
    s.taken + length s.raw + length g.metrics < 2 ^ 63 → IsCore (after_gather s g)
core_gathered s g core few items =
    let group : Option ℕ = next_number (most_of s g.input) s.tracker.started in
    let y : InputNumbers = gathered_too (input_numbers s.numbers g.input) g (is_some (most_of s g.input)) in
    let reports : List Report = gather_reports s g in
    let raw : CoreState = record s {
      raw = s.raw ++ g.metrics;
      made = s.made ++ replicate (length g.metrics) false;
      gathered = s.gathered + length g.metrics;
    } in
    let counted : CoreState = record raw { numbers = with_input s.numbers g.input y } in
    let told : CoreState = record counted { numbers = with_reports (with_input s.numbers g.input y) reports } in
    kept_groups (record told { stored = s.stored ++ gather_entry s g ∷ [] })
    (s.groups ++ replicate (length g.metrics) group) (start_group s.tracker group g.input (length g.metrics)) s.marked
    (told_with s.told reports)
    (kept_entries told (s.stored ++ gather_entry s g ∷ []) s.counted s.stopped
    (kept_reported counted reports
    (kept_inputs raw (with_input s.numbers g.input y) refl (length-set s.numbers.inputs g.input y)
    (kept_gather s g.metrics core few items))))

pub limits_stay : (t : TrackerState) (most : Option ℕ) (n input copies : ℕ) →
    (start_group t (next_number most n) input copies).limits ≡ t.limits
limits_stay t None n input copies = refl
limits_stay t (Some m) n input copies = refl

started_more : (t : TrackerState) (most : Option ℕ) (n input copies : ℕ) →
    (start_group t (next_number most n) input copies).started ≤ t.started + 1
started_more t None n input copies = omega arith
started_more t (Some m) n input copies = omega arith

pub agree_gathered : (s : CoreState) (g : Gathered) → GroupsAgree s → s.tracker.started < 2 ^ 63 →
    IsTracker (start_group s.tracker (next_number (most_of s g.input) s.tracker.started) g.input (length g.metrics)) →
    GroupsAgree (after_gather s g)
agree_gathered s g agree few tracks = record {
  known = known_more s.groups s.made (length g.metrics) (next_number (most_of s g.input) s.tracker.started) false
      agree.known;
  tracks = tracks;
  limits = limits_stay s.tracker (most_of s g.input) s.tracker.started g.input (length g.metrics) ∙ agree.limits;
  few = omega (
    arith,
    started_more s.tracker (most_of s g.input) s.tracker.started g.input (length g.metrics),
    few,
  );
  told_count = length-told_with s.told (gather_reports s g) ∙ agree.told_count;
}

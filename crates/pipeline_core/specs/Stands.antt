-- When a core stands for a journal.
use Rattle.std.specs.Prelude.{◌≡◌, ◌<◌, ℕ, Bool, is_none, List, [], ◌∷◌, ◌++◌, length, map, filter, flat_map}
use Rattle.std.specs.Prelude.{slice_get, if◌then◌else◌}
use Rattle.std.specs.declared.option.Option.{Option}
use Rattle.std.specs.declared.option.Option.TheVariants.{Some}
use Rattle.account.specs.Items.{taken, raw_items, in_hand}
use Rattle.account.specs.Origins.{unrouted, Origin}
use Rattle.account.specs.Says.{reports_of}
use Rattle.account.specs.declared.entry.Entry.{Entry}
use Rattle.account.specs.declared.entry.Report.{Report}
use Rattle.out_lane.specs.LaneLaws.{IsLaneOf}
use Rattle.pipeline_core.specs.Offers.{offers, lane_events}
use Rattle.pipeline_core.specs.Legal.{IsLegal, gathered_count, counted_from, has_ended, has_stop}
use Rattle.pipeline_core.specs.Totals.{totals}
use Rattle.track_groups.specs.Settling.{is_report_of}
use Rattle.pipeline_core.specs.Tracked.{is_tracking, marks, tracker_after}
use Rattle.pipeline_core.specs.CoreState.{CoreState, lane_at, marked_at, told_at, sizes_at}
use Rattle.pipeline_core.specs.Windows.{BankIs}

-- whether an item of this origin was made
abbrev pub was_made : Origin → Bool
was_made origin = is_none origin.input

-- the group of an item of this origin
abbrev pub group_in : Origin → Option ℕ
group_in origin = origin.group

-- the reports of a journal for an input, in order
abbrev pub reports_for : ℕ → List Entry → List Report
reports_for input journal = filter (is_report_of input) (flat_map reports_of journal)

-- these reports are the last ones of a journal for an input
pub record IsTold (input : ℕ) (journal : List Entry) (reports : List Report) : Type 0 where
  pub handed_out : List Report
  pub are : reports_for input journal ≡ handed_out ++ reports

-- What a core keeps is what a legal journal says: its raw items and the one in hand, which of them were made and of
-- which group they are, which groups are live, what the aggregators keep, at each output what waits and what is in
-- flight, of which groups these are where an input is tracked, its numbers, its last reports, and its stored entries,
-- which are the journal's last ones.
pub record Stands (core : CoreState) (journal : List Entry) : Type 0 where
  pub legal : IsLegal core.setup journal
  pub raw : core.raw ≡ raw_items journal
  pub taken_is : core.taken ≡ taken journal
  pub held : core.held ≡ in_hand journal
  pub made : core.made ≡ map was_made (unrouted journal)
  pub groups : core.groups ≡ map group_in (unrouted journal)
  pub tracker : core.tracker ≡ tracker_after core.setup journal
  pub bank : BankIs core.setup journal core.bank
  pub lanes : (output : ℕ) → output < length core.setup.outputs →
      IsLaneOf (sizes_at core.setup output).0 (sizes_at core.setup output).1 (lane_events output journal)
      (offers output journal) (lane_at core.lanes output)
  pub lane_count : length core.lanes ≡ length core.setup.outputs
  pub marked : (output : ℕ) → output < length core.marked →
      IsLaneOf (sizes_at core.setup output).0 (sizes_at core.setup output).1 (lane_events output journal)
      (marks output journal) (marked_at core.marked output)
  pub mark_count : length core.marked ≡ (if is_tracking core.setup then length core.setup.outputs else 0)
  pub told : (input : ℕ) → input < length core.setup.inputs → IsTold input journal (told_at core.told input)
  pub numbers : core.numbers ≡ totals core.setup journal
  pub front : List Entry
  pub stored : journal ≡ front ++ core.stored
  pub gathered : core.gathered ≡ gathered_count journal
  pub counted : core.counted ≡ counted_from core.setup.start journal
  pub ended : (input : ℕ) → input < length core.setup.inputs →
      slice_get core.ended input ≡ Some (has_ended input journal)
  pub ended_count : length core.ended ≡ length core.setup.inputs
  pub stopped : core.stopped ≡ has_stop journal

-- The new core stands for each journal with one entry more for which the old one stood for the journal.
abbrev pub Continues : CoreState → CoreState → Entry → Type 0
Continues old new entry = (journal : List Entry) → Stands old journal → Stands new (journal ++ entry ∷ [])

-- The core stands for some journal.
pub record HasJournal (core : CoreState) : Type 0 where
  pub journal : List Entry
  pub stands : Stands core journal

-- what the aggregators keep may have changed, and stands for the journals for which it stood; all else is as before
pub record IsAsBefore (old new : CoreState) : Type 0 where
  pub same : new ≡ record old { bank = new.bank }
  pub stands : (journal : List Entry) → Stands old journal → Stands new journal

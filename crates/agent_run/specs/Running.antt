-- What a run of a configuration touches, and what it leaves where a place isn't opened.
use Rattle.std.specs.Prelude.{◌≡◌, ◌≤◌, ◌⊎◌, ◌||◌, ℕ, Bool, List, Contains, map}
use Rattle.agent_base.specs.Places.{Place, Rest, SameAtAll}
use Rattle.agent_base.specs.Views.{WorldView, SameButAt}
use Rattle.agent_config.specs.declared.config.Config.{Config}
use Rattle.agent_base.specs.Carried.{Carried}
use Rattle.agent_workers.specs.Opened.{Carries}
use Rattle.agent_workers.specs.Run.{IsPutSo}
use Rattle.agent_workers.specs.declared.rounds.Ending.{Ending}
use Rattle.agent_run.specs.ClockLists.{clock_count}
use Rattle.agent_run.specs.Headline.{report_change, status_of}
use Rattle.agent_run.specs.PlaceLists.{in_places, out_places, places_out}
use Rattle.agent_run.specs.Places.{AreOpensSame, IsUnopened, ReportsLine, open_fault_line}
use Rattle.agent_run.specs.declared.status.Status.{Status}
use Rattle.agent_run.specs.declared.status.Status.TheVariants as statuses

-- what a part that is opened at a place carries, and one that was given back there carried
abbrev pub told : Place → Carried
told place = record { bytes = place.bytes; faults = place.part_faults }

abbrev pub told_at : List (List ℕ) → (List ℕ → Place) → List Carried
told_at places told_of = map (λ (place : List ℕ). told (told_of place)) places

-- one of the places of a configuration wasn't opened, which was counted, and every other place is as before; the
-- line that names it was reported
pub record IsRefusedBy (config : Config) (old new : WorldView) : Type 0 where
  pub place : List ℕ
  pub unopened : (Contains (in_places config) place × IsUnopened place old.ins new.ins × SameAtAll old.outs new.outs)
      ⊎ (Contains (out_places config) place × SameAtAll old.ins new.ins × IsUnopened place old.outs new.outs)
  pub told : ReportsLine old.report new.report (open_fault_line place)

-- no place that a configuration doesn't name changed, and no clock that it doesn't take
pub record OnlyNamed (config : Config) (old new : WorldView) : Type 0 where
  pub ins : SameButAt (in_places config) old.ins new.ins
  pub outs : SameButAt (out_places config) old.outs new.outs
  pub clocks : (who : ℕ) → clock_count config ≤ who → new.clocks who ≡ old.clocks who

-- no output place changed but those that a configuration names, no input place, and no clock
pub record OnlyWritten (config : Config) (old new : WorldView) : Type 0 where
  pub ins : SameAtAll old.ins new.ins
  pub outs : SameButAt (out_places config) old.outs new.outs
  pub clocks : SameAtAll old.clocks new.clocks

-- what the parts of a run carry at its end: its sources, and what was given back in a world of those that are written
abbrev pub left_with : Config → List Carried → WorldView → Carries
left_with config sources world = record {
  sources = sources;
  sinks = told_at (places_out config.outputs) world.outs;
  journal = told (world.outs config.agent.journal);
}

-- no count of failed opens changed
pub record IsOpenedSame (old new : WorldView) : Type 0 where
  pub ins : AreOpensSame old.ins new.ins
  pub outs : AreOpensSame old.outs new.outs

-- The account of a run that came to this end was reported, and this is the status of the end and of whether that
-- failed; or memory was short.
abbrev pub ReportsEnd : Status → Ending → Rest → Rest → Type 0
ReportsEnd status ending old new = (status ≡ statuses.OutOfMemory)
    ⊎ ((failed : Bool)
    × (status ≡ status_of ending.limit ending.read_fault (ending.journal_fault || failed) ending.left)
    × IsPutSo failed (report_change old new) ending.account.items)

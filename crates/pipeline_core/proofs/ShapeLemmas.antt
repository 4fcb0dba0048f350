-- The shape of each call's entry.
use Rattle.std.proofs.Common.{◌≡◌, ◌≢◌, ℤ, Bool, true, false, List, [], refl, ap, if◌then◌else◌}
use Rattle.std.specs.Prelude.{zip}
use Rattle.std.specs.List.{list_any}
use Rattle.std.specs.declared.option.Option.{Option}
use Rattle.std.specs.declared.option.Option.TheVariants.{Some, None}
use Rattle.metric.specs.declared.metric.Content.{Content}
use Rattle.account.specs.Setup.{Setup}
use Rattle.account.specs.declared.entry.Entry.{Entry}
use Rattle.account.specs.declared.setup.AggLine.{AggLine}
use Rattle.agg_bank.specs.Events.{BankEvent}
use Rattle.agg_bank.specs.Events as events
use Rattle.agg_bank.specs.Made.{made_at, made_from}
use Rattle.agg_bank.specs.Verdicts.{consumes, sees, verdict_on}
use Rattle.account.specs.declared.entry.Verdict.TheVariants as verdicts
use Rattle.pipeline_core.specs.Shapes.{EntriesHaveShape}
use Rattle.pipeline_core.specs.Steps.{gather_entry, route_entry, tick_entry, stop_entry, done_entry}
use Rattle.pipeline_core.specs.Steps.{done_reports, gather_reports, group_for, route_reports}
use Rattle.pipeline_core.specs.Windows.{NothingAggregates, RemovedHasNoWhole, HasNoAggs, bank_events, verdict_of}
use Rattle.pipeline_core.specs.Windows.{judged}
use Rattle.pipeline_core.specs.Windows.{made_by_stop, made_by_tick}

pub entries-have-shape : EntriesHaveShape
unfolding gather_entry route_entry tick_entry stop_entry done_entry
entries-have-shape = record {
  gathers = λ state g. (group_for state g.input, gather_reports state g, refl);
  routes = λ state r verdict. (verdict, route_reports state r verdict, refl);
  ticks = λ state moment metrics. (metrics, refl);
  stops = λ state moment metrics. (metrics, refl);
  dones = λ state output ok. (done_reports state output ok, refl);
}

-- no verdict on an item with a whole says that it was removed
offered_stays : (consumed late : Bool) → (if consumed then verdicts.Consumed else if late then verdicts.Late else
    verdicts.Passes) ≢ verdicts.Removed
offered_stays true late k = absurd (let x : verdicts.Consumed ≡ verdicts.Removed = k in cc)
offered_stays false true k = absurd (let x : verdicts.Late ≡ verdicts.Removed = k in cc)
offered_stays false false k = absurd (let x : verdicts.Passes ≡ verdicts.Removed = k in cc)

pub removed-has-no-whole : RemovedHasNoWhole
unfolding judged
removed-has-no-whole setup before None aggs = (λ k. refl, λ k. refl)
removed-has-no-whole setup before (Some whole) aggs = (
  λ k. absurd (offered_stays
      (list_any (consumes setup.start (bank_events before)) (zip setup.aggs aggs))
      (list_any sees (zip setup.aggs aggs)) k),
  λ k. absurd (let x : Some whole ≡ None = k in cc),
)

-- a verdict of no aggregator
passes : (start : ℤ) (lines : List AggLine) (events : List BankEvent) (aggs : List (Option Content)) → lines ≡ []
    → verdict_on lines start events aggs ≡ verdicts.Passes
passes start lines events aggs none = ap (λ (lines : List AggLine). verdict_on lines start events aggs) none

judged_plain : (setup : Setup) (before : List Entry) (whole : Option Content) (aggs : List (Option Content))
    → HasNoAggs setup → judged setup before whole aggs ≡ verdict_of whole
unfolding judged
judged_plain setup before None aggs none = refl
judged_plain setup before (Some whole) aggs none = passes setup.start setup.aggs (bank_events before) aggs none

pub nothing-aggregates : NothingAggregates
unfolding made_by_tick made_by_stop made_from
nothing-aggregates = record {
  verdicts = judged_plain;
  ticks = λ setup before moment none. ap (λ (lines : List AggLine). made_at lines setup.start (bank_events before)
      (events.Tick moment)) none;
  stops = λ setup before moment none. ap (λ (lines : List AggLine). made_at lines setup.start (bank_events before)
      (events.Stop moment)) none;
}

-- the verdict on an item with a whole, and on one without
pub judged_some : (setup : Setup) (before : List Entry) (whole : Option Content) (aggs : List (Option Content))
    (m : Content) → whole ≡ Some m
    → judged setup before whole aggs ≡ verdict_on setup.aggs setup.start (bank_events before) aggs
unfolding judged
judged_some setup before whole aggs m is = rw is refl

pub judged_none : (setup : Setup) (before : List Entry) (whole : Option Content) (aggs : List (Option Content))
    → whole ≡ None → judged setup before whole aggs ≡ verdicts.Removed
unfolding judged
judged_none setup before whole aggs is = rw is refl

-- The shape of each call's entry.
use Rattle.std.specs.Prelude.{◌≡◌, ℕ, ℤ, Bool, List}
use Rattle.std.specs.declared.option.Option.{Option}
use Rattle.metric.specs.declared.metric.Content.{Content}
use Rattle.account.specs.declared.entry.Entry.{Entry}
use Rattle.account.specs.declared.entry.Entry.TheVariants as entries
use Rattle.account.specs.declared.entry.Report.{Report}
use Rattle.account.specs.declared.entry.Verdict.{Verdict}
use Rattle.pipeline_core.specs.CoreState.{CoreState}
use Rattle.pipeline_core.specs.Steps.{done_entry, entry_of, gather_entry, moment_at, route_entry, stop_entry}
use Rattle.pipeline_core.specs.Steps.{tick_entry}
use Rattle.pipeline_core.specs.declared.gathering.Gathered.{Gathered}
use Rattle.pipeline_core.specs.declared.routing.Routed.{Routed}

-- the shape of entries, whatever the group, the verdict, what is made and the reports: for those who look on
abbrev pub IsGatherEntry : Gathered → Entry → Type 0
IsGatherEntry g e = (group : Option ℕ) × (reports : List Report) × (e ≡ entry_of g group reports)

abbrev pub IsRouteEntry : Routed → Entry → Type 0
IsRouteEntry r e = (verdict : Verdict) × (reports : List Report)
    × (e ≡ entries.Route r.item r.whole verdict r.aggs r.outs reports)

abbrev pub IsTickEntry : ℤ → Entry → Type 0
IsTickEntry moment e = (made : List Content) × (e ≡ entries.Tick moment made)

abbrev pub IsStopEntry : ℤ → Entry → Type 0
IsStopEntry moment e = (made : List Content) × (e ≡ entries.Stop moment made)

abbrev pub IsDoneEntry : ℕ → Bool → Entry → Type 0
IsDoneEntry output ok e = (reports : List Report) × (e ≡ entries.Done output ok reports)

-- each call's entry has its shape
pub record EntriesHaveShape : Type 0 where
  pub gathers : (state : CoreState) (g : Gathered) → IsGatherEntry g (gather_entry state g)
  pub routes : (state : CoreState) (r : Routed) (verdict : Verdict) → IsRouteEntry r (route_entry state r verdict)
  pub ticks : (state : CoreState) (moment : ℤ) (metrics : List Content) →
      IsTickEntry (moment_at state moment) (tick_entry state moment metrics)
  pub stops : (state : CoreState) (moment : ℤ) (metrics : List Content) →
      IsStopEntry (moment_at state moment) (stop_entry state moment metrics)
  pub dones : (state : CoreState) (output : ℕ) (ok : Bool) → IsDoneEntry output ok (done_entry state output ok)

-- Ticks and the stop.
use Rattle.std.specs.Prelude.{◌≡◌, ℤ, List, Bool, true, false}
use Rattle.metric.specs.declared.metric.Content.{Content}
use Rattle.account.specs.declared.entry.Entry.{Entry}
use Rattle.account.specs.declared.entry.Entry.TheVariants as entries
use Rattle.pipeline_core.specs.CoreState.{CoreState}
use Rattle.pipeline_core.specs.Stands.{Continues}
use Rattle.pipeline_core.specs.Steps.{after_stop, after_tick, stop_entry, tick_entry}

-- a tick at a moment: what its entry says the windows made, as is legal, is raw
pub record IsTickedAt (moment : ℤ) (old new : CoreState) : Type 0 where
  pub metrics : List Content
  pub after : new ≡ after_tick old moment metrics new.bank
  pub continues : Continues old new (tick_entry old moment metrics)

-- the stop at a moment
pub record IsStoppedAt (moment : ℤ) (old new : CoreState) : Type 0 where
  pub metrics : List Content
  pub after : new ≡ after_stop old moment metrics new.bank
  pub continues : Continues old new (stop_entry old moment metrics)

-- the entry of windows that close at a moment: those that are due by a tick, and all by the stop
abbrev pub closing_entry : Bool → ℤ → List Content → Entry
closing_entry false moment metrics = entries.Tick moment metrics
closing_entry true moment metrics = entries.Stop moment metrics

-- windows were closed at a moment
abbrev pub IsClosedAt : Bool → ℤ → CoreState → CoreState → Type 0
IsClosedAt false moment old new = IsTickedAt moment old new
IsClosedAt true moment old new = IsStoppedAt moment old new

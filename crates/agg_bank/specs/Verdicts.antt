-- The verdict on an item that is offered.
use Rattle.std.specs.Prelude.{◌&&◌, ℤ, Bool, false, List, Option, Some, None, is_some, zip, if◌then◌else◌}
use Rattle.std.specs.List.{list_any}
use Rattle.account.specs.declared.entry.Verdict.{Verdict}
use Rattle.account.specs.declared.entry.Verdict.TheVariants.{Passes, Consumed, Late}
use Rattle.account.specs.declared.setup.AggLine.{AggLine}
use Rattle.metric.specs.declared.metric.Content.{Content}
use Rattle.agg_bank.specs.Events.{BankEvent}
use Rattle.agg_bank.specs.Windows.{takes}

abbrev pub takes_view : AggLine → ℤ → List BankEvent → Option Content → Bool
takes_view line start events None = false
takes_view line start events (Some m) = takes line start events m

-- one that keeps what it takes from the outputs takes its view
abbrev pub consumes : ℤ → List BankEvent → AggLine × Option Content → Bool
consumes start events offer = offer.0.dropping && takes_view offer.0 start events offer.1

-- or had a view at all
abbrev pub sees : AggLine × Option Content → Bool
sees offer = offer.0.dropping && is_some offer.1

-- consumed where a dropping aggregator takes its view; late where a dropping one had a view and none of them takes its
-- own; else it passes
abbrev pub verdict_on : List AggLine → ℤ → List BankEvent → List (Option Content) → Verdict
verdict_on lines start events views =
    if list_any (consumes start events) (zip lines views) then Consumed
    else if list_any sees (zip lines views) then Late
    else Passes

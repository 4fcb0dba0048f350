-- What a bank of aggregators meets.
use Rattle.std.specs.Prelude.{ℕ, ℤ, Bool, true, false, List, [], ◌∷◌, Option, None, count_by, flat_map, is_some}
use Rattle.std.specs.Prelude.{option_and_then, slice_get}
use Rattle.std.specs.List.{list_any}
use Rattle.metric.specs.declared.metric.Content.{Content}

-- an item is offered, with what each aggregator sees of it; a tick at a moment; the stop at a moment
pub data BankEvent : Type 0 where
  Offer : List (Option Content) → BankEvent
  Tick : ℤ → BankEvent
  Stop : ℤ → BankEvent

-- the moments of the ticks, in order
abbrev pub tick_in : BankEvent → List ℤ
tick_in (Offer views) = []
tick_in (Tick moment) = moment ∷ []
tick_in (Stop moment) = []

abbrev pub ticks_of : List BankEvent → List ℤ
ticks_of events = flat_map tick_in events

abbrev pub is_stop : BankEvent → Bool
is_stop (Offer views) = false
is_stop (Tick moment) = false
is_stop (Stop moment) = true

abbrev pub has_stopped : List BankEvent → Bool
has_stopped events = list_any is_stop events

-- what an aggregator sees of an event
abbrev pub view_at : ℕ → BankEvent → Option Content
view_at aggregator (Offer views) = option_and_then (λ view. view) (slice_get views aggregator)
view_at aggregator (Tick moment) = None
view_at aggregator (Stop moment) = None

-- how many items were offered with a view at some aggregator
abbrev pub has_view : BankEvent → Bool
has_view (Offer views) = list_any is_some views
has_view (Tick moment) = false
has_view (Stop moment) = false

abbrev pub offered : List BankEvent → ℕ
offered events = count_by has_view events

-- a tick at a moment, or the stop
abbrev pub closing_event : Bool → ℤ → BankEvent
closing_event true moment = Stop moment
closing_event false moment = Tick moment

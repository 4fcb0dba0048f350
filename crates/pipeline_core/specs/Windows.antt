-- What the windows of aggregators take of a journal's items, and what they make.
use Rattle.std.specs.Prelude.{◌≡◌, ◌↔◌, ℤ, List, [], ◌∷◌, flat_map}
use Rattle.std.specs.declared.option.Option.{Option}
use Rattle.std.specs.declared.option.Option.TheVariants.{Some, None}
use Rattle.metric.specs.declared.metric.Content.{Content}
use Rattle.account.specs.Setup.{Setup}
use Rattle.account.specs.declared.entry.Entry.{Entry}
use Rattle.account.specs.declared.entry.Entry.TheVariants.{Route, Tick, Stop}
use Rattle.account.specs.declared.entry.Verdict.{Verdict}
use Rattle.account.specs.declared.entry.Verdict.TheVariants.{Passes, Removed}
use Rattle.agg_bank.specs.Bank.{BankMemory, BankStands}
use Rattle.agg_bank.specs.Events.{BankEvent}
use Rattle.agg_bank.specs.Events as events
use Rattle.agg_bank.specs.Made.{made_at}
use Rattle.agg_bank.specs.Verdicts.{verdict_on}

-- there are no aggregators
abbrev pub HasNoAggs : Setup → Type 0
HasNoAggs setup = setup.aggs ≡ []

-- an item with a whole is offered to the aggregators, with what each sees of it
abbrev pub offered_to : Option Content → List (Option Content) → List BankEvent
offered_to None aggs = []
offered_to (Some whole) aggs = events.Offer aggs ∷ []

-- what an entry is to the aggregators
abbrev pub bank_events_by : Entry → List BankEvent
bank_events_by (Route item whole verdict aggs outs reports) = offered_to whole aggs
bank_events_by (Tick moment made) = events.Tick moment ∷ []
bank_events_by (Stop moment made) = events.Stop moment ∷ []
bank_events_by _ = []

-- what the entries are to them
abbrev pub bank_events : List Entry → List BankEvent
bank_events journal = flat_map bank_events_by journal

-- a bank stands for a journal of a set-up
abbrev pub BankIs : Setup → List Entry → BankMemory → Type 0
BankIs setup journal bank = BankStands setup.aggs setup.start (bank_events journal) bank

-- the verdict on the item in hand, given its whole and what each aggregator sees of it
unfoldable pub judged : Setup → List Entry → Option Content → List (Option Content) → Verdict
judged setup before None aggs = Removed
judged setup before (Some whole) aggs = verdict_on setup.aggs setup.start (bank_events before) aggs

-- what the windows make that close at a moment
unfoldable pub made_by_tick : Setup → List Entry → ℤ → List Content
made_by_tick setup before moment = made_at setup.aggs setup.start (bank_events before) (events.Tick moment)

-- what the windows make as the run stops at a moment
unfoldable pub made_by_stop : Setup → List Entry → ℤ → List Content
made_by_stop setup before moment = made_at setup.aggs setup.start (bank_events before) (events.Stop moment)

-- an item is removed exactly where its whole is none
abbrev pub RemovedHasNoWhole : Type 0
RemovedHasNoWhole =
    (setup : Setup) (before : List Entry) (whole : Option Content) (aggs : List (Option Content)) →
    (judged setup before whole aggs ≡ Removed) ↔ (whole ≡ None)

-- the verdict on an item where there are no aggregators
abbrev pub verdict_of : Option Content → Verdict
verdict_of None = Removed
verdict_of (Some whole) = Passes

-- without aggregators an item passes unless it was removed, and nothing is made
pub record NothingAggregates : Type 0 where
  pub verdicts : (setup : Setup) (before : List Entry) (whole : Option Content) (aggs : List (Option Content)) →
      HasNoAggs setup → judged setup before whole aggs ≡ verdict_of whole
  pub ticks : (setup : Setup) (before : List Entry) (moment : ℤ) → HasNoAggs setup →
      made_by_tick setup before moment ≡ []
  pub stops : (setup : Setup) (before : List Entry) (moment : ℤ) → HasNoAggs setup →
      made_by_stop setup before moment ≡ []

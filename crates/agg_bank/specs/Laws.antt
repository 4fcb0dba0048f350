-- Lists of calls of a bank.
use Rattle.std.specs.Prelude.{◌≡◌, ◌<◌, ◌^◌, ℤ, List, [], ◌∷◌, ◌++◌, length, Option}
use Rattle.account.specs.declared.entry.Verdict.{Verdict}
use Rattle.account.specs.declared.setup.AggLine.{AggLine}
use Rattle.metric.specs.declared.metric.Content.{Content}
use Rattle.agg_bank.specs.Bank.{BankMemory, BankStands}
use Rattle.agg_bank.specs.Events.{BankEvent, offered}
use Rattle.agg_bank.specs.Events as event
use Rattle.agg_bank.specs.Made.{made_at}
use Rattle.agg_bank.specs.Verdicts.{verdict_on}

-- a call that answered Ok, with its answer
pub data BankCall : Type 0 where
  Offer : List (Option Content) → Verdict → BankCall
  Tick : ℤ → List Content → BankCall
  Stop : ℤ → List Content → BankCall

abbrev pub event_of : BankCall → BankEvent
event_of (Offer views verdict) = event.Offer views
event_of (Tick moment made) = event.Tick moment
event_of (Stop moment made) = event.Stop moment

-- the answer is the right one behind the events before it
abbrev pub IsAnswered : List AggLine → ℤ → List BankEvent → BankCall → Type 0
IsAnswered lines start before (Offer views verdict) = verdict ≡ verdict_on lines start before views
IsAnswered lines start before (Tick moment made) = made ≡ made_at lines start before (event.Tick moment)
IsAnswered lines start before (Stop moment made) = made ≡ made_at lines start before (event.Stop moment)

-- so is the answer of each call
unfoldable pub AreAnswered : List AggLine → ℤ → List BankEvent → List BankCall → Type 0
AreAnswered lines start before [] = Unit {0}
AreAnswered lines start before (call ∷ calls) =
    IsAnswered lines start before call × AreAnswered lines start (before ++ event_of call ∷ []) calls

-- an offer has a view for each line, and fewer than 2^32 items were offered with a view before it
abbrev pub IsMet : List AggLine → List BankEvent → BankCall → Type 0
IsMet lines before (Offer views verdict) = (length views ≡ length lines) × (offered before < 2 ^ 32)
IsMet lines before (Tick moment made) = Unit {0}
IsMet lines before (Stop moment made) = Unit {0}

unfoldable pub AreMet : List AggLine → List BankEvent → List BankCall → Type 0
AreMet lines before [] = Unit {0}
AreMet lines before (call ∷ calls) = IsMet lines before call × AreMet lines (before ++ event_of call ∷ []) calls

-- what the contract of a call says of the bank before it and behind it, where it answered Ok
abbrev pub Answers : BankCall → BankMemory → BankMemory → Type 0
Answers call old new =
    (lines : List AggLine) (start : ℤ) (before : List BankEvent) → BankStands lines start before old
    → IsMet lines before call
    → IsAnswered lines start before call × BankStands lines start (before ++ event_of call ∷ []) new

-- the calls go from one bank to another, each as its contract says
unfoldable pub Goes : BankMemory → List BankCall → BankMemory → Type 0
Goes old [] new = new ≡ old
Goes old (call ∷ calls) new = (mid : BankMemory) × Answers call old mid × Goes mid calls new

-- whatever list of calls comes behind a new bank
abbrev pub CallsBank : Type 0
CallsBank =
    (lines : List AggLine) (start : ℤ) (first last : BankMemory) (calls : List BankCall)
    → BankStands lines start [] first → Goes first calls last → AreMet lines [] calls
    → AreAnswered lines start [] calls

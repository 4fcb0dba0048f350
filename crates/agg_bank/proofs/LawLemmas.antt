-- Lists of calls.
use Rattle.std.proofs.Common.{◌++◌, ℤ, List, [], ◌∷◌}
use Rattle.account.specs.declared.setup.AggLine.{AggLine}
use Rattle.agg_bank.specs.Bank.{BankMemory, BankStands}
use Rattle.agg_bank.specs.Events.{BankEvent}
use Rattle.agg_bank.specs.Laws.{event_of, AreAnswered, AreMet, BankCall, CallsBank, Goes}

from : (lines : List AggLine) (start : ℤ) (before : List BankEvent) (first last : BankMemory) (calls : List BankCall)
    → BankStands lines start before first → Goes first calls last → AreMet lines before calls
    → AreAnswered lines start before calls
unfolding AreAnswered AreMet Goes
from lines start before first last [] stands goes met = tt
from lines start before first last (call ∷ calls) stands goes met =
    let answered = goes.1 lines start before stands met.0 in
    (answered.0, from lines start (before ++ event_of call ∷ []) goes.0 last calls answered.1 goes.2 met.1)

pub calls_bank : CallsBank
calls_bank = λ lines start first last calls stands goes met. from lines start [] first last calls stands goes met

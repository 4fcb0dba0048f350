-- The members of an aggregator.
use Rattle.std.specs.Prelude.{ℕ, ℤ, List, [], ◌∷◌, ◌++◌, Option, Some, None, if◌then◌else◌}
use Rattle.account.specs.declared.setup.AggLine.{AggLine}
use Rattle.account.specs.declared.setup.AggWord.{AggWord}
use Rattle.account.specs.declared.setup.AggWord.TheVariants.{MinMax, Basic, Merge, Final}
use Rattle.metric.specs.declared.metric.Content.{Content}
use Rattle.agg_keep.specs.Final.{left_of}
use Rattle.agg_keep.specs.declared.closing.Closing.{Closing}
use Rattle.agg_bank.specs.Events.{BankEvent, view_at}
use Rattle.agg_bank.specs.Windows.{closing_at, takes}

-- the members that a closing leaves: final keeps those of the series that it doesn't give, the others none
abbrev pub left_by : AggWord → Closing → List Content → List Content
left_by MinMax closing members = []
left_by (Basic sum count min max) closing members = []
left_by Merge closing members = []
left_by (Final timeout) closing members = left_of timeout closing members

-- without a closing all are left
abbrev pub left : AggWord → Option Closing → List Content → List Content
left kind None members = members
left kind (Some closing) members = left_by kind closing members

-- a view that is taken
abbrev pub taken_of : AggLine → ℤ → List BankEvent → Option Content → List Content
taken_of line start before None = []
taken_of line start before (Some m) = if takes line start before m then m ∷ [] else []

-- the members behind an event, from those before it: a closing takes off those that it gives, and a view that is taken
-- is one more
abbrev pub members_with : ℕ → AggLine → ℤ → List BankEvent → List Content → BankEvent → List Content
members_with aggregator line start before members e =
    left line.kind (closing_at line start before e) members ++ taken_of line start before (view_at aggregator e)

unfoldable pub members_from : ℕ → AggLine → ℤ → List BankEvent → List Content → List BankEvent → List Content
members_from aggregator line start before members [] = members
members_from aggregator line start before members (e ∷ es) =
    members_from aggregator line start (before ++ e ∷ []) (members_with aggregator line start before members e) es

-- the members of an aggregator: the views that were taken since the last closing, in order; of final those of each
-- series since the last closing at which it was given
abbrev pub members : ℕ → AggLine → ℤ → List BankEvent → List Content
members aggregator line start events = members_from aggregator line start [] [] events

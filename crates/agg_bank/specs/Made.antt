-- What a bank makes of its members.
use Rattle.std.specs.Prelude.{◌+◌, ℕ, ℤ, List, [], ◌∷◌, ◌++◌, Option, Some, None}
use Rattle.account.specs.declared.setup.AggLine.{AggLine}
use Rattle.account.specs.declared.setup.AggWord.{AggWord}
use Rattle.account.specs.declared.setup.AggWord.TheVariants.{MinMax, Basic, Merge, Final}
use Rattle.metric.specs.declared.metric.Content.{Content}
use Rattle.agg_keep.specs.Final.{finals_of}
use Rattle.agg_keep.specs.Merge.{merge_of}
use Rattle.agg_stats.specs.Folds.{stats_of}
use Rattle.agg_stats.specs.declared.kind.StatsKind.TheVariants as stats
use Rattle.agg_keep.specs.declared.closing.Closing.{Closing}
use Rattle.agg_bank.specs.Events.{BankEvent}
use Rattle.agg_bank.specs.Members.{members}
use Rattle.agg_bank.specs.Windows.{closing_at, time_of}

-- what a kind makes of members at a closing: minmax and basicstats at a time
abbrev pub folded : AggWord → ℤ → Closing → List Content → List Content
folded MinMax time closing members = stats_of stats.MinMax time members
folded (Basic sum count min max) time closing members = stats_of (stats.Basic sum count min max) time members
folded Merge time closing members = merge_of members
folded (Final timeout) time closing members = finals_of timeout closing members

-- nothing without a closing
abbrev pub folded_at : AggWord → ℤ → Option Closing → List Content → List Content
folded_at kind time None members = []
folded_at kind time (Some closing) members = folded kind time closing members

-- what an aggregator makes at an event, behind the events before it
abbrev pub made_by : ℕ → AggLine → ℤ → List BankEvent → BankEvent → List Content
made_by aggregator line start before e =
    folded_at line.kind (time_of line start before) (closing_at line start before e)
    (members aggregator line start before)

-- what aggregators make, from one on, in their order
unfoldable pub made_from : ℕ → List AggLine → ℤ → List BankEvent → BankEvent → List Content
made_from aggregator [] start before e = []
made_from aggregator (line ∷ lines) start before e =
    made_by aggregator line start before e ++ made_from (aggregator + 1) lines start before e

-- what all of them make
abbrev pub made_at : List AggLine → ℤ → List BankEvent → BankEvent → List Content
made_at lines start before e = made_from 0 lines start before e

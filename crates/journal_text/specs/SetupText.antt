-- The head of a journal.
use Rattle.std.specs.Prelude.{ℕ, ℤ, Bool, List, [], ◌++◌, codes, decimal, if◌then◌else◌}
use Rattle.std.specs.declared.option.Option.{Option}
use Rattle.std.specs.declared.option.Option.TheVariants.{Some, None}
use Rattle.account.specs.AccountText.{numbered}
use Rattle.std.specs.Fmt.{signed_decimal}
use Rattle.account.specs.declared.setup.AggWord.{AggWord}
use Rattle.account.specs.declared.setup.AggWord.TheVariants.{MinMax, Basic, Merge, Final}
use Rattle.account.specs.declared.setup.AggLine.{AggLine}
use Rattle.journal_text.specs.declared.setup.JournalSetup.{JournalSetup}

-- the line of an input: plain, or tracked with the most groups that may be undelivered
unfoldable pub input_line : ℕ → Option ℕ → List ℕ
input_line input None = codes "input " ++ decimal input ++ codes " plain\n"
input_line input (Some most) =
    codes "input " ++ decimal input ++ codes " tracked " ++ decimal most ++ codes "\n"

-- a letter where its statistic is set
abbrev pub letter : List ℕ → Bool → List ℕ
letter text wanted = if wanted then text else []

-- the letters of the statistics that are set: sum, count, least and greatest value
unfoldable pub letters_text : Bool → Bool → Bool → Bool → List ℕ
letters_text sum count min max =
    letter (codes "s") sum ++ letter (codes "c") count ++ letter (codes "m") min ++ letter (codes "x") max

-- the kind of an aggregator
unfoldable pub kind_text : AggWord → List ℕ
kind_text MinMax = codes "minmax"
kind_text (Basic sum count min max) = codes "basicstats:" ++ letters_text sum count min max
kind_text Merge = codes "merge"
kind_text (Final timeout) = codes "final:" ++ signed_decimal timeout

-- an aggregator's period, delay and grace, each behind a space
unfoldable pub times_text : AggLine → List ℕ
times_text line =
    (codes " " ++ signed_decimal line.period) ++ (codes " " ++ signed_decimal line.delay)
    ++ (codes " " ++ signed_decimal line.grace)

-- the line of an aggregator: its kind, its period, delay and grace, and whether it keeps or drops the metrics
-- that it takes
unfoldable pub agg_line : ℕ → AggLine → List ℕ
agg_line agg line =
    (codes "aggregator " ++ decimal agg ++ codes " ") ++ kind_text line.kind ++ times_text line
    ++ (if line.dropping then codes " drop\n" else codes " keep\n")

-- the line of an output: its batch size and its buffer limit
unfoldable pub output_line : ℕ → ℕ × ℕ → List ℕ
output_line output sizes =
    codes "output " ++ decimal output ++ codes " " ++ decimal sizes.0 ++ codes " " ++ decimal sizes.1
    ++ codes "\n"

-- the version, and the moment of the start
unfoldable pub start_lines : ℤ → List ℕ
start_lines start = codes "journal 1\nstart " ++ signed_decimal start ++ codes "\n"

-- the head: the version, the moment of the start, the inputs, the aggregators and the outputs
unfoldable pub setup_text : JournalSetup → List ℕ
setup_text s =
    start_lines s.start
    ++ numbered input_line 0 s.inputs ++ numbered agg_line 0 s.aggs ++ numbered output_line 0 s.outputs

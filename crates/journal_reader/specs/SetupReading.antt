-- The lines of the set-up, by their words.
use Rattle.std.specs.Prelude.{ℕ, ℤ, ◌==◌, Bool, true, false, List, [], ◌∷◌, codes, Option, Some, None, option_map}
use Rattle.std.specs.Prelude.{if◌then◌else◌}
use Rattle.std.specs.Fmt.{decimal}
use Rattle.std.specs.Str.{bytes_eq}
use Rattle.text_parts.specs.Bytes.{colon}
use Rattle.account.specs.declared.setup.AggWord.{AggWord}
use Rattle.account.specs.declared.setup.AggWord.TheVariants.{MinMax, Basic, Merge, Final}
use Rattle.account.specs.declared.setup.AggLine.{AggLine}
use Rattle.journal_reader.specs.Words.{◌>>=◌, where_true, Parts, taken, behind, at_end, small_number, signed_number}
use Rattle.journal_reader.specs.Words.{cut, either_of}

-- `start MOMENT`
unfoldable pub start_in : Parts → Option ℤ
start_in words = do
  words ← behind (codes "start") words
  moment ← taken signed_number words
  at_end moment.0 moment.1

-- the words behind a word and this number
unfoldable pub numbered_in : List ℕ → ℕ → Parts → Option Parts
numbered_in word index words = do
  words ← behind word words
  behind (decimal index) words

-- what a word and the words behind it say of an input: `plain`, or `tracked MAX`
unfoldable pub tracking_behind : List ℕ → Parts → Option (Option ℕ)
tracking_behind word words =
    if bytes_eq word (codes "plain") then at_end None words
    else if bytes_eq word (codes "tracked") then (do
      most ← taken small_number words
      at_end (Some most.0) most.1)
    else None

abbrev pub tracking_in : Parts → Option (Option ℕ)
tracking_in [] = None
tracking_in (word ∷ words) = tracking_behind word words

-- `input I plain` or `input I tracked MAX`, of the input of this number
unfoldable pub input_in : ℕ → Parts → Option (Option ℕ)
input_in index words = do
  words ← numbered_in (codes "input") index words
  tracking_in words

-- whether a letter stands first, and what stands behind it then
unfoldable pub letter_of : ℕ → List ℕ → Bool × List ℕ
letter_of letter [] = (false, [])
letter_of letter (b ∷ letters) = if b == letter then (true, letters) else (false, b ∷ letters)

abbrev pub is_nothing : List ℕ → Bool
is_nothing [] = true
is_nothing (b ∷ bs) = false

-- statistics by their letters: sum, count, least and greatest value, in this order
unfoldable pub statistics_of : List ℕ → Option AggWord
statistics_of letters =
    let sum = letter_of 115 letters in
    let count = letter_of 99 sum.1 in
    let min = letter_of 109 count.1 in
    let max = letter_of 120 min.1 in
    where_true (is_nothing max.1) (Some (Basic sum.0 count.0 min.0 max.0))

-- a kind with something behind its colon
unfoldable pub kind_behind : List ℕ → List ℕ → Option AggWord
kind_behind kind rest =
    if bytes_eq kind (codes "basicstats") then statistics_of rest
    else if bytes_eq kind (codes "final") then option_map Final (signed_number rest)
    else None

abbrev pub kind_cut : Option (List ℕ × List ℕ) → Option AggWord
kind_cut None = None
kind_cut (Some parts) = kind_behind parts.0 parts.1

-- the kind of an aggregator
unfoldable pub kind_of : List ℕ → Option AggWord
kind_of word =
    if bytes_eq word (codes "minmax") then Some MinMax
    else if bytes_eq word (codes "merge") then Some Merge
    else kind_cut (cut colon word)

-- `PERIOD DELAY GRACE keep` or `drop`
unfoldable pub times_in : AggWord → Parts → Option AggLine
times_in kind words = do
  period ← taken signed_number words
  delay ← taken signed_number period.1
  grace ← taken signed_number delay.1
  dropping ← taken (either_of (codes "drop") (codes "keep")) grace.1
  at_end (record {
    kind = kind;
    period = period.0;
    delay = delay.0;
    grace = grace.0;
    dropping = dropping.0;
  }) dropping.1

-- `aggregator A KIND PERIOD DELAY GRACE keep` or `drop`, of the aggregator of this number
unfoldable pub agg_in : ℕ → Parts → Option AggLine
agg_in index words = do
  words ← numbered_in (codes "aggregator") index words
  kind ← taken kind_of words
  times_in kind.0 kind.1

-- `output O BATCH LIMIT`, of the output of this number
unfoldable pub output_in : ℕ → Parts → Option (ℕ × ℕ)
output_in index words = do
  words ← numbered_in (codes "output") index words
  batch ← taken small_number words
  limit ← taken small_number batch.1
  at_end (batch.0, limit.0) limit.1

-- Expositions whose samples out of range are passed over.
use Rattle.std.specs.Prelude.{◌≡◌, ◌+◌, ◌-◌, ◌^◌, ℕ, ℤ, not, Bool, true, false, List, length, filter, min}
use Rattle.std.specs.Prelude.{Result, Ok, Err}
use Rattle.openmetrics_text.specs.declared.exposition.Exposition.{Exposition}
use Rattle.openmetrics_text.specs.declared.fault.ExpositionKind.{ExpositionKind}
use Rattle.openmetrics_text.specs.declared.number.Number.{Number}
use Rattle.openmetrics_text.specs.declared.number.Time.{Time}
use Rattle.openmetrics_text.specs.Grammar.{WrittenLine, TypeLine, HelpLine, UnitLine, OtherLine, SampleLine}
use Rattle.openmetrics_text.specs.Grammar.{exposition_text}
use Rattle.openmetrics_text.specs.Reading.{reading}
use Rattle.openmetrics_text.specs.Sample.{number_of, time_of, number_said, is_out_of_range}

-- a number and a time were read, and one of them is out of range
abbrev pub either_out : Result Number ExpositionKind → Result Time ExpositionKind → Bool
either_out (Ok number) (Ok time) = is_out_of_range (number_said number time)
either_out (Ok number) (Err kind) = false
either_out (Err kind) time = false

-- the line is a sample whose number or whose time is out of range
abbrev pub is_beyond : WrittenLine → Bool
is_beyond (TypeLine name kind) = false
is_beyond (HelpLine name text) = false
is_beyond (UnitLine name text) = false
is_beyond (OtherLine text) = false
is_beyond (SampleLine sample) = either_out (number_of sample.number) (time_of sample.time)

-- how many lines are such samples
abbrev pub count_beyond : List WrittenLine → ℕ
count_beyond lines = length (filter is_beyond lines)

-- lines without such samples
abbrev pub within_range : List WrittenLine → List WrittenLine
within_range lines = filter (λ line. not (is_beyond line)) lines

-- what is read where a sample out of range refuses its exposition is read the same where it is passed over
abbrev pub InRangeIsSame : Type 0
InRangeIsSame = (piece : List ℕ) (moment : ℤ) (typed : Bool) (exposition : Exposition)
    → reading piece moment typed false ≡ Ok exposition
    → (reading piece moment typed true ≡ Ok exposition) × (exposition.out_of_range ≡ 0)

-- an exposition, and the same without its samples out of range, which is read whether such are passed over or
-- not: both have the same metrics, and each sample more is counted as passed over and as out of range
pub record IsPassedOver (piece : List ℕ) (moment : ℤ) (typed : Bool) (exposition : Exposition) : Type 0 where
  pub lines : List WrittenLine
  pub ended : Bool
  pub is : piece ≡ exposition_text lines ended
  pub rest : Exposition
  pub is_rest : reading (exposition_text (within_range lines) ended) moment typed false ≡ Ok rest
  pub metrics : exposition.metrics ≡ rest.metrics
  pub passed : exposition.passed ≡ min (rest.passed + count_beyond lines) (2 ^ 32 - 1)
  pub out_of_range : exposition.out_of_range ≡ min (count_beyond lines) (2 ^ 32 - 1)

-- samples out of range that are passed over are as if they weren't there, but for the counts
abbrev pub PassedOver : Type 0
PassedOver = (piece : List ℕ) (moment : ℤ) (typed : Bool) (exposition : Exposition)
    → reading piece moment typed true ≡ Ok exposition → IsPassedOver piece moment typed exposition

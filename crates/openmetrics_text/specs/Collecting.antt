-- What the lines of an exposition have said so far, as the code has it.
use Rattle.std.specs.Prelude.{◌≡◌, ◌-◌, ◌^◌, ℤ, Bool, true, List, [], min}
use Rattle.openmetrics_text.specs.declared.collected.Collected.{Collected}
use Rattle.openmetrics_text.specs.Lines.{LineSays}
use Rattle.openmetrics_text.specs.Reading.{metrics_from, passed_in, out_in}
use Rattle.openmetrics_text.specs.TypeViews.{HaveTypes}
use Rattle.openmetrics_text.specs.Types.{types_in}

-- the metrics, the counts and the types are those of these lines, read at this moment, with types or without
pub record HaveSaid (moment : ℤ) (typed : Bool) (collected : Collected) (lines : List LineSays) : Type 0 where
  pub at_moment : collected.moment ≡ moment
  pub with_types : collected.typed ≡ typed
  pub metrics : collected.metrics.items ≡ metrics_from moment typed [] lines
  pub passed : collected.passed ≡ min (passed_in lines) (2 ^ 32 - 1)
  pub out_of_range : collected.out_of_range ≡ min (out_in lines) (2 ^ 32 - 1)
  pub types : typed ≡ true → HaveTypes collected.types (types_in lines)

use Rattle.std.proofs.Common.{refl}
use Rattle.std.proofs.lemmas.Int.{to_z-of_z}
use mir.Syntax.{w64}
use Rattle.openmetrics_text.specs.Reading.{metrics_from, counted_in}
use Rattle.openmetrics_text.specs.Types.{types_in}
use Rattle.openmetrics_text.proofs.collected.Collected.new.Goals as goal

pub returns : goal.returns
unfolding metrics_from counted_in types_in
returns c = record {
  at_moment = to_z-of_z w64 c.args.moment c.ranges.moment;
  with_types = refl;
  metrics = c.new.ensures.items;
  passed = refl;
  out_of_range = refl;
  types = λ e. c.new-2.ensures;
}

use Rattle.std.proofs.Common.{take}
use Rattle.std.specs.List.{flat_map}
use Rattle.openmetrics_text.specs.Texts.{Puts}
use Rattle.openmetrics_text.specs.Writing.{points_of_field}
use Rattle.openmetrics_text.proofs.write.put_fields.Given as goal

abbrev pub invariant-loop-field : goal.invariant-loop-field
invariant-loop-field l = Puts l.fn.texts l.texts (flat_map (points_of_field l.metric) (take l.field-index l.fields))

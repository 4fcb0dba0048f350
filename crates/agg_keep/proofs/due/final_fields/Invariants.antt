use Rattle.std.proofs.Common.{◌≡◌, map, take}
use Rattle.agg_keep.specs.Final.{final_field}
use Rattle.agg_keep.proofs.due.final_fields.Given as goal

abbrev pub invariant-loop-field : goal.invariant-loop-field
invariant-loop-field l = l.given ≡ map final_field (take l.field-index l.fields)

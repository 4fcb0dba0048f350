use Rattle.std.proofs.lemmas.Int.{to_z-of_z}
use mir.Syntax.{w64}
use Rattle.std.proofs.Common.{[], ◌∷◌}
use Rattle.metric.specs.declared.value.Value.TheVariants as values
use Rattle.graphite_text.proofs.Lines.{limited_ok, limited_err}
use Rattle.graphite_text.proofs.applied.finish.Goals as goal

pub returns-in-Ok : goal.returns-in-Ok
returns-in-Ok c = λ tags key value s.
    limited_ok c.args.draft.parts.name tags key value c.args.time c.in-Ok.metric
    (rw (to_z-of_z w64 c.args.time c.ranges.time) at (c.in-Ok.ensures tags ((key, values.Fixed value) ∷ []) s))

pub returns-in-Err-TooMany : goal.returns-in-Err-TooMany
returns-in-Err-TooMany c = λ tags key value s.
    rw c.fault.ensures
    (limited_err c.args.draft.parts.name tags key value c.args.time
    (rw (to_z-of_z w64 c.args.time c.ranges.time, c.in-Err-TooMany.field-0-is) at
    (c.in-Err-TooMany.ensures tags ((key, values.Fixed value) ∷ []) s)))

use Rattle.std.proofs.lemmas.Int.{to_z-of_z}
use mir.Syntax.{w64}
use Rattle.line_proto.proofs.Lines.{limited_ok, limited_err}
use Rattle.line_proto.proofs.read.finish.Goals as goal

pub returns-in-Ok : goal.returns-in-Ok
returns-in-Ok c = λ tags fields s.
    limited_ok c.args.draft.parts.name tags fields c.args.time c.in-Ok.metric
    (rw (to_z-of_z w64 c.args.time c.ranges.time) at (c.in-Ok.ensures tags fields s))

pub returns-in-Err-TooMany : goal.returns-in-Err-TooMany
returns-in-Err-TooMany c = λ tags fields s.
    rw c.fault.ensures
    (limited_err c.args.draft.parts.name tags fields c.args.time
    (rw (to_z-of_z w64 c.args.time c.ranges.time, c.in-Err-TooMany.field-0-is) at
    (c.in-Err-TooMany.ensures tags fields s)))

use Rattle.metric.proofs.FieldLemmas.{NoneBefore}
use Rattle.metric.proofs.builder.field_at.Given as goal

-- no field before this one has the key
abbrev pub invariant-loop-at : goal.invariant-loop-at
invariant-loop-at l = NoneBefore l.fields l.key l.at

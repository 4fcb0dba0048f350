use Rattle.std.proofs.Common.{◌≡◌, ◌++◌, take}
use Rattle.std.specs.List.{flat_map}
use Rattle.std.specs.Prelude.{codes}
use Rattle.journal_text.specs.MetricText.{field_text}
use Rattle.journal_text.proofs.metrics.append_other_fields.Given as goal

abbrev pub invariant-loop-key : goal.invariant-loop-key
invariant-loop-key l =
    l.out.items ≡ l.initial.out.items ++ flat_map (λ other. codes ";" ++ field_text other) (take l.key-index l.fields)

use Rattle.std.proofs.Common.{◌≡◌, [], map}
use Rattle.openmetrics_text.specs.Labels.{has_twice, names_of}
use Rattle.openmetrics_text.specs.Views.{label_view}
use Rattle.openmetrics_text.proofs.LabelLemmas.{twice_from}
use Rattle.openmetrics_text.proofs.labels.few_have_twice.Given as goal

abbrev pub invariant-loop-i : goal.invariant-loop-i
invariant-loop-i l = twice_from (names_of (map label_view l.labels)) l.i ≡ has_twice []
    (names_of (map label_view l.labels))

use Rattle.std.proofs.Common.{◌≡◌, [], List, ℕ, map, take}
use Rattle.std.specs.BTreeMap.{get_by}
use Rattle.std.specs.Cmp.Lexicographic.{slice_cmp}
use Rattle.std.specs.List.{list_any}
use Rattle.std.specs.Option.{is_some}
use Rattle.std.specs.Ordering.{nat_cmp}
use Rattle.std.specs.Str.{bytes_eq}
use Rattle.openmetrics_text.specs.Labels.{has_twice, names_of}
use Rattle.openmetrics_text.specs.Views.{label_view}
use Rattle.openmetrics_text.proofs.LabelLemmas.{twice_from}
use Rattle.openmetrics_text.proofs.labels.many_have_twice.Given as goal

abbrev pub invariant-loop-label : goal.invariant-loop-label
invariant-loop-label l = record {
  so_far : twice_from (names_of (map label_view l.labels)) l.label-index ≡ has_twice []
      (names_of (map label_view l.labels));
  seen : (name : List ℕ) → is_some (get_by (λ key. slice_cmp nat_cmp name key.now) l.before) ≡ list_any
      (λ other. bytes_eq other name) (take l.label-index (names_of (map label_view l.labels)));
}

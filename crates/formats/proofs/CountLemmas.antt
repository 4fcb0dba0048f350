-- What is kept of metrics, one by one.
use Rattle.std.proofs.Common.{◌≡◌, ◌+◌, List, [], ◌∷◌, ◌++◌, refl, sym, ap, ◌∙◌, arith, append_assoc, append-nil}
use Rattle.std.specs.Prelude.{if◌then◌else◌}
use Rattle.std.specs.List.{filter_map}
use Rattle.std.proofs.lemmas.List.Elements.{filter_map-append}
use Rattle.std.proofs.lemmas.List.Sums.{sum_by-append}
use Rattle.metric.specs.declared.metric.Content.{Content}
use Rattle.formats.specs.declared.reading.Group.{Group}
use Rattle.formats.specs.Groups.{Counts}
use Rattle.formats.specs.Reader.{InRule, Says, keeps, kept, is_none, filtered_out}

filtered_more : (rule : InRule) (done : List Content) (metric : Content)
    → filtered_out rule (done ++ metric ∷ []) ≡ filtered_out rule done + filtered_out rule (metric ∷ [])
filtered_more rule done metric = sum_by-append (λ (m : Content). if is_none (keeps rule m) then 1 else 0) done
    (metric ∷ [])

-- one metric more
pub counts_more : (rule : InRule) (done : List Content) (metric : Content) (first old new : Group)
    → Counts rule (Says done 0) first old → Counts rule (Says (metric ∷ []) 0) old new
    → Counts rule (Says (done ++ metric ∷ []) 0) first new
counts_more rule done metric first old new h k = record {
  refused = omega (arith, h.refused, k.refused);
  passed = omega (arith, h.passed, k.passed);
  filtered = omega (arith, h.filtered, k.filtered, filtered_more rule done metric);
  metrics = k.metrics
      ∙ ap (λ (ms : List Content). ms ++ kept rule (metric ∷ [])) h.metrics
      ∙ append_assoc first.metrics.items (kept rule done) (kept rule (metric ∷ []))
      ∙ ap (λ (ms : List Content). first.metrics.items ++ ms) (sym (filter_map-append (keeps rule) done (metric ∷ [])));
}

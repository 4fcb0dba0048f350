use Rattle.std.proofs.Common.{◌≡◌, ◌<◌, ◌+◌, ◌∙◌, ◌++◌, ◌∷◌, [], List, ℕ, length, get_or, take, map, refl, sym, ap}
use Rattle.metric.specs.Draft.{Tag}
use Rattle.metric.specs.Building.{Parts}
use Rattle.metric.specs.Pairs.{in_key_order, in_key_order_on, with_sorted}
use Rattle.metric.proofs.DraftLemmas.{in_key_order_push}
use Rattle.openmetrics_text.specs.declared.labels.Label.{Label}
use Rattle.openmetrics_text.specs.Views.{label_view}
use Rattle.openmetrics_text.proofs.Placing.{put_next}
use Rattle.openmetrics_text.proofs.collected.put_labels.Goals as goal

pub loop-label-init : goal.loop-label-init
unfolding in_key_order_on
loop-label-init c = record { name = refl; tags = c.requires.none; fields = refl }

pub loop-label-preserved : goal.loop-label-preserved
loop-label-preserved c =
    let put = c.in_ok-put_label.ensures in record {
      name = ap (λ (b : Parts). b.name) put ∙ c.loop-label.invariant.name;
      tags = ap (λ (b : Parts). b.tags) put
          ∙ put_next label_view in_key_order (λ tags tag. with_sorted tags tag.0 tag.1)
          (in_key_order_push []) c.args.labels.now c.loop-label.builder.tags c.loop-label.label-index
          c.label-item.result c.loop-label-test.true c.label-item.is c.loop-label.invariant.tags;
      fields = ap (λ (b : Parts). b.fields) put ∙ c.loop-label.invariant.fields;
    }

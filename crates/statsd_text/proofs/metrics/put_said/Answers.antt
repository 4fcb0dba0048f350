use Rattle.std.proofs.Common.{◌≡◌, ◌≤◌, ◌∷◌, [], List, ℕ, length, take, take_all, refl, ap}
use Rattle.std.proofs.Common.{◌∙◌}
use Rattle.std.specs.Prelude.{codes}
use Rattle.metric.specs.Building.{Parts}
use Rattle.metric.specs.Draft.{Tag}
use Rattle.metric.specs.Pairs.{in_key_order, in_key_order_on, with_sorted, with_pair}
use Rattle.metric.specs.declared.value.Value.{Value}
use Rattle.statsd_text.specs.TagMap.{IsKeyed}
use Rattle.statsd_text.proofs.KeptTags.{put_in_order, put_one}
use Rattle.statsd_text.proofs.metrics.put_said.Goals as goal

pub loop-key-init : goal.loop-key-init
unfolding in_key_order_on
loop-key-init c = record { name = refl; tags = c.requires.tags; fields = c.requires.fields }

pub loop-key-preserved : goal.loop-key-preserved
loop-key-preserved c =
    let put = c.in_ok-tag_of.ensures.ok in
    let key = c.in_ok-copy.ensures in
    let value = c.in_ok-copy-2.ensures in
    let one = put_one c.args.tags.now c.loop-key.builder.tags c.loop-key.key-index c.loop-key-item.result
    c.loop-key-test.true c.loop-key-item.is c.loop-key.invariant.tags in
    record {
      name = ap (λ (b : Parts). b.name) put ∙ c.loop-key.invariant.name;
      tags = ap (λ (b : Parts). b.tags) put ∙ rw (key, value) one;
      fields = ap (λ (b : Parts). b.fields) put ∙ c.loop-key.invariant.fields;
    }

-- all tags of the list, and the tag and the field behind them
put_tags : (start mid end : Parts) (given : List Tag) (i : ℕ) (tag_key tag_value key : List ℕ) (value : Value)
    → length given ≤ i
    → start.tags ≡ in_key_order (take i given) → IsKeyed given
    → mid ≡ record start { tags = with_sorted start.tags tag_key tag_value }
    → end ≡ record mid { fields = with_pair mid.fields key value }
    → end.tags ≡ with_sorted given tag_key tag_value
put_tags start mid end given i tag_key tag_value key value all tagged keyed put_tag put_field =
    let whole : in_key_order (take i given) ≡ given = ap in_key_order (take_all i given all)
    ∙ put_in_order given keyed.sorted in
    ap (λ (b : Parts). b.tags) put_field ∙ ap (λ (b : Parts). b.tags) put_tag
    ∙ ap (λ (ts : List Tag). with_sorted ts tag_key tag_value) (tagged ∙ whole)

put_first : (start mid end : Parts) (tag_key tag_value key : List ℕ) (value : Value) → start.fields ≡ []
    → mid ≡ record start { tags = with_sorted start.tags tag_key tag_value }
    → end ≡ record mid { fields = with_pair mid.fields key value }
    → end.fields ≡ (key, value) ∷ []
unfolding with_pair
put_first start mid end tag_key tag_value key value none put_tag put_field =
    let fields : mid.fields ≡ [] = ap (λ (b : Parts). b.fields) put_tag ∙ none in
    ap (λ (b : Parts). b.fields) put_field ∙ rw fields refl

pub returns-clause-name : goal.returns-clause-name
returns-clause-name c =
    ap (λ (b : Parts). b.name) c.in_ok-field.ensures.ok ∙ ap (λ (b : Parts). b.name) c.in_ok-tag.ensures.ok
    ∙ c.loop-key.invariant.name

pub returns-clause-tags : goal.returns-clause-tags
returns-clause-tags c =
    put_tags c.loop-key.builder c.tag.new.self c.field.new.self c.args.tags.now c.loop-key.key-index
    (codes "metric_type") c.name.result.now c.text.result.now c.args.said.value
    c.loop-key-test.false c.loop-key.invariant.tags c.requires.keyed c.in_ok-tag.ensures.ok c.in_ok-field.ensures.ok
    ∙ ap (with_sorted c.args.tags.now (codes "metric_type")) c.name.ensures

pub returns-clause-fields : goal.returns-clause-fields
returns-clause-fields c =
    put_first c.loop-key.builder c.tag.new.self c.field.new.self
    (codes "metric_type") c.name.result.now c.text.result.now c.args.said.value
    c.loop-key.invariant.fields c.in_ok-tag.ensures.ok c.in_ok-field.ensures.ok
    ∙ ap (λ (key : List ℕ). (key, c.args.said.value) ∷ []) c.text.ensures

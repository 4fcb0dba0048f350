use Rattle.std.proofs.Common.{◌≡◌, ◌<◌, ◌∙◌, ◌++◌, ◌∷◌, [], Bool, List, ℕ, length, map, refl, sym, ap, subst, arith}
use Rattle.std.proofs.Common.{rules}
use Rattle.std.specs.Prelude.{codes, IfOk, Result}
use Rattle.std.proofs.lemmas.Int.{to_z-of_z}
use mir.Syntax.{w64}
use mir.Val.{SFits}
use Rattle.fixed_num.specs.declared.memory.OutOfMemory.{OutOfMemory}
use Rattle.metric.specs.declared.metric.Content.{Content}
use Rattle.metric.specs.Building.{Parts, IsWhole}
use Rattle.metric.specs.Draft.{Tag}
use Rattle.metric.specs.Pairs.{in_key_order, in_key_order_on, with_pair, with_values, has_empty_key}
use Rattle.metric.specs.declared.value.Value.{Value}
use Rattle.metric.specs.declared.value.Value.TheVariants.{Fixed}
use Rattle.openmetrics_text.specs.Labels.{AreNamed}
use Rattle.openmetrics_text.specs.Reading.{type_tags, content_of, or_moment}
use Rattle.openmetrics_text.specs.Views.{label_view, sample_view}
use Rattle.openmetrics_text.proofs.TagLemmas.{in_key_order_on_more, named_in_order, typed_named}
use Rattle.openmetrics_text.proofs.collected.Collected.metric_of.Goals as goal

-- what the builder has at the end
record HasAll (b : Parts) (name : List ℕ) (tags : List Tag) (value : Value) : Type 0 where
  named : b.name ≡ name
  tagged : b.tags ≡ tags
  fields : b.fields ≡ (codes "value", value) ∷ []

put_all : (start labelled typed end : Parts) (name : List ℕ) (labels type : List Tag) (value : Value)
    → start ≡ record { name = name; tags = []; fields = [] } → labelled.name ≡ start.name
    → labelled.tags ≡ in_key_order labels → labelled.fields ≡ start.fields
    → typed.name ≡ labelled.name → typed.tags ≡ in_key_order_on labelled.tags type → typed.fields ≡ labelled.fields
    → end ≡ record typed { fields = with_pair typed.fields (codes "value") value }
    → HasAll end name (in_key_order (labels ++ type)) value
unfolding with_pair
put_all start labelled typed end name labels type value begun n1 t1 f1 n2 t2 f2 put = record {
  named = ap (λ (b : Parts). b.name) put ∙ n2 ∙ n1 ∙ ap (λ (b : Parts). b.name) begun;
  tagged = ap (λ (b : Parts). b.tags) put ∙ t2 ∙ ap (λ (ts : List Tag). in_key_order_on ts type) t1
      ∙ sym (in_key_order_on_more [] labels type);
  fields = ap (λ (b : Parts). b.fields) put ∙ rw (f2, f1, begun) refl;
}

all_ready : (b : Parts) (name : List ℕ) (labels : List Tag) (typed : Bool) (kind : List ℕ) (value : Value)
    → HasAll b name (in_key_order (labels ++ type_tags typed kind)) value → 0 < length name → AreNamed labels
    → IsWhole b
all_ready b name labels typed kind value h named filled = record {
  named = subst (λ (n : List ℕ). 0 < length n) (sym h.named) named;
  tag_keys = ap has_empty_key h.tagged ∙ named_in_order (labels ++ type_tags typed kind)
      (typed_named labels typed kind filled);
  field_keys = ap has_empty_key h.fields;
  some = subst (λ (fs : List (List ℕ × Value)). 0 < length fs) (sym h.fields) (omega arith);
}

pub complete-requires : goal.complete-requires
complete-requires c =
    all_ready c.field.new.self c.args.sample.now.name.now (map label_view c.args.sample.now.labels.items)
    c.args.self.now.typed c.args.kind.now (Fixed c.args.number)
    (put_all c.in_ok-builder.builder c.put_labels.new.builder c.put_type.new.builder c.field.new.self
    c.args.sample.now.name.now (map label_view c.args.sample.now.labels.items)
    (type_tags c.args.self.now.typed c.args.kind.now) (Fixed c.args.number)
    (rw c.in_ok-name.ensures at c.in_ok-builder.ensures) c.in_ok-put_labels.ensures.name
    (rw c.as_slice.ensures.value at c.in_ok-put_labels.ensures.tags) c.in_ok-put_labels.ensures.fields
    c.in_ok-put_type.ensures.name c.in_ok-put_type.ensures.tags c.in_ok-put_type.ensures.fields
    c.in_ok-field.ensures.ok)
    c.requires.named c.requires.labels

same_ok : (r : Result Content OutOfMemory) (a b : Content) → IfOk r (λ m. m ≡ a) → a ≡ b → IfOk r (λ m. m ≡ b)
same_ok r a b h e = subst (λ (x : Content). IfOk r (λ m. m ≡ x)) e h

pub returns : goal.returns
returns c =
    let all = put_all c.in_ok-builder.builder c.put_labels.new.builder c.put_type.new.builder c.field.new.self
    c.args.sample.now.name.now (map label_view c.args.sample.now.labels.items)
    (type_tags c.args.self.now.typed c.args.kind.now) (Fixed c.args.number)
    (rw c.in_ok-name.ensures at c.in_ok-builder.ensures) c.in_ok-put_labels.ensures.name
    (rw c.as_slice.ensures.value at c.in_ok-put_labels.ensures.tags) c.in_ok-put_labels.ensures.fields
    c.in_ok-put_type.ensures.name c.in_ok-put_type.ensures.tags c.in_ok-put_type.ensures.fields
    c.in_ok-field.ensures.ok in
    let fits : SFits w64 c.or_moment.result = search rules in
    let self_fits : SFits w64 c.args.self.now.moment = search rules in
    let time : c.or_moment.result ≡ or_moment c.args.self.now.moment c.args.sample.now.time =
    rw (to_z-of_z w64 c.args.self.now.moment self_fits) at c.or_moment.ensures in
    same_ok c.complete.result (record {
      name = c.field.new.self.name;
      tags = with_values c.field.new.self.tags;
      fields = c.field.new.self.fields;
      time = c.or_moment.result;
    }) (content_of c.args.self.now.moment c.args.self.now.typed c.args.kind.now
    (sample_view c.args.sample.now) c.args.number)
    (rw (to_z-of_z w64 c.or_moment.result fits) at c.complete.ensures)
    (rw (all.named, all.tagged, all.fields, time) refl)

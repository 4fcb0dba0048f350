use Rattle.std.proofs.Common.{◌≡◌, ◌<◌, ◌∷◌, [], false, List, ℕ, Result, length, refl, sym, ap, subst, ◌∙◌, arith}
use Rattle.std.specs.Prelude.{◌==◌, codes, IfOk}
use Rattle.std.proofs.lemmas.Bool.{ne_eqb}
use Rattle.std.proofs.lemmas.Int.{to_z-of_z}
use mir.Syntax.{w64}
use Rattle.fixed_num.specs.declared.memory.OutOfMemory.{OutOfMemory}
use Rattle.metric.specs.declared.metric.Content.{Content}
use Rattle.statsd_text.specs.declared.said.FieldName.{FieldName}
use Rattle.statsd_text.specs.declared.said.FieldName.TheVariants as names
use Rattle.statsd_text.specs.Said.{field_name, type_name}
use Rattle.metric.specs.Building.{Parts, IsWhole}
use Rattle.metric.specs.Draft.{Tag}
use Rattle.metric.specs.Pairs.{with_sorted, with_values, has_empty_key}
use Rattle.metric.specs.declared.value.Value.{Value}
use Rattle.statsd_text.specs.TagMap.{IsKeyed, kept_content}
use Rattle.statsd_text.proofs.KeptTags.{keyed_more}
use Rattle.statsd_text.proofs.metrics.metric_of.Goals as goal

-- what the builder has at the end
record HasAll (b : Parts) (name : List ℕ) (tags : List Tag) (key : List ℕ) (value : Value) : Type 0 where
  named : b.name ≡ name
  tagged : b.tags ≡ tags
  fields : b.fields ≡ (key, value) ∷ []

one_key : (key : List ℕ) (value : Value) → 0 < length key → has_empty_key ((key, value) ∷ []) ≡ false
one_key key value some = let filled : (length key == 0) ≡ false = ne_eqb _ _ (λ e. absurd (omega arith)) in
    rw filled refl

all_ready : (b : Parts) (name : List ℕ) (tags : List Tag) (key : List ℕ) (value : Value) → HasAll b name tags key value
    → 0 < length name → IsKeyed tags → 0 < length key → IsWhole b
all_ready b name tags key value h named keyed some = record {
  named = subst (λ (n : List ℕ). 0 < length n) (sym h.named) named;
  tag_keys = ap has_empty_key h.tagged ∙ keyed.filled;
  field_keys = ap has_empty_key h.fields ∙ one_key key value some;
  some = subst (λ (fs : List (List ℕ × Value)). 0 < length fs) (sym h.fields) (omega arith);
}

field_filled : (field : FieldName) → 0 < length (field_name field)
field_filled names.Value = omega arith
field_filled names.Delta = omega arith
field_filled names.Member = omega arith

pub complete-requires : goal.complete-requires
complete-requires c =
    let put = c.in_ok-put_said.ensures in
    let all : HasAll c.put_said.new.builder c.args.name (with_sorted c.args.tags.now (codes "metric_type")
    (type_name c.args.said.metric_type)) (field_name c.args.said.field) c.args.said.value =
    record {
      named = put.name ∙ ap (λ (b : Parts). b.name) c.of-builder.ensures;
      tagged = put.tags;
      fields = put.fields;
    } in
    all_ready c.put_said.new.builder c.args.name (with_sorted c.args.tags.now (codes "metric_type")
    (type_name c.args.said.metric_type)) (field_name c.args.said.field) c.args.said.value all c.requires.named
    (keyed_more c.args.tags.now (codes "metric_type") (type_name c.args.said.metric_type)
    (omega arith) c.requires.keyed)
    (field_filled c.args.said.field)

same_ok : (r : Result Content OutOfMemory) (a b : Content) → IfOk r (λ m. m ≡ a) → a ≡ b → IfOk r (λ m. m ≡ b)
same_ok r a b h e = subst (λ (x : Content). IfOk r (λ m. m ≡ x)) e h

pub returns : goal.returns
returns c =
    let put = c.in_ok-put_said.ensures in
    let named : c.put_said.new.builder.name ≡ c.args.name = put.name
    ∙ ap (λ (b : Parts). b.name) c.of-builder.ensures in
    same_ok c.complete.result (record {
      name = c.put_said.new.builder.name;
      tags = with_values c.put_said.new.builder.tags;
      fields = c.put_said.new.builder.fields;
      time = c.args.moment;
    }) (kept_content c.args.name c.args.tags.now c.args.moment c.args.said)
    (rw (to_z-of_z w64 c.args.moment c.ranges.moment) at c.complete.ensures)
    (rw (named, put.tags, put.fields) refl)

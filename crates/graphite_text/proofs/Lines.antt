-- A whole line.
use Rattle.std.proofs.Common.{◌≡◌, ℕ, ℤ, ◌<◌, Bool, true, false, cond, ltb, List, [], ◌∷◌, length, Result, Ok, Err}
use Rattle.std.proofs.Common.{Option, refl, sym, ap, subst, ◌∙◌, ◌++◌, arith, None}
use Rattle.std.specs.Prelude.{◌||◌, Some, option_map}
use Rattle.metric.specs.declared.metric.Content.{Content}
use Rattle.metric.specs.declared.value.Value.TheVariants as values
use Rattle.metric.specs.declared.draft.DraftFault.{DraftFault}
use Rattle.metric.specs.declared.draft.DraftFault.TheVariants as drafts
use Rattle.metric.specs.Pairs.{with_pair, in_key_order, in_first_order, in_first_order_on}
use Rattle.metric.specs.Draft.{Tag, Field, Drafted, StandsFor, IsReady, drafted, has_too_many}
use Rattle.graphite_text.specs.declared.fault.GraphiteFault.{GraphiteFault}
use Rattle.graphite_text.specs.declared.fault.GraphiteKind.TheVariants.{TooMany}
use Rattle.format_words.specs.declared.template.TemplatePart.{TemplatePart}
use Rattle.format_words.specs.Segments.{segments_of, pairs_of}
use Rattle.graphite_text.specs.Path.{Path, path_of}
use Rattle.graphite_text.specs.Applied.{name_of, key_of, collected_tags}
use Rattle.graphite_text.specs.Reading.{Said, content_of, limited, said_of}
use Rattle.std.specs.Borrow.{Bor}
use Rattle.text_parts.specs.Split.{first_part}

-- ---- finishing

one_field : (key : List ℕ) (value : ℤ) → in_first_order ((key, values.Fixed value) ∷ []) ≡ (key, values.Fixed value) ∷
    []
unfolding in_first_order_on with_pair
one_field key value = refl

or_none : (b : Bool) → (b || false) ≡ b
or_none true = refl
or_none false = refl

-- a metric of one field has too many parts exactly where it has too many tags
few_fields : (tags : List Tag) (key : List ℕ) (value : ℤ) → has_too_many tags ((key, values.Fixed value) ∷ []) ≡ ltb 64
    (length (in_key_order tags))
few_fields tags key value = rw (one_field key value) (or_none (ltb 64 (length (in_key_order tags))))

said_as : List ℕ → List Tag → List ℕ → ℤ → ℤ → Said
said_as name tags key value time = record { name = name; tags = tags; key = key; value = value; time = time }

metric_of : Result Content DraftFault → Content → Content
metric_of (Ok metric) other = metric
metric_of (Err f) other = other

pub limited_ok : (name : List ℕ) (tags : List Tag) (key : List ℕ) (value time : ℤ) (metric : Content)
    → drafted name tags ((key, values.Fixed value) ∷ []) time ≡ Ok metric
    → limited (record { name = name; tags = tags; key = key; value = value; time = time }) ≡ Ok (Some metric)
unfolding metric_of
limited_ok name tags key value time metric e =
    let content : Content = content_of (record { name = name; tags = tags; key = key; value = value; time = time }) in
    elim (ltb 64 (length (in_key_order tags))) as (λ t. cond {A = Result Content DraftFault} t (Err drafts.TooMany)
    (Ok content) ≡ Ok metric
    → cond {A = Result (Option Content) GraphiteFault} t (Err (record { kind = TooMany; offset = 0 }))
    (Ok (Some content)) ≡ Ok (Some metric)) [
      | true ↦ λ is. absurd cc
      | false ↦ λ is. ap (λ (r : Result Content DraftFault). Ok (Some (metric_of r metric))) is
    ] (rw (few_fields tags key value, one_field key value) at e)

pub limited_err : (name : List ℕ) (tags : List Tag) (key : List ℕ) (value time : ℤ)
    → drafted name tags ((key, values.Fixed value) ∷ []) time ≡ Err drafts.TooMany
    → limited (record { name = name; tags = tags; key = key; value = value; time = time }) ≡ Err
    (record { kind = TooMany; offset = 0 })
limited_err name tags key value time e =
    let content : Content = content_of (record { name = name; tags = tags; key = key; value = value; time = time }) in
    elim (ltb 64 (length (in_key_order tags))) as (λ t. cond {A = Result Content DraftFault} t (Err drafts.TooMany)
    (Ok content) ≡ Err drafts.TooMany
    → cond {A = Result (Option Content) GraphiteFault} t (Err (record { kind = TooMany; offset = 0 }))
    (Ok (Some content)) ≡ Err (record { kind = TooMany; offset = 0 })) [
      | true ↦ λ is. refl
      | false ↦ λ is. absurd cc
    ] (rw (few_fields tags key value, one_field key value) at e)

-- ---- the chain of readings

pub path_is : (text : List ℕ) (bucket : Bor (List ℕ)) (rest : Option (Bor (List ℕ))) (segments : List (List ℕ))
    (tags : List Tag) → (bucket.now, option_map (λ t. t.now) rest) ≡ first_part 59 text
    → segments_of bucket.now ≡ Ok segments → pairs_of 59 (option_map (λ t. t.now) rest) ≡ Ok tags
    → path_of text ≡ Ok (record { segments = segments; tags = tags })
unfolding path_of
path_is text bucket rest segments tags cut s t = rw (← cut, s, t) refl

pub same_said : (separator : List ℕ) (all : List TemplatePart) (own : List Tag) (path : Path) (value time : ℤ)
    (name key : List ℕ) (tags : List Tag)
    → name ≡ name_of separator all path.segments → key ≡ key_of separator all path.segments
    → tags ≡ (own ++ collected_tags separator all path.segments) ++ path.tags
    → limited (record { name = name; tags = tags; key = key; value = value; time = time })
    ≡ limited (said_of separator (record { filter = None; parts = all; tags = own }) path value time)
same_said separator all own path value time name key tags n k t =
    ap (λ (x : List ℕ). limited (record { name = x; tags = tags; key = key; value = value; time = time })) n
    ∙ ap (λ (x : List ℕ). limited (record {
      name = name_of separator all path.segments;
      tags = tags;
      key = x;
      value = value;
      time = time;
    })) k
    ∙ ap (λ (x : List Tag). limited (record {
      name = name_of separator all path.segments;
      tags = x;
      key = key_of separator all path.segments;
      value = value;
      time = time;
    })) t

pub same_tags : (own : List Tag) (collected path collected_is path_is : List Tag) → collected ≡ collected_is
    → path ≡ path_is
    → (([] ++ own) ++ collected) ++ path ≡ (own ++ collected_is) ++ path_is
same_tags own collected path collected_is path_is c p = rw (c, p) refl

pub ready : (draft : Drafted) (tags : List Tag) (key : List ℕ) (value : ℤ) (name : List ℕ) → draft.parts.name ≡ name
    → 0 < length name
    → StandsFor draft tags ([] ++ (key, values.Fixed value) ∷ []) → IsReady draft
ready draft tags key value name is filled s = record {
  named = subst (λ (n : List ℕ). 0 < length n) (sym is) filled;
  tag_keys = s.tag_keys;
  field_keys = s.field_keys;
  some = λ few. subst (λ (fs : List Field). 0 < length fs) (sym (s.fields_kept few ∙ one_field key value))
      (omega arith);
}

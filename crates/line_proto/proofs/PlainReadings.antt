-- What is read of a piece in one line is plain.
use Rattle.std.proofs.Common.{◌≡◌, ◌<◌, ◌≤◌, ℕ, ℤ, zero, suc, Bool, true, false, cond, not, List, [], ◌∷◌, ◌++◌, length}
use Rattle.std.proofs.Common.{Result, Ok, Err, Option, Some, None, refl, sym, ap, subst, ◌∙◌, arith, inl, inr}
use Rattle.std.specs.Prelude.{◌&&◌, ◌||◌, ◌==◌, ◌⊎◌}
use Rattle.std.specs.List.{AllByRecursion}
use Rattle.std.proofs.lemmas.Bool.{or_parts, eqb-true, ne_eqb, ltb-false}
use Rattle.text_parts.specs.Part.{Kind, is_escape}
use Rattle.text_parts.specs.Grammar.{Mark, Escaped, Bare, spelled, meant, IsPart, HasNone, IsWritten}
use Rattle.fixed_num.specs.declared.fixed.NumFault.{NumFault}
use Rattle.fixed_num.specs.declared.fixed.NumFault.TheVariants as numbers
use Rattle.fixed_num.specs.Fixed.{read_as}
use Rattle.fixed_num.specs.Whole.{int_read_as, uint_read_as}
use Rattle.metric.specs.declared.value.Value.{Value}
use Rattle.metric.specs.declared.value.Value.TheVariants as values
use Rattle.metric.specs.declared.metric.Content.{Content}
use Rattle.metric.specs.Pairs.{in_key_order, in_key_order_on, in_first_order, in_first_order_on, with_sorted, with_pair}
use Rattle.metric.specs.Pairs.{with_values}
use Rattle.metric.proofs.MetricLemmas.{each_pair, each_sorted}
use Rattle.text_parts.specs.Pairs.{pair_text, pairs_text, AllAre}
use Rattle.metric.specs.Draft.{Tag, Field, has_too_many}
use Rattle.line_proto.specs.declared.fault.LineKind.{LineKind}
use Rattle.line_proto.specs.Kinds.{name_part, key_part, tag_value_part, text_part}
use Rattle.line_proto.specs.Values.{typed, number_of, truth_of, value_of, value_from, last_byte, before_last_byte}
use Rattle.line_proto.specs.Grammar.{NoHash, Written, spaces, behind_fields, behind_tags, behind_name}
use Rattle.line_proto.specs.Grammar.{line_spelling, IsTag, IsQuoted, IsUnquoted, IsField, IsLine}
use Rattle.line_proto.specs.Reading.{Line, content_of, reading}
use Rattle.line_proto.specs.OneLine.{ends_line}
use Rattle.text_parts.specs.Escaped.{NoBackslashEnd}
use Rattle.line_proto.specs.RoundTrip.{IsPlainWord, IsPlainValue, IsPlain}
use Rattle.text_parts.proofs.Lacking.{none_append, none_split}
use Rattle.line_proto.proofs.Again.{read_is_written}

-- ---- marks

-- each hidden byte means itself, and the backslash is none of them
pub record IsPlainKind (k : Kind) : Type 0 where
  pub means : (b : ℕ) → k.means b ≡ b
  pub backslash : k.escapes 92 ≡ false

none_meant : (k : Kind) → ((b : ℕ) → k.means b ≡ b) → (p : ℕ → Bool) (marks : List Mark) → HasNone p (spelled marks)
    → HasNone p (meant k marks)
none_meant k means p [] h = tt
none_meant k means p (Escaped c ∷ marks) h = (rw (means c) (h.1).0, none_meant k means p marks (h.1).1)
none_meant k means p (Bare b ∷ marks) h = (h.0, none_meant k means p marks h.1)

-- the rest begins with a byte that a backslash would hide
abbrev BeginsHidden : Kind → List ℕ → Type 0
BeginsHidden k [] = ⊥
BeginsHidden k (c ∷ rest) = k.escapes c ≡ true

no_backslash : (k : Kind) → k.escapes 92 ≡ false → (c : ℕ) → k.escapes c ≡ true → (c == 92) ≡ false
no_backslash k none c e = ne_eqb c 92 (λ is. absurd (true_false (sym e ∙ ap k.escapes is ∙ none)))
  where
    true_false : true ≡ false → ⊥
    true_false e = cc

shown_bare : (k : Kind) (b : ℕ) (rest : List ℕ) → BeginsHidden k rest → is_escape k (b ∷ rest) ≡ false
    → (b == 92) ≡ false
shown_bare k b [] h e = absurd h
shown_bare k b (c ∷ rest) h e = elim (b == 92) as (λ t. (t && k.escapes c) ≡ false → t ≡ false) [
  | true ↦ λ e. absurd (true_false (sym h ∙ e))
  | false ↦ λ e. refl
] e
  where
    true_false : true ≡ false → ⊥
    true_false e = cc

end_cons : (b : ℕ) (bs : List ℕ) → 0 < length bs → NoBackslashEnd bs → NoBackslashEnd (b ∷ bs)
end_cons b [] some h = absurd (omega arith)
end_cons b (c ∷ bs) some h = h

some_meant : (k : Kind) (u : Mark) (marks : List Mark) → 0 < length (meant k (u ∷ marks))
some_meant k (Escaped c) marks = omega arith
some_meant k (Bare b) marks = omega arith

no_end : (k : Kind) → IsPlainKind k → (marks : List Mark) (rest : List ℕ) → IsPart k marks rest → BeginsHidden k rest
    → NoBackslashEnd (meant k marks)
no_end k plain [] rest h hidden = tt
no_end k plain (Escaped c ∷ []) rest h hidden = rw (plain.means c) (no_backslash k plain.backslash c h.0)
no_end k plain (Bare b ∷ []) rest h hidden = shown_bare k b rest hidden h.1
no_end k plain (Escaped c ∷ u ∷ marks) rest h hidden = end_cons (k.means c) (meant k (u ∷ marks)) (some_meant k u marks)
    (no_end k plain (u ∷ marks) rest h.1 hidden)
no_end k plain (Bare b ∷ u ∷ marks) rest h hidden = end_cons b (meant k (u ∷ marks)) (some_meant k u marks)
    (no_end k plain (u ∷ marks) rest h.2 hidden)

plain_word : (k : Kind) → IsPlainKind k → (written rest text : List ℕ) → IsWritten k written rest text
    → HasNone ends_line written
    → BeginsHidden k rest → IsPlainWord text
plain_word k plain written rest text is none hidden =
    let shown : HasNone ends_line (spelled is.marks) = subst (HasNone ends_line) is.is none in
    subst IsPlainWord is.says (record {
      none = none_meant k plain.means ends_line is.marks shown;
      end = no_end k plain is.marks rest is.part hidden;
    })

plain_name : IsPlainKind name_part
plain_name = record { means = λ b. refl; backslash = refl }

plain_key : IsPlainKind key_part
plain_key = record { means = λ b. refl; backslash = refl }

plain_tag_value : IsPlainKind tag_value_part
plain_tag_value = record { means = λ b. refl; backslash = refl }

hidden_spaces : (k : Kind) → k.escapes 32 ≡ true → (n : ℕ) (rest : List ℕ) → 0 < n → BeginsHidden k (spaces n ++ rest)
hidden_spaces k e zero rest some = absurd (omega arith)
hidden_spaces k e (suc n) rest some = e

hidden_pairs : (k : Kind) → k.escapes 44 ≡ true → (ws : List (List ℕ × List ℕ)) (rest : List ℕ) → BeginsHidden k rest
    → BeginsHidden k (pairs_text ws ++ rest)
hidden_pairs k e [] rest h = h
hidden_pairs k e (w ∷ ws) rest h = e

-- ---- tags and fields

abbrev PlainTag : Tag → Type 0
PlainTag tag = IsPlainWord tag.0 × IsPlainWord tag.1

abbrev PlainField : Field → Type 0
PlainField field = IsPlainWord field.0 × IsPlainValue field.1

pair_none : (w : List ℕ × List ℕ) → HasNone ends_line (pair_text w) → HasNone ends_line w.0 × HasNone ends_line w.1
pair_none w h = let split = none_split ends_line w.0 (61 ∷ w.1) h in (split.0, (split.1).1)

tags_plain : (ws : List (List ℕ × List ℕ)) (rest : List ℕ) (tags : List Tag) → AllAre IsTag ws rest tags
    → BeginsHidden tag_value_part rest
    → HasNone ends_line (pairs_text ws) → AllByRecursion PlainTag tags
tags_plain [] rest [] are hidden none = tt
tags_plain [] rest (tag ∷ tags) are hidden none = absurd are
tags_plain (w ∷ ws) rest [] are hidden none = absurd are
tags_plain (w ∷ ws) rest (tag ∷ tags) are hidden none =
    let split = none_split ends_line (pair_text w) (pairs_text ws) none.1 in
    let pair = pair_none w split.0 in (
      (
        plain_word key_part plain_key w.0 _ tag.0 (are.0).key pair.0 refl,
        plain_word tag_value_part plain_tag_value w.1 (pairs_text ws ++ rest) tag.1 (are.0).value pair.1
            (hidden_pairs tag_value_part refl ws rest hidden),
      ),
      tags_plain ws rest tags are.1 hidden split.1,
    )

typed_plain : {A : Type 0} (make : A → Value) → ((x : A) → IsPlainValue (make x)) → (r : Result A NumFault) (v : Value)
    → typed make r ≡ Ok v → IsPlainValue v
typed_plain make plain (Ok x) v e = let same : make x ≡ v = cc in subst IsPlainValue same (plain x)
typed_plain make plain (Err numbers.NotANumber) v e = absurd cc
typed_plain make plain (Err numbers.NumberRange) v e = absurd cc

number_plain : (text : List ℕ) (v : Value) → number_of text ≡ Ok v → IsPlainValue v
unfolding number_of
number_plain text v e = elim (last_byte text == 105) as (λ t. cond t
    (typed values.Int (int_read_as (before_last_byte text)))
    (cond (last_byte text == 117) (typed values.Uint (uint_read_as (before_last_byte text)))
    (typed values.Fixed (read_as text))) ≡ Ok v → IsPlainValue v) [
      | true ↦ λ e. typed_plain values.Int (λ x. tt) (int_read_as (before_last_byte text)) v e
      | false ↦ λ e. elim (last_byte text == 117) as (λ t. cond t
          (typed values.Uint (uint_read_as (before_last_byte text)))
          (typed values.Fixed (read_as text)) ≡ Ok v → IsPlainValue v) [
            | true ↦ λ e. typed_plain values.Uint (λ x. tt) (uint_read_as (before_last_byte text)) v e
            | false ↦ λ e. typed_plain values.Fixed (λ x. tt) (read_as text) v e
          ] e
    ] e

from_plain : (truth : Option Bool) (number : Result Value LineKind) (v : Value) → (number ≡ Ok v → IsPlainValue v)
    → value_from truth number ≡ Ok v → IsPlainValue v
from_plain (Some b) number v h e = let same : values.«Bool» b ≡ v = cc in subst IsPlainValue same tt
from_plain None number v h e = h e

value_plain : (w rest : List ℕ) (v : Value) → IsQuoted w rest v ⊎ IsUnquoted w v → HasNone ends_line w → IsPlainValue v
unfolding value_of
value_plain w rest v (inl is) none =
    let inside : HasNone ends_line (34 ∷ (spelled is.marks ++ 34 ∷ [])) = subst (HasNone ends_line) is.is none in
    let shown = (none_split ends_line (spelled is.marks) (34 ∷ []) inside.1).0 in
    subst IsPlainValue is.says (none_meant text_part (λ b. refl) ends_line is.marks shown)
value_plain w rest v (inr is) none = from_plain (truth_of w) (number_of w) v (number_plain w v) is.says

fields_plain : (ws : List (List ℕ × List ℕ)) (rest : List ℕ) (fields : List Field) → AllAre IsField ws rest fields
    → HasNone ends_line (pairs_text ws)
    → AllByRecursion PlainField fields
fields_plain [] rest [] are none = tt
fields_plain [] rest (field ∷ fields) are none = absurd are
fields_plain (w ∷ ws) rest [] are none = absurd are
fields_plain (w ∷ ws) rest (field ∷ fields) are none =
    let split = none_split ends_line (pair_text w) (pairs_text ws) none.1 in
    let pair = pair_none w split.0 in (
      (
        plain_word key_part plain_key w.0 _ field.0 (are.0).key pair.0 refl,
        value_plain w.1 _ field.1 (are.0).value pair.1,
      ),
      fields_plain ws rest fields are.1 split.1,
    )

-- ---- what is kept of them

kept_sorted : {X : Type 0} (P : List ℕ × X → Type 0) (kept given : List (List ℕ × X)) → AllByRecursion P kept
    → AllByRecursion P given
    → AllByRecursion P (in_key_order_on kept given)
unfolding in_key_order_on
kept_sorted P kept [] h g = h
kept_sorted P kept (pair ∷ given) h g = kept_sorted P (with_sorted kept pair.0 pair.1) given
    (each_sorted P kept pair.0 pair.1 g.0 h) g.1

kept_first : {X : Type 0} (P : List ℕ × X → Type 0) (kept given : List (List ℕ × X)) → AllByRecursion P kept
    → AllByRecursion P given
    → AllByRecursion P (in_first_order_on kept given)
unfolding in_first_order_on
kept_first P kept [] h g = h
kept_first P kept (pair ∷ given) h g = kept_first P (with_pair kept pair.0 pair.1) given
    (each_pair P kept pair.0 pair.1 g.0 h) g.1

valued : (P : Tag → Type 0) (tags : List Tag) → AllByRecursion P tags → AllByRecursion P (with_values tags)
valued P [] h = tt
valued P (tag ∷ tags) h = elim (length tag.1 == 0) as (λ t. AllByRecursion P
    (cond (not t) (tag ∷ with_values tags) (with_values tags))) [
      | true ↦ valued P tags h.1
      | false ↦ (h.0, valued P tags h.1)
    ]

fewer : (tags : List Tag) → length (with_values tags) ≤ length tags
fewer [] = omega arith
fewer (tag ∷ tags) = elim (length tag.1 == 0) as (λ t. length (cond (not t) (tag ∷ with_values tags) (with_values tags))
    ≤ length (tag ∷ tags)) [
      | true ↦ (let h = fewer tags in omega arith)
      | false ↦ (let h = fewer tags in omega arith)
    ]

-- ---- the line

either : (x y : Bool) → (x || y) ≡ true → (x ≡ true) ⊎ (y ≡ true)
either true y e = inl refl
either false y e = inr e

no_hash : (c : ℕ) → (c == 44 || c == 32) ≡ true → (c == 35) ≡ false
no_hash c e = elim (either (c == 44) (c == 32) e) [
  | inl w ↦ let is : c ≡ 44 = eqb-true c 44 w in rw is refl
  | inr w ↦ let is : c ≡ 32 = eqb-true c 32 w in rw is refl
]

marks_no_hash : (marks : List Mark) (rest : List ℕ) → IsPart name_part marks rest → NoHash (spelled marks)
    → NoHash (meant name_part marks)
marks_no_hash [] rest part h = tt
marks_no_hash (Escaped c ∷ marks) rest part h = no_hash c part.0
marks_no_hash (Bare b ∷ marks) rest part h = h

line_plain : (w : Written) (line : Line) (moment : ℤ) → IsLine w line moment → HasNone ends_line (line_spelling w)
    → has_too_many line.tags line.fields ≡ false → IsPlain (content_of line)
line_plain w line moment is none few =
    let front = none_split ends_line (spaces w.before) (w.name ++ behind_name w) none in
    let named = none_split ends_line w.name (behind_name w) front.1 in
    let tagged = none_split ends_line (pairs_text w.tags) (behind_tags w) named.1 in
    let spaced = none_split ends_line (spaces w.gap) (pair_text w.first ++ (pairs_text w.others ++ behind_fields w))
    tagged.1 in
    let first = none_split ends_line (pair_text w.first) (pairs_text w.others ++ behind_fields w) spaced.1 in
    let others = none_split ends_line (pairs_text w.others) (behind_fields w) first.1 in
    let pairs : HasNone ends_line (pairs_text (w.first ∷ w.others)) =
    (refl, none_append ends_line (pair_text w.first) (pairs_text w.others) first.0 others.0) in
    let gap : BeginsHidden tag_value_part (behind_tags w) = hidden_spaces tag_value_part refl w.gap _ is.gap in
    let name_gap : BeginsHidden name_part (behind_name w) = hidden_pairs name_part refl w.tags (behind_tags w)
    (hidden_spaces name_part refl w.gap _ is.gap) in
    let limits = or_parts _ _ few in
    let most_tags : length (in_key_order line.tags) ≤ 64 = ltb-false 64 (length (in_key_order line.tags)) limits.0 in
    let most_fields : length (in_first_order line.fields) ≤ 256 =
    ltb-false 256 (length (in_first_order line.fields)) limits.1 in
    record {
      name = plain_word name_part plain_name w.name (behind_name w) line.name is.name named.0 name_gap;
      no_comment = subst NoHash is.name.says (marks_no_hash is.name.marks (behind_name w) is.name.part
          (subst NoHash is.name.is is.no_comment));
      tags = valued PlainTag (in_key_order line.tags) (kept_sorted PlainTag [] line.tags tt
          (tags_plain w.tags (behind_tags w) line.tags is.tags gap tagged.0));
      few_tags = omega (arith, most_tags, fewer (in_key_order line.tags));
      fields = kept_first PlainField [] line.fields tt (fields_plain (w.first ∷ w.others)
          (behind_fields w) line.fields is.fields pairs);
      few_fields = most_fields;
    }

pub read_is_plain : (piece : List ℕ) (moment : ℤ) (content : Content) → HasNone ends_line piece
    → reading piece moment ≡ Ok (Some content) → IsPlain content
read_is_plain piece moment content none e =
    let r = read_is_written piece moment content e in
    subst IsPlain (sym r.6) (line_plain r.0 r.1 moment r.4 (subst (HasNone ends_line) r.2 none) r.5)

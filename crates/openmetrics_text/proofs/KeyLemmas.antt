-- What stands for a set of labels stands for no other.
use Rattle.std.proofs.Common.{◌≡◌, ℕ, ◌+◌, Bool, true, false, cond, List, [], ◌∷◌, ◌++◌, length, take, drop, refl, sym}
use Rattle.std.proofs.Common.{ap, subst, ◌∙◌, append_assoc, inl, arith}
use Rattle.std.specs.Prelude.{◌&&◌, ◌||◌, ◌==◌}
use Rattle.std.specs.List.{flat_map}
use Rattle.std.specs.Str.{bytes_eq}
use Rattle.std.proofs.lemmas.Bool.{eqb-true}
use Rattle.std.proofs.lemmas.List.{take_at, drop_at, length-append}
use Rattle.std.proofs.lemmas.Slice.Eq.{bytes_eq-Decides}
use Rattle.text_parts.specs.Escaped.{escaped, Suits}
use Rattle.text_parts.specs.Part.{part_len, plain}
use Rattle.text_parts.specs.Grammar.{spelled, Ends}
use Rattle.text_parts.proofs.Escaping.{escaped_is_part}
use Rattle.text_parts.proofs.MarkLemmas.{part_is_read}
use Rattle.metric.specs.Draft.{Tag}
use Rattle.metric.specs.Pairs.{in_key_order}
use Rattle.openmetrics_text.specs.Labels.{value_part}
use Rattle.openmetrics_text.specs.Groups.{quoted_label, series_key}
use Rattle.openmetrics_text.specs.Writing.{label_escapes, quoted, same_tags}
use Rattle.metric.proofs.GroupLemmas.{same_texts, not_same}

-- ---- escaped texts

quote_of : (b : ℕ) → (b == 34) ≡ true → ((b == 92 || b == 34) || b == 10) ≡ true
quote_of b e = rw (eqb-true b 34 e) refl

hidden : (b : ℕ) → ((b == 92 || b == 34) || b == 10) ≡ true → value_part.escapes (label_escapes.written b) ≡ true
hidden b e = elim (b == 10) as (λ t. (b == 10) ≡ t → value_part.escapes (cond t 110 b) ≡ true) [
  | true ↦ λ n. refl
  | false ↦ λ n. plain_mark (b == 92) (b == 34) (b == 110) (subst (λ (t : Bool). ((b == 92 || b == 34) || t) ≡ true) n
      e)
] refl
  where
    plain_mark : (x y z : Bool) → ((x || y) || false) ≡ true → ((x || y) || z) ≡ true
    plain_mark true y z e = refl
    plain_mark false true z e = refl
    plain_mark false false z e = absurd cc

shown : (b : ℕ) → ((b == 92 || b == 34) || b == 10) ≡ true → value_part.means (label_escapes.written b) ≡ b
shown b e = elim (b == 10) as (λ t. (b == 10) ≡ t → value_part.means (cond t 110 b) ≡ b) [
  | true ↦ λ n. sym (eqb-true b 10 n)
  | false ↦ λ n. itself (b == 92) (b == 34) refl refl (subst (λ (t : Bool). ((b == 92 || b == 34) || t) ≡ true) n e)
] refl
  where
    itself : (x y : Bool) → (b == 92) ≡ x → (b == 34) ≡ y → ((x || y) || false) ≡ true → value_part.means b ≡ b
    itself true y is other h = rw (eqb-true b 92 is) refl
    itself false true is other h = rw (eqb-true b 34 other) refl
    itself false false is other h = absurd cc

pub suits : (text : List ℕ) → Suits value_part label_escapes text
suits text = record {
  hides = hidden;
  means = shown;
  ends = λ b e. inl (quote_of b e);
  closes = inl refl;
}

-- a double quote ends a value, whatever follows
pub quote_ends : (rest : List ℕ) → Ends value_part (34 ∷ rest)
quote_ends [] = (refl, refl)
quote_ends (c ∷ rest) = (refl, refl)

-- what is read of a text behind a double quote, and what stands behind the next one
abbrev read : List ℕ → List ℕ × List ℕ
read text = (plain value_part (take (part_len value_part text) text), drop (part_len value_part text + 1) text)

read_back : (text rest : List ℕ) → read (quoted text ++ rest) ≡ (text, rest)
read_back text rest =
    let p = escaped_is_part value_part label_escapes text (34 ∷ rest) (suits text) (quote_ends rest) in
    let r = part_is_read value_part p.0 (34 ∷ rest) p.2 in
    let is : quoted text ++ rest ≡ spelled p.0 ++ 34 ∷ rest =
    append_assoc (escaped label_escapes text) (34 ∷ []) rest ∙ ap (λ t. t ++ 34 ∷ rest) p.1 in
    ap read is ∙ rw (r.0)
    (λ j. (
      (ap (plain value_part) (take_at (spelled p.0) (34 ∷ rest) (length (spelled p.0)) refl) ∙ r.1 ∙ p.3) j,
      behind (spelled p.0) rest j,
    ))
  where
    behind : (front rest : List ℕ) → drop (length front + 1) (front ++ 34 ∷ rest) ≡ rest
    behind front rest = ap (λ t. drop (length front + 1) t) (sym (append_assoc front (34 ∷ []) rest))
        ∙ drop_at (front ++ 34 ∷ []) rest (length front + 1) (omega (arith, length-append front (34 ∷ [])))

quoted_apart : (one other front back : List ℕ) → quoted one ++ front ≡ quoted other ++ back
    → (one ≡ other) × (front ≡ back)
quoted_apart one other front back e =
    let same : (one, front) ≡ (other, back) = sym (read_back one front) ∙ ap read e ∙ read_back other back in
    (ap (λ (p : List ℕ × List ℕ). p.0) same, ap (λ (p : List ℕ × List ℕ). p.1) same)

-- ---- labels

label_apart : (one other : Tag) (front back : List ℕ) → quoted_label one ++ front ≡ quoted_label other ++ back
    → (one ≡ other) × (front ≡ back)
label_apart one other front back e =
    let names = quoted_apart one.0 other.0 (quoted one.1 ++ front) (quoted other.1 ++ back)
    (sym (append_assoc (quoted one.0) (quoted one.1) front) ∙ e
    ∙ append_assoc (quoted other.0) (quoted other.1) back) in
    let values = quoted_apart one.1 other.1 front back names.1 in
    (λ j. (names.0 j, values.0 j), values.1)

quoted_filled : (tag : Tag) (rest : List ℕ) → [] ≡ quoted_label tag ++ rest → ⊥
quoted_filled tag rest e = absurd (omega (
  arith,
  ap length e,
  length-append (quoted_label tag) rest,
  length-append (quoted tag.0) (quoted tag.1),
  length-append (escaped label_escapes tag.1) (34 ∷ []),
))

labels_apart : (tags others : List Tag) → flat_map quoted_label tags ≡ flat_map quoted_label others → tags ≡ others
labels_apart [] [] e = refl
labels_apart [] (other ∷ others) e = absurd (quoted_filled other (flat_map quoted_label others) e)
labels_apart (tag ∷ tags) [] e = absurd (quoted_filled tag (flat_map quoted_label tags) (sym e))
labels_apart (tag ∷ tags) (other ∷ others) e =
    let parts = label_apart tag other (flat_map quoted_label tags) (flat_map quoted_label others) e in
    let rest = labels_apart tags others parts.1 in
    λ j. parts.0 j ∷ rest j

-- ---- the test

both : (a b : Bool) → (a && b) ≡ true → (a ≡ true) × (b ≡ true)
both true b e = (refl, e)
both false b e = absurd cc

same_is : (tags others : List Tag) → same_tags tags others ≡ true → tags ≡ others
unfolding same_tags
same_is [] [] e = refl
same_is [] (other ∷ others) e = absurd cc
same_is (tag ∷ tags) [] e = absurd cc
same_is (tag ∷ tags) (other ∷ others) e =
    let whole = both (bytes_eq tag.0 other.0 && bytes_eq tag.1 other.1) (same_tags tags others) e in
    let first = both (bytes_eq tag.0 other.0) (bytes_eq tag.1 other.1) whole.0 in
    let name = (bytes_eq-Decides tag.0 other.0).0 first.0 in
    let value = (bytes_eq-Decides tag.1 other.1).0 first.1 in
    let rest = same_is tags others whole.1 in
    λ j. (name j, value j) ∷ rest j

same_as_itself : (tags : List Tag) → same_tags tags tags ≡ true
unfolding same_tags
same_as_itself [] = refl
same_as_itself (tag ∷ tags) = rw (same_texts tag.0 tag.0 refl, same_texts tag.1 tag.1 refl, same_as_itself tags) refl

-- two sets of labels are the same where what stands for them is
same_text : (tags others : List Tag) → same_tags tags others ≡ bytes_eq (flat_map quoted_label tags)
    (flat_map quoted_label others)
same_text tags others = elim (same_tags tags others) as (λ t. same_tags tags others ≡ t
    → t ≡ bytes_eq (flat_map quoted_label tags) (flat_map quoted_label others)) [
      | true ↦ λ e. sym (same_texts (flat_map quoted_label tags) (flat_map quoted_label others)
          (ap (flat_map quoted_label) (same_is tags others e)))
      | false ↦ λ e. sym (not_same (bytes_eq (flat_map quoted_label tags) (flat_map quoted_label others))
          (λ is. apart e (labels_apart tags others ((bytes_eq-Decides (flat_map quoted_label tags)
          (flat_map quoted_label others)).0 is))))
    ] refl
  where
    true_false : true ≡ false → ⊥
    true_false e = absurd cc

    apart : same_tags tags others ≡ false → tags ≡ others → ⊥
    apart e is = true_false (sym (same_as_itself tags) ∙ ap (same_tags tags) is ∙ e)

pub one_key : (labels others : List Tag) → same_tags (in_key_order labels) (in_key_order others) ≡ bytes_eq
    (series_key labels) (series_key others)
unfolding series_key
one_key labels others = same_text (in_key_order labels) (in_key_order others)

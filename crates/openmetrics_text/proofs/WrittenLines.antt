-- Samples as lines that are written.
use Rattle.std.proofs.Common.{◌≡◌, ℕ, ℤ, ◌^◌, Bool, true, false, cond, List, [], ◌∷◌, ◌++◌, map, Option, Some, None}
use Rattle.std.proofs.Common.{refl, sym, ap, ◌∙◌, append_assoc, append-nil, arith}
use Rattle.std.specs.Prelude.{◌==◌, ◌||◌, codes, FitsSigned, pos, negsuc}
use Rattle.std.specs.Int.{w64}
use Rattle.std.specs.List.{AllByRecursion}
use Rattle.std.proofs.lemmas.Bool.{ne_eqb, lt-ltb}
use Rattle.text_parts.specs.Escaped.{escaped, escaped_byte}
use Rattle.text_parts.specs.Grammar.{Mark, Escaped, Bare, IsPart, HasNone}
use Rattle.text_parts.specs.Split.{is_byte}
use Rattle.text_parts.proofs.Escaping.{escaped_is_part}
use Rattle.text_parts.proofs.Lacking.{none_append, number_lacks}
use Rattle.fixed_num.specs.Canonical.{canonical_text}
use Rattle.fixed_num.specs.Range.{InRange}
use Rattle.fixed_num.proofs.Again.{reads_canonical}
use Rattle.fixed_num.proofs.NumberTexts.{IsNumberText, canonical_number}
use Rattle.metric.specs.Draft.{Tag}
use Rattle.metric.specs.Numbers.{number_text, billionths_of}
use Rattle.metric.proofs.NumberLemmas.{value_number, value_read}
use Rattle.openmetrics_text.specs.declared.number.Number.TheVariants.{Decimal}
use Rattle.openmetrics_text.specs.declared.number.Time.TheVariants as times
use Rattle.openmetrics_text.specs.Grammar.{WrittenSample, label_text, more_labels_text, labels_text, braces_text}
use Rattle.openmetrics_text.specs.Grammar.{sample_text, WrittenLine, TypeLine, SampleLine, line_text, with_newline}
use Rattle.openmetrics_text.specs.Grammar.{IsName, IsLabel, AreLabels, AreBraced, IsSample, IsLine, AreLines}
use Rattle.openmetrics_text.specs.Labels.{value_part}
use Rattle.openmetrics_text.specs.Lines.{LineSays, Typed, Sampled}
use Rattle.openmetrics_text.specs.Names.{ends_label, ends_name}
use Rattle.openmetrics_text.specs.Sample.{Said, number_of, time_of, is_moment}
use Rattle.openmetrics_text.specs.Writing.{Point, label_escapes, written_label, more_written, written_labels}
use Rattle.openmetrics_text.specs.Writing.{point_text, type_text}
use Rattle.openmetrics_text.proofs.KeyLemmas.{suits}
use Rattle.openmetrics_text.proofs.PointLemmas.{IsLabelTag, IsPoint}

-- ---- what is written

abbrev pub written_tag : Tag → List ℕ × List ℕ
written_tag tag = (tag.0, escaped label_escapes tag.1)

abbrev pub in_braces : List Tag → Option (List (List ℕ × List ℕ))
in_braces [] = None
in_braces (tag ∷ tags) = Some (written_tag tag ∷ map written_tag tags)

abbrev pub sample_of : Point → WrittenSample
sample_of point = record {
  name = point.family;
  labels = in_braces point.labels;
  number = number_text point.value;
  time = Some (canonical_text point.time);
  exemplar = None;
}

abbrev pub said_of : Point → Said
said_of point = record {
  name = point.family;
  labels = point.labels;
  number = Decimal (billionths_of point.value);
  time = Some point.time;
}

more_same : (tags : List Tag) → more_labels_text (map written_tag tags) ≡ more_written tags
unfolding more_written
more_same [] = refl
more_same (tag ∷ tags) = ap (λ (text : List ℕ). 44 ∷ (written_label tag ++ text)) (more_same tags)

braces_same : (tags : List Tag) → braces_text (in_braces tags) ≡ written_labels tags
braces_same [] = refl
braces_same (tag ∷ tags) = ap (λ (text : List ℕ). 123 ∷ ((written_label tag ++ text) ++ 125 ∷ [])) (more_same tags)
    ∙ ap (λ (text : List ℕ). 123 ∷ text) (append_assoc (written_label tag) (more_written tags) (125 ∷ []))

ended : (family labels number time : List ℕ) → (family ++ (labels ++ 32 ∷ (number ++ ((32 ∷ time) ++ []))))
    ++ 10 ∷ [] ≡ family ++ (labels ++ 32 ∷ (number ++ 32 ∷ (time ++ 10 ∷ [])))
ended family labels number time =
    append_assoc family (labels ++ 32 ∷ (number ++ ((32 ∷ time) ++ []))) (10 ∷ [])
    ∙ ap (λ (text : List ℕ). family ++ text)
    (append_assoc labels (32 ∷ (number ++ ((32 ∷ time) ++ []))) (10 ∷ [])
    ∙ ap (λ (text : List ℕ). labels ++ 32 ∷ text)
    (append_assoc number ((32 ∷ time) ++ []) (10 ∷ [])
    ∙ ap (λ (text : List ℕ). number ++ (text ++ 10 ∷ [])) (append-nil (32 ∷ time))))

pub sample_same : (point : Point) → with_newline (SampleLine (sample_of point)) ≡ point_text point
unfolding point_text
sample_same point = ap (λ (text : List ℕ). (point.family ++ (text
    ++ 32 ∷ (number_text point.value ++ ((32 ∷ canonical_text point.time) ++ [])))) ++ 10 ∷ [])
    (braces_same point.labels) ∙ ended point.family (written_labels point.labels) (number_text point.value)
    (canonical_text point.time)

pub type_same : (family : List ℕ) → with_newline (TypeLine family (codes "unknown")) ≡ type_text family
type_same family = ap (λ (text : List ℕ). codes "# TYPE " ++ text) (append_assoc family (codes " unknown") (10 ∷ []))

-- ---- no newline in it

differs : (ends : ℕ → Bool) (b c : ℕ) → ends b ≡ false → ends c ≡ true → (b == c) ≡ false
differs ends b c e f = ne_eqb b c (λ is. true_false (sym f ∙ sym (ap ends is) ∙ e))
  where
    true_false : true ≡ false → ⊥
    true_false x = absurd cc

name_none : (ends : ℕ → Bool) → ends 10 ≡ true → (name : List ℕ) → HasNone ends name → HasNone (is_byte 10) name
name_none ends e [] h = tt
name_none ends e (b ∷ name) h = (differs ends b 10 h.0 e, name_none ends e name h.1)

or_no : (x y : Bool) → (x || y) ≡ false → y ≡ false
or_no true y e = absurd cc
or_no false y e = e

escaped_none : (text : List ℕ) → HasNone (is_byte 10) (escaped label_escapes text)
unfolding escaped
escaped_none [] = tt
escaped_none (b ∷ text) = none_append (is_byte 10) (escaped_byte label_escapes b) (escaped label_escapes text) one
    (escaped_none text)
  where
    one : HasNone (is_byte 10) (escaped_byte label_escapes b)
    one = elim (label_escapes.is_mark b) as (λ t. label_escapes.is_mark b ≡ t
        → HasNone (is_byte 10) (cond t (92 ∷ label_escapes.written b ∷ []) (b ∷ []))) [
          | true ↦ λ e. (
            refl,
            (
              elim (b == 10) as (λ t. (b == 10) ≡ t → (cond t 110 b == 10) ≡ false)
                  [ true ↦ λ n. refl | false ↦ λ n. n ] refl,
              tt,
            ),
          )
          | false ↦ λ e. (or_no (b == 92 || b == 34) (b == 10) e, tt)
        ] refl

label_none : (tag : Tag) → IsLabelTag tag → HasNone (is_byte 10) (label_text (written_tag tag))
label_none tag is =
    none_append (is_byte 10) tag.0 (61 ∷ 34 ∷ (escaped label_escapes tag.1 ++ 34 ∷ []))
    (name_none ends_label refl tag.0 (is.name).clean)
    (refl, (refl, none_append (is_byte 10) (escaped label_escapes tag.1) (34 ∷ []) (escaped_none tag.1) (refl, tt)))

more_none : (tags : List Tag) → AllByRecursion IsLabelTag tags
    → HasNone (is_byte 10) (more_labels_text (map written_tag tags))
more_none [] h = tt
more_none (tag ∷ tags) h = (
  refl,
  none_append (is_byte 10) (label_text (written_tag tag))
      (more_labels_text (map written_tag tags)) (label_none tag h.0) (more_none tags h.1),
)

braces_none : (tags : List Tag) → AllByRecursion IsLabelTag tags → HasNone (is_byte 10) (braces_text (in_braces tags))
braces_none [] h = tt
braces_none (tag ∷ tags) h = (
  refl,
  none_append (is_byte 10) (labels_text (map written_tag (tag ∷ tags))) (125 ∷ [])
      (none_append (is_byte 10) (label_text (written_tag tag)) (more_labels_text (map written_tag tags))
      (label_none tag h.0) (more_none tags h.1)) (refl, tt),
)

-- a time is in the range of numbers
pub time_range : (time : ℤ) → FitsSigned w64 time → InRange time
time_range (pos n) h = omega (arith, h.sfits)
time_range (negsuc n) h = omega (arith, h.sfits)

time_number : (time : ℤ) → FitsSigned w64 time → IsNumberText (canonical_text time)
time_number time h = canonical_number time (time_range time h)

sample_none : (point : Point) → IsPoint point → HasNone (is_byte 10) (sample_text (sample_of point))
sample_none point is =
    let number = value_number point.value is.value is.no_text in
    let time = time_number point.time is.time in
    none_append (is_byte 10) point.family _ (name_none ends_name refl point.family (is.family).clean)
    (none_append (is_byte 10) (braces_text (in_braces point.labels)) _ (braces_none point.labels is.labels) (
      refl,
      none_append (is_byte 10) (number_text point.value) _ (number_lacks 10 (omega arith)
          (number_text point.value) number.bytes) (
            refl,
            none_append (is_byte 10) (canonical_text point.time) []
                (number_lacks 10 (omega arith) (canonical_text point.time) time.bytes) tt,
          ),
    ))

-- ---- what it says

-- before a double quote a part is a part, whatever follows
same_part : (marks : List Mark) (rest : List ℕ) → IsPart value_part marks (34 ∷ [])
    → IsPart value_part marks (34 ∷ rest)
same_part [] [] h = (refl, refl)
same_part [] (c ∷ rest) h = (refl, refl)
same_part (Escaped c ∷ marks) rest h = (h.0, same_part marks rest h.1)
same_part (Bare b ∷ []) rest h = (h.0, h.1, same_part [] rest h.2)
same_part (Bare b ∷ Escaped c ∷ marks) rest h = (h.0, h.1, same_part (Escaped c ∷ marks) rest h.2)
same_part (Bare b ∷ Bare c ∷ marks) rest h = (h.0, h.1, same_part (Bare c ∷ marks) rest h.2)

label_is : (tag : Tag) → IsLabelTag tag → IsLabel (written_tag tag) tag
label_is tag is =
    let p = escaped_is_part value_part label_escapes tag.1 (34 ∷ []) (suits tag.1) (refl, refl) in
    record { name = is.name; same = refl; marks = p.0; is = p.1; part = λ rest. same_part p.0 rest p.2; says = sym p.3 }

labels_are : (tags : List Tag) → AllByRecursion IsLabelTag tags → AreLabels (map written_tag tags) tags
labels_are [] h = tt
labels_are (tag ∷ tags) h = (label_is tag h.0, labels_are tags h.1)

braces_are : (tags : List Tag) → AllByRecursion IsLabelTag tags → AreBraced (in_braces tags) tags
braces_are [] h = refl
braces_are (tag ∷ tags) h = labels_are (tag ∷ tags) h

moment_is : (time : ℤ) → FitsSigned w64 time → is_moment time ≡ true
moment_is (pos n) h = lt-ltb n (2 ^ 63) (omega (arith, h.sfits))
moment_is (negsuc n) h = lt-ltb n (2 ^ 63) (omega (arith, h.sfits))

sample_is : (point : Point) → IsPoint point → IsSample false (sample_of point) (said_of point)
unfolding number_of time_of
sample_is point is =
    let number = value_number point.value is.value is.no_text in
    let time = time_number point.time is.time in record {
      name = is.family;
      same = refl;
      labels = braces_are point.labels is.labels;
      distinct = is.distinct;
      few = is.few;
      number_whole = number_lacks 32 (omega arith) (number_text point.value) number.bytes;
      time_whole = number_lacks 32 (omega arith) (canonical_text point.time) time.bytes;
      number = Decimal (billionths_of point.value);
      is_number = rw (value_read point.value is.value is.no_text) refl;
      time = times.At point.time;
      is_time = rw (reads_canonical point.time (time_range point.time is.time), moment_is point.time is.time) refl;
      in_range = λ p. refl;
      number_is = refl;
      time_is = refl;
    }

-- ---- lines

abbrev pub sample_lines : List Point → List WrittenLine
sample_lines points = map (λ point. SampleLine (sample_of point)) points

abbrev pub sample_says : List Point → List LineSays
sample_says points = map (λ point. Sampled (said_of point)) points

pub samples_are : (points : List Point) → AllByRecursion IsPoint points
    → AreLines false (sample_lines points) (sample_says points)
samples_are [] h = tt
samples_are (point ∷ points) h = (
  sample_none point h.0,
  (said_of point, sample_is point h.0, refl),
  samples_are points h.1,
)

pub type_is : (family : List ℕ) → IsName ends_name family → HasNone (is_byte 10)
    (line_text (TypeLine family (codes "unknown"))) × IsLine false (TypeLine family (codes "unknown"))
    (Typed family (codes "unknown"))
type_is family is = (
  none_append (is_byte 10) (codes "# TYPE ") (family ++ codes " unknown")
      (refl, (refl, (refl, (refl, (refl, (refl, (refl, tt)))))))
      (none_append (is_byte 10) family (codes " unknown") (name_none ends_name refl family is.clean)
      (refl, (refl, (refl, (refl, (refl, (refl, (refl, (refl, tt))))))))),
  (is, refl, refl),
)

pub lines_append : (one other : List WrittenLine) (says also : List LineSays) → AreLines false one says
    → AreLines false other also → AreLines false (one ++ other) (says ++ also)
lines_append [] other [] also h k = k
lines_append [] other (s ∷ says) also h k = absurd h
lines_append (line ∷ one) other [] also h k = absurd h
lines_append (line ∷ one) other (s ∷ says) also h k = (h.0, h.1, lines_append one other says also h.2 k)

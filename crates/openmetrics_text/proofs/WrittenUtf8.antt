-- What is written is UTF-8.
use Rattle.std.proofs.Common.{◌≡◌, ℕ, ◌<◌, Bool, true, false, cond, List, [], ◌∷◌, map, refl, sym, subst, append_assoc}
use Rattle.std.proofs.Common.{arith, rules}
use Rattle.std.specs.Prelude.{◌==◌, ◌||◌, codes}
use Rattle.std.specs.List.{AllByRecursion, flat_map}
use Rattle.std.specs.Str.{IsUtf8}
use Rattle.std.proofs.lemmas.Bool.{eqb-true}
use Rattle.std.proofs.lemmas.Str.{IsUtf8-nil, IsUtf8-append, IsUtf8-from_ascii}
use Rattle.text_parts.specs.Escaped.{escaped}
use Rattle.text_parts.specs.Grammar.{HasNone}
use Rattle.text_parts.proofs.EscapedUtf8.{AreAscii, escaped_utf8}
use Rattle.text_parts.proofs.Utf8.{one_ascii, first_ascii}
use Rattle.fixed_num.specs.Canonical.{canonical_text}
use Rattle.fixed_num.proofs.NumberBytes.{ascii_of}
use Rattle.fixed_num.proofs.NumberTexts.{IsNumberText, canonical_number}
use Rattle.metric.specs.Draft.{Tag}
use Rattle.metric.specs.Numbers.{number_text}
use Rattle.metric.proofs.NumberLemmas.{value_number}
use Rattle.openmetrics_text.specs.Grammar.{label_text, more_labels_text, labels_text, braces_text, sample_text}
use Rattle.openmetrics_text.specs.Grammar.{WrittenLine, TypeLine, SampleLine, line_text, with_newline, exposition_text}
use Rattle.openmetrics_text.specs.Names.{ends_label, ends_name}
use Rattle.openmetrics_text.specs.Writing.{Point, label_escapes}
use Rattle.openmetrics_text.specs.declared.names.Alphabet.TheVariants.{Labels, Samples}
use Rattle.openmetrics_text.proofs.NameLemmas.{alphabet_low}
use Rattle.openmetrics_text.proofs.PointLemmas.{IsLabelTag, IsPoint}
use Rattle.openmetrics_text.proofs.WrittenLines.{written_tag, in_braces, sample_of, sample_lines, time_range}

number_utf8 : (text : List ℕ) → IsNumberText text → IsUtf8 text
number_utf8 text is = IsUtf8-from_ascii text (ascii_of text is.bytes)

name_utf8 : (ends : ℕ → Bool) → ((b : ℕ) → ends b ≡ false → b < 128) → (name : List ℕ) → HasNone ends name → IsUtf8 name
name_utf8 ends low [] h = IsUtf8-nil
name_utf8 ends low (b ∷ name) h = first_ascii b name (low b h.0) (name_utf8 ends low name h.1)

-- ---- escapes

mark_low : (b : ℕ) → label_escapes.is_mark b ≡ true → b < 128
mark_low b e = by (b == 92) (b == 34) (b == 10) refl refl refl e
  where
    by : (x y z : Bool) → (b == 92) ≡ x → (b == 34) ≡ y → (b == 10) ≡ z → ((x || y) || z) ≡ true → b < 128
    by true y z is other last h = let same : b ≡ 92 = eqb-true b 92 is in omega arith
    by false true z is other last h = let same : b ≡ 34 = eqb-true b 34 other in omega arith
    by false false true is other last h = let same : b ≡ 10 = eqb-true b 10 last in omega arith
    by false false false is other last h = absurd cc

written_low : (b : ℕ) → b < 128 → label_escapes.written b < 128
written_low b low = elim (b == 10) as (λ t. cond t 110 b < 128) [ true ↦ omega arith | false ↦ low ]

label_ascii : AreAscii label_escapes
label_ascii = record { marks = mark_low; written = written_low }

-- ---- lines

label_utf8 : (tag : Tag) → IsLabelTag tag → IsUtf8 (label_text (written_tag tag))
label_utf8 tag is =
    IsUtf8-append tag.0 _ (name_utf8 ends_label (alphabet_low Labels) tag.0 (is.name).clean)
    (first_ascii 61 _ (omega arith) (first_ascii 34 _ (omega arith)
    (IsUtf8-append (escaped label_escapes tag.1) (34 ∷ []) (escaped_utf8 label_escapes label_ascii tag.1 is.utf8)
    (one_ascii 34 (omega arith)))))

more_utf8 : (tags : List Tag) → AllByRecursion IsLabelTag tags → IsUtf8 (more_labels_text (map written_tag tags))
more_utf8 [] h = IsUtf8-nil
more_utf8 (tag ∷ tags) h = first_ascii 44 _ (omega arith) (IsUtf8-append (label_text (written_tag tag))
    (more_labels_text (map written_tag tags)) (label_utf8 tag h.0) (more_utf8 tags h.1))

braces_utf8 : (tags : List Tag) → AllByRecursion IsLabelTag tags → IsUtf8 (braces_text (in_braces tags))
braces_utf8 [] h = IsUtf8-nil
braces_utf8 (tag ∷ tags) h =
    first_ascii 123 _ (omega arith) (IsUtf8-append (labels_text (map written_tag (tag ∷ tags))) (125 ∷ [])
    (IsUtf8-append (label_text (written_tag tag)) (more_labels_text (map written_tag tags)) (label_utf8 tag h.0)
    (more_utf8 tags h.1)) (one_ascii 125 (omega arith)))

sample_utf8 : (point : Point) → IsPoint point → IsUtf8 (with_newline (SampleLine (sample_of point)))
sample_utf8 point is =
    let number = value_number point.value is.value is.no_text in
    let time = canonical_number point.time (time_range point.time is.time) in
    IsUtf8-append (sample_text (sample_of point)) (10 ∷ [])
    (IsUtf8-append point.family _ (name_utf8 ends_name (alphabet_low Samples) point.family (is.family).clean)
    (IsUtf8-append (braces_text (in_braces point.labels)) _ (braces_utf8 point.labels is.labels)
    (first_ascii 32 _ (omega arith) (IsUtf8-append (number_text point.value) _
    (number_utf8 (number_text point.value) number)
    (first_ascii 32 _ (omega arith) (IsUtf8-append (canonical_text point.time) []
    (number_utf8 (canonical_text point.time) time) IsUtf8-nil))))))
    (one_ascii 10 (omega arith))

type_utf8 : (family : List ℕ) → HasNone ends_name family → IsUtf8 (with_newline (TypeLine family (codes "unknown")))
type_utf8 family is =
    IsUtf8-append (line_text (TypeLine family (codes "unknown"))) (10 ∷ [])
    (IsUtf8-append (codes "# TYPE ") _ (clean_words (codes "# TYPE ") (search rules))
    (IsUtf8-append family (codes " unknown") (name_utf8 ends_name (alphabet_low Samples) family is)
    (clean_words (codes " unknown") (search rules))))
    (one_ascii 10 (omega arith))
  where
    clean_words : (text : List ℕ) → AllByRecursion (λ b. b < 128) text → IsUtf8 text
    clean_words [] h = IsUtf8-nil
    clean_words (b ∷ text) h = first_ascii b text h.0 (clean_words text h.1)

abbrev pub AreUtf8 : List WrittenLine → Type 0
AreUtf8 = AllByRecursion (λ line. IsUtf8 (with_newline line))

pub samples_utf8 : (points : List Point) → AllByRecursion IsPoint points → AreUtf8 (sample_lines points)
samples_utf8 [] h = tt
samples_utf8 (point ∷ points) h = (sample_utf8 point h.0, samples_utf8 points h.1)

pub type_lines_utf8 : (family : List ℕ) (points : List Point) → HasNone ends_name family → AllByRecursion IsPoint points
    → AreUtf8 (TypeLine family (codes "unknown") ∷ sample_lines points)
type_lines_utf8 family points is h = (type_utf8 family is, samples_utf8 points h)

pub lines_utf8 : (lines : List WrittenLine) → AreUtf8 lines → IsUtf8 (exposition_text lines true)
lines_utf8 [] h = words_utf8
  where
    words_utf8 : IsUtf8 (35 ∷ 32 ∷ 69 ∷ 79 ∷ 70 ∷ 10 ∷ [])
    words_utf8 = first_ascii 35 _ (omega arith) (first_ascii 32 _ (omega arith)
        (first_ascii 69 _ (omega arith) (first_ascii 79 _ (omega arith)
        (first_ascii 70 _ (omega arith) (one_ascii 10 (omega arith))))))
lines_utf8 (line ∷ lines) h = subst IsUtf8 (sym (append_assoc (with_newline line) (flat_map with_newline lines)
    (codes "# EOF\n"))) (IsUtf8-append (with_newline line) (exposition_text lines true) h.0 (lines_utf8 lines h.1))

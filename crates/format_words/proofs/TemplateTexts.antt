-- Templates as they are written.
use Rattle.std.proofs.Common.{◌≡◌, ℕ, ◌<◌, Bool, true, false, cond, List, [], ◌∷◌, ◌++◌, length, map, Result, Ok, Err}
use Rattle.std.proofs.Common.{Option, Some, None, refl, sym, ap, subst, ◌∙◌, append_assoc, arith}
use Rattle.std.specs.Prelude.{◌==◌, ◌||◌, codes}
use Rattle.std.specs.List.{AllByRecursion, join_with_byte, list_any, slice_split}
use Rattle.std.specs.Str.{bytes_eq}
use Rattle.std.proofs.lemmas.Bool.{ne_eqb, eqb-true, or_parts}
use Rattle.std.proofs.lemmas.List.{append-nil}
use Rattle.std.proofs.lemmas.List.Splits.{join_with_byte-slice_split}
use Rattle.std.proofs.lemmas.Slice.Eq.{bytes_eq-Decides}
use Rattle.text_parts.specs.Grammar.{HasNone}
use Rattle.text_parts.specs.Pairs.{pair_text}
use Rattle.text_parts.specs.Split.{is_byte, placed, parts_of, each, AllLack}
use Rattle.text_parts.proofs.Splits.{joined_are_split, parts_none, split_none, split_found}
use Rattle.metric.specs.Draft.{Tag}
use Rattle.format_words.specs.declared.fault.ShapeFault.{ShapeFault}
use Rattle.format_words.specs.declared.fault.ShapeFault.TheVariants.{Malformed}
use Rattle.format_words.specs.declared.template.TemplatePart.{TemplatePart}
use Rattle.format_words.specs.declared.template.TemplatePart.TheVariants as parts
use Rattle.format_words.specs.Segments.{segments_of, pairs_of}
use Rattle.format_words.specs.Template.{Shape, tag_part, template_part, has_early_star, template_parts, TemplateWords}
use Rattle.format_words.specs.Template.{has_equals, words_as, filter_of, shape_of, template_of}
use Rattle.format_words.specs.Grammar.{AreSegments, segments_text, IsPair, part_text, is_word, IsPartText, parts_text}
use Rattle.format_words.specs.Grammar.{filter_text, pairs_line, tags_text, template_spelling, IsFilter, IsLast}
use Rattle.format_words.specs.Grammar.{IsTemplateText, SpelledIsTemplate, TemplateIsSpelled}
use Rattle.text_parts.proofs.Founds.{bind_ok, same_ok, some_of}
use Rattle.format_words.proofs.Filled.{test_ok}
use Rattle.format_words.proofs.Spelling.{each_read, each_written, segments_read, segments_written, pairs_read, ArePairs}
use Rattle.format_words.proofs.Spelling.{pairs_written, split_some}

-- ---- parts

part_read : (offset : ℕ) (part : TemplatePart) → IsPartText part → template_part (offset, part_text part) ≡ Ok part
unfolding template_part
part_read offset parts.Measurement is = refl
part_read offset parts.AllMeasurement is = refl
part_read offset parts.Field is = refl
part_read offset parts.AllField is = refl
part_read offset parts.Skipped is = refl
part_read offset (parts.Tag name) is =
    let first = or_parts (bytes_eq name (codes "measurement")) _ is.2 in
    let second = or_parts (bytes_eq name (codes "measurement*")) _ first.1 in
    let third = or_parts (bytes_eq name (codes "field")) (bytes_eq name (codes "field*")) second.1 in
    let some : (length name == 0) ≡ false = ne_eqb (length name) 0 (λ e. absurd (omega (arith, is.0))) in
    rw (first.0, second.0, third.0, third.1, some, is.1) refl

-- a part that a text is
IsTextOf : List ℕ → TemplatePart → Type 0
IsTextOf text part = (text ≡ part_text part) × IsPartText part

none_left : (text : List ℕ) → (length text == 0) ≡ true → text ≡ []
none_left [] e = refl
none_left (b ∷ bs) e = let none : length (b ∷ bs) ≡ 0 = eqb-true (length (b ∷ bs)) 0 e in absurd (omega (arith, none))

tag_written : (text : List ℕ) (part : TemplatePart) → is_word text ≡ false → tag_part text ≡ Ok part
    → IsTextOf text part
unfolding IsTextOf
tag_written text part word e = at (length text == 0) refl e
  where
    at : (t : Bool) → (length text == 0) ≡ t → cond t (Ok parts.Skipped)
        (cond (list_any (is_byte 42) text) (Err Malformed) (Ok (parts.Tag text))) ≡ Ok part
        → (text ≡ part_text part) × IsPartText part
    at true is e = subst (λ (p : TemplatePart). (text ≡ part_text p) × IsPartText p)
        (same_ok {F = ShapeFault} parts.Skipped part e) (none_left text is, tt)
    at false is e =
        let test = test_ok (list_any (is_byte 42) text) (Ok (parts.Tag text)) part e in
        subst (λ (p : TemplatePart). (text ≡ part_text p) × IsPartText p)
        (same_ok {F = ShapeFault} (parts.Tag text) part test.1) (refl, (some_of text is, test.0, word))

named : (word text : List ℕ) (is part : TemplatePart) → bytes_eq text word ≡ true → part_text is ≡ word → IsPartText is
    → (let r : Result TemplatePart ShapeFault = Ok is in r) ≡ Ok part → IsTextOf text part
unfolding IsTextOf
named word text is part same spelled fine e =
    subst (λ (p : TemplatePart). (text ≡ part_text p) × IsPartText p) (same_ok {F = ShapeFault} is part e)
    ((bytes_eq-Decides text word).0 same ∙ sym spelled, fine)

part_written : (offset : ℕ) (text : List ℕ) (part : TemplatePart) → template_part (offset, text) ≡ Ok part
    → (text ≡ part_text part) × IsPartText part
unfolding template_part IsTextOf
part_written offset text part e = at_name (bytes_eq text (codes "measurement")) refl e
  where
    at_key_star : (t : Bool) → bytes_eq text (codes "field*") ≡ t → (t ≡ false → is_word text ≡ false)
        → cond t (Ok parts.AllField) (tag_part text) ≡ Ok part → IsTextOf text part
    at_key_star true is word e = named (codes "field*") text parts.AllField part is refl tt e
    at_key_star false is word e = tag_written text part (word refl) e

    at_key : (t : Bool) → bytes_eq text (codes "field") ≡ t → (t ≡ false → bytes_eq text (codes "field*") ≡ false
        → is_word text ≡ false)
        → cond t (Ok parts.Field) (cond (bytes_eq text (codes "field*")) (Ok parts.AllField) (tag_part text)) ≡ Ok part
        → IsTextOf text part
    at_key true is word e = named (codes "field") text parts.Field part is refl tt e
    at_key false is word e = at_key_star (bytes_eq text (codes "field*")) refl (word refl) e

    at_name_star : (t : Bool) → bytes_eq text (codes "measurement*") ≡ t
        → (t ≡ false → bytes_eq text (codes "field") ≡ false → bytes_eq text (codes "field*") ≡ false
        → is_word text ≡ false)
        → cond t (Ok parts.AllMeasurement) (cond (bytes_eq text (codes "field")) (Ok parts.Field)
        (cond (bytes_eq text (codes "field*")) (Ok parts.AllField) (tag_part text))) ≡ Ok part → IsTextOf text part
    at_name_star true is word e = named (codes "measurement*") text parts.AllMeasurement part is refl tt e
    at_name_star false is word e = at_key (bytes_eq text (codes "field")) refl (word refl) e

    at_name : (t : Bool) → bytes_eq text (codes "measurement") ≡ t
        → cond t (Ok parts.Measurement) (cond (bytes_eq text (codes "measurement*")) (Ok parts.AllMeasurement)
        (cond (bytes_eq text (codes "field")) (Ok parts.Field)
        (cond (bytes_eq text (codes "field*")) (Ok parts.AllField) (tag_part text)))) ≡ Ok part → IsTextOf text part
    at_name true is e = named (codes "measurement") text parts.Measurement part is refl tt e
    at_name false is e = at_name_star (bytes_eq text (codes "measurement*")) refl (λ b c d. rw (is, b, c, d) refl) e

parts_read_at : (all : List TemplatePart) → 0 < length all → AllByRecursion IsPartText all
    → AllLack 46 (map part_text all) → has_early_star all ≡ false → template_parts (parts_text all) ≡ Ok all
unfolding template_parts parts_of
parts_read_at [] some are dots star = absurd (omega arith)
parts_read_at (part ∷ all) some are dots star =
    rw (
      joined_are_split 46 (part_text part) (map part_text all) dots,
      each_read template_part part_text IsPartText part_read 0 (part ∷ all) are,
      star,
    ) refl

-- parts as they are written
record AreParts (text : List ℕ) (all : List TemplatePart) : Type 0 where
  some : 0 < length all
  is : text ≡ parts_text all
  parts : AllByRecursion IsPartText all
  dots : AllLack 46 (map part_text all)
  star : has_early_star all ≡ false

mapped_some : (all : List TemplatePart) → 0 < length (map part_text all) → 0 < length all
mapped_some [] lt = lt
mapped_some (part ∷ all) lt = omega arith

parts_written : (text : List ℕ) (all : List TemplatePart) → template_parts text ≡ Ok all → AreParts text all
unfolding template_parts parts_of
parts_written text all e =
    let read = bind_ok (each template_part (placed 0 (slice_split (is_byte 46) text))) _ all e in
    let test = test_ok (has_early_star read.0) (Ok read.0) all read.2 in
    let written = each_written template_part part_text IsPartText part_written 0
    (slice_split (is_byte 46) text) read.0 read.1 in
    subst (AreParts text) (same_ok {F = ShapeFault} read.0 all test.1)
    (record {
      some = mapped_some read.0 (subst (λ (ts : List (List ℕ)). 0 < length ts) written.0 (split_some 46 text));
      is = sym (join_with_byte-slice_split 46 text) ∙ ap (join_with_byte 46) written.0;
      parts = written.1;
      dots = subst (AllLack 46) written.0 (parts_none (is_byte 46) text);
      star = test.0;
    })

-- ---- filters

filter_words : Option (List (List ℕ)) → Option (List ℕ)
filter_words None = None
filter_words (Some segments) = Some (segments_text segments)

filter_read : (filter : Option (List (List ℕ))) → IsFilter filter → filter_of (filter_words filter) ≡ Ok filter
unfolding filter_words
filter_read None is = refl
filter_read (Some segments) is = rw (segments_read segments is.0) refl

tags_words : List Tag → Option (List ℕ)
tags_words [] = None
tags_words (tag ∷ tags) = Some (pairs_line (tag ∷ tags))

tags_read : (tags : List Tag) → AllByRecursion IsPair tags → AllLack 44 (map pair_text tags)
    → pairs_of 44 (tags_words tags) ≡ Ok tags
unfolding tags_words
tags_read [] pairs commas = refl
tags_read (tag ∷ tags) pairs commas = pairs_read 44 tag tags pairs commas

words_of_shape : Shape → TemplateWords
words_of_shape shape = record {
  filter = filter_words shape.filter;
  template = parts_text shape.parts;
  tags = tags_words shape.tags;
}

shape_read : (shape : Shape) → IsTemplateText shape → shape_of (words_of_shape shape) ≡ Ok shape
unfolding shape_of words_of_shape
shape_read shape is =
    rw (
      filter_read shape.filter is.filter,
      parts_read_at shape.parts is.some is.parts is.dots is.star,
      tags_read shape.tags is.pairs is.commas,
    ) refl

-- ---- the words of a text

-- a joined list of pairs has an `=`
any_append : (p : ℕ → Bool) (xs ys : List ℕ) → list_any p ys ≡ true → list_any p (xs ++ ys) ≡ true
any_append p [] ys e = e
any_append p (x ∷ xs) ys e = elim (p x) as (λ t. (t || list_any p (xs ++ ys)) ≡ true)
    [ true ↦ refl | false ↦ any_append p xs ys e ]

any_front : (p : ℕ → Bool) (xs ys : List ℕ) → list_any p xs ≡ true → list_any p (xs ++ ys) ≡ true
any_front p [] ys e = absurd cc
any_front p (x ∷ xs) ys e = elim (p x) as (λ t. (t || list_any p xs) ≡ true → (t || list_any p (xs ++ ys)) ≡ true)
    [ true ↦ λ e. refl | false ↦ λ e. any_front p xs ys e ] e

pair_equals : (tag : Tag) → has_equals (pair_text tag) ≡ true
pair_equals tag = any_append (is_byte 61) tag.0 (61 ∷ tag.1) refl

pairs_equals : (tag : Tag) (tags : List Tag) → has_equals (pairs_line (tag ∷ tags)) ≡ true
pairs_equals tag [] = pair_equals tag
pairs_equals tag (next ∷ tags) = any_front (is_byte 61) (pair_text tag) (44 ∷ pairs_line (next ∷ tags))
    (pair_equals tag)

words_read : (filter : Option (List (List ℕ))) (text : List ℕ) (tags : List Tag) → IsFilter filter
    → HasNone (is_byte 32) text → IsLast tags text → HasNone (is_byte 32) (pairs_line tags)
    → words_as (placed 0 (slice_split (is_byte 32) (filter_text filter ++ (text ++ tags_text tags)))) ≡ Ok
    (record { filter = filter_words filter; template = text; tags = tags_words tags })
unfolding words_as filter_words tags_words
words_read None text [] f none last space = rw (append-nil text, split_none (is_byte 32) text none, last) refl
words_read None text (tag ∷ tags) f none last space =
    rw (
      split_found (is_byte 32) text 32 (pairs_line (tag ∷ tags)) none refl,
      split_none (is_byte 32) (pairs_line (tag ∷ tags)) space,
      pairs_equals tag tags,
    ) refl
words_read (Some segments) text [] f none last space =
    rw (
      append-nil text,
      append_assoc (segments_text segments) (32 ∷ []) text,
      split_found (is_byte 32) (segments_text segments) 32 text f.1 refl,
      split_none (is_byte 32) text none,
      last,
    ) refl
words_read (Some segments) text (tag ∷ tags) f none last space =
    rw (
      append_assoc (segments_text segments) (32 ∷ []) (text ++ (32 ∷ pairs_line (tag ∷ tags))),
      split_found (is_byte 32) (segments_text segments) 32 (text ++ (32 ∷ pairs_line (tag ∷ tags))) f.1 refl,
      split_found (is_byte 32) text 32 (pairs_line (tag ∷ tags)) none refl,
      split_none (is_byte 32) (pairs_line (tag ∷ tags)) space,
      pairs_equals tag tags,
    ) refl

pub spelled_is_template : SpelledIsTemplate
unfolding template_of parts_of words_of_shape
spelled_is_template shape is =
    rw (words_read shape.filter (parts_text shape.parts) shape.tags is.filter is.spaces is.last is.tag_spaces)
    (shape_read shape is)

-- ---- what is read is written

-- a filter is segments
abbrev AreFilter : Option (List (List ℕ)) → Type 0
AreFilter None = Unit {0}
AreFilter (Some segments) = AreSegments segments

-- words that are read as a template
record IsShape (words : TemplateWords) (shape : Shape) : Type 0 where
  filter : words.filter ≡ filter_words shape.filter
  segments : AreFilter shape.filter
  parts : AreParts words.template shape.parts
  tags : words.tags ≡ tags_words shape.tags
  pairs : AllByRecursion IsPair shape.tags
  commas : AllLack 44 (map pair_text shape.tags)

filter_written : (text : Option (List ℕ)) (filter : Option (List (List ℕ))) → filter_of text ≡ Ok filter
    → (text ≡ filter_words filter) × AreFilter filter
unfolding filter_words
filter_written None filter e = subst (λ (f : Option (List (List ℕ))). (None ≡ filter_words f) × AreFilter f)
    (same_ok {F = ShapeFault} None filter e) (refl, tt)
filter_written (Some text) filter e =
    let segments = bind_ok (segments_of text) _ filter e in
    let written = segments_written text segments.0 segments.1 in
    subst (λ (f : Option (List (List ℕ))). (Some text ≡ filter_words f) × AreFilter f)
    (same_ok {F = ShapeFault} (Some segments.0) filter segments.2)
    (ap (λ (t : List ℕ). Some t) written.0, written.1)

-- the tags of a word
record AreTags (text : Option (List ℕ)) (tags : List Tag) : Type 0 where
  is : text ≡ tags_words tags
  pairs : AllByRecursion IsPair tags
  commas : AllLack 44 (map pair_text tags)

tags_of_text : (text : List ℕ) (tags : List Tag) → ArePairs 44 text tags → AreTags (Some text) tags
unfolding tags_words
tags_of_text text [] are = absurd (omega (arith, are.some))
tags_of_text text (tag ∷ tags) are = record {
  is = ap (λ (t : List ℕ). Some t) are.is;
  pairs = are.pairs;
  commas = are.lack;
}

tags_written : (text : Option (List ℕ)) (tags : List Tag) → pairs_of 44 text ≡ Ok tags → AreTags text tags
unfolding tags_words
tags_written None tags e = subst (AreTags None) (same_ok {F = ShapeFault} [] tags e)
    (record { is = refl; pairs = tt; commas = tt })
tags_written (Some text) tags e = tags_of_text text tags (pairs_written 44 text tags e)

shape_written : (words : TemplateWords) (shape : Shape) → shape_of words ≡ Ok shape → IsShape words shape
unfolding shape_of
shape_written words shape e =
    let filter = bind_ok (filter_of words.filter) _ shape e in
    let all = bind_ok (template_parts words.template) _ shape filter.2 in
    let tags = bind_ok (pairs_of 44 words.tags) _ shape all.2 in
    let f = filter_written words.filter filter.0 filter.1 in
    let t = tags_written words.tags tags.0 tags.1 in
    subst (IsShape words) (same_ok {F = ShapeFault} (record { filter = filter.0; parts = all.0; tags = tags.0 }) shape
    tags.2)
    (record {
      filter = f.0;
      segments = f.1;
      parts = parts_written words.template all.0 all.1;
      tags = t.is;
      pairs = t.pairs;
      commas = t.commas;
    })

-- ---- a text and its words

front_of : Option (List ℕ) → List ℕ
front_of None = []
front_of (Some text) = text ++ 32 ∷ []

back_of : Option (List ℕ) → List ℕ
back_of None = []
back_of (Some text) = 32 ∷ text

Unspaced : Option (List ℕ) → Type 0
Unspaced None = Unit {0}
Unspaced (Some text) = HasNone (is_byte 32) text

LastOf : Option (List ℕ) → List ℕ → Type 0
LastOf None text = has_equals text ≡ false
LastOf (Some tags) text = Unit {0}

record WordsAre (text : List ℕ) (filter : Option (List ℕ)) (template : List ℕ) (tags : Option (List ℕ)) : Type 0 where
  is : text ≡ front_of filter ++ (template ++ back_of tags)
  filter_none : Unspaced filter
  none : HasNone (is_byte 32) template
  tags_none : Unspaced tags
  last : LastOf tags template

AreWordsOf : List ℕ → TemplateWords → Type 0
AreWordsOf text words = WordsAre text words.filter words.template words.tags

two_written : (a b : List ℕ) (words : TemplateWords) (t : Bool) → has_equals b ≡ t → HasNone (is_byte 32) a
    → HasNone (is_byte 32) b
    → cond {A = Result TemplateWords ShapeFault} t (Ok (record { filter = None; template = a; tags = Some b }))
    (Ok (record { filter = Some a; template = b; tags = None })) ≡ Ok words
    → AreWordsOf (a ++ (32 ∷ b)) words
unfolding AreWordsOf front_of back_of Unspaced LastOf
two_written a b words true is x y e =
    subst (AreWordsOf (a ++ (32 ∷ b))) (same_ok {F = ShapeFault} (record { filter = None; template = a; tags = Some b })
    words e)
    (record { is = refl; filter_none = tt; none = x; tags_none = y; last = tt })
two_written a b words false is x y e =
    subst (AreWordsOf (a ++ (32 ∷ b))) (same_ok {F = ShapeFault} (record { filter = Some a; template = b; tags = None })
    words e)
    (record {
      is = sym (append_assoc a (32 ∷ []) (b ++ []) ∙ ap (λ (t : List ℕ). a ++ (32 ∷ t)) (append-nil b));
      filter_none = x;
      none = y;
      tags_none = tt;
      last = is;
    })

words_written : (texts : List (List ℕ)) (words : TemplateWords) → AllLack 32 texts
    → words_as (placed 0 texts) ≡ Ok words → AreWordsOf (join_with_byte 32 texts) words
unfolding words_as AreWordsOf front_of back_of Unspaced LastOf
words_written [] words lack e = absurd cc
words_written (a ∷ []) words lack e = at (has_equals a) refl e
  where
    at : (t : Bool) → has_equals a ≡ t → cond {A = Result TemplateWords ShapeFault} t (Err Malformed)
        (Ok (record { filter = None; template = a; tags = None })) ≡ Ok words → AreWordsOf a words
    at true is e = absurd cc
    at false is e =
        subst (AreWordsOf a) (same_ok {F = ShapeFault} (record { filter = None; template = a; tags = None }) words e)
        (record { is = sym (append-nil a); filter_none = tt; none = lack.0; tags_none = tt; last = is })
words_written (a ∷ b ∷ []) words lack e = two_written a b words (has_equals b) refl lack.0 lack.1.0 e
words_written (a ∷ b ∷ c ∷ []) words lack e = at (has_equals c) e
  where
    at : (t : Bool) → cond {A = Result TemplateWords ShapeFault} t
        (Ok (record { filter = Some a; template = b; tags = Some c })) (Err Malformed) ≡ Ok words
        → AreWordsOf (a ++ (32 ∷ (b ++ (32 ∷ c)))) words
    at true e =
        subst (AreWordsOf (a ++ (32 ∷ (b ++ (32 ∷ c))))) (same_ok {F = ShapeFault}
        (record { filter = Some a; template = b; tags = Some c }) words e)
        (record {
          is = sym (append_assoc a (32 ∷ []) (b ++ (32 ∷ c)));
          filter_none = lack.0;
          none = lack.1.0;
          tags_none = lack.1.1.0;
          last = tt;
        })
    at false e = absurd cc
words_written (a ∷ b ∷ c ∷ d ∷ texts) words lack e = absurd cc

-- the text of a filter, a template and tags
record Spells (text : List ℕ) (filter : Option (List (List ℕ))) (template : List ℕ) (tags : List Tag) : Type 0 where
  is : text ≡ filter_text filter ++ (template ++ tags_text tags)
  filter_is : IsFilter filter
  none : HasNone (is_byte 32) template
  last : IsLast tags template
  tags_none : HasNone (is_byte 32) (pairs_line tags)

spells : (text : List ℕ) (filter : Option (List (List ℕ))) (template : List ℕ) (tags : List Tag)
    → WordsAre text (filter_words filter) template (tags_words tags) → AreFilter filter
    → Spells text filter template tags
unfolding filter_words tags_words front_of back_of Unspaced LastOf
spells text None template [] w f = record { is = w.is; filter_is = tt; none = w.none; last = w.last; tags_none = tt }
spells text None template (tag ∷ tags) w f = record {
  is = w.is;
  filter_is = tt;
  none = w.none;
  last = tt;
  tags_none = w.tags_none;
}
spells text (Some segments) template [] w f = record {
  is = w.is;
  filter_is = (f, w.filter_none);
  none = w.none;
  last = w.last;
  tags_none = tt;
}
spells text (Some segments) template (tag ∷ tags) w f = record
    { is = w.is; filter_is = (f, w.filter_none); none = w.none; last = tt; tags_none = w.tags_none }

text_spelled : (text : List ℕ) (words : TemplateWords) (shape : Shape) → AreWordsOf text words → IsShape words shape
    → (text ≡ template_spelling shape) × IsTemplateText shape
unfolding AreWordsOf
text_spelled text words shape w is =
    let one : WordsAre text (filter_words shape.filter) words.template words.tags =
    subst (λ (f : Option (List ℕ)). WordsAre text f words.template words.tags) is.filter w in
    let two : WordsAre text (filter_words shape.filter) (parts_text shape.parts) words.tags =
    subst (λ (t : List ℕ). WordsAre text (filter_words shape.filter) t words.tags) is.parts.is one in
    let all : WordsAre text (filter_words shape.filter) (parts_text shape.parts) (tags_words shape.tags) =
    subst (λ (t : Option (List ℕ)). WordsAre text (filter_words shape.filter) (parts_text shape.parts) t) is.tags two in
    let s = spells text shape.filter (parts_text shape.parts) shape.tags all is.segments in (
      s.is,
      record {
        filter = s.filter_is;
        some = is.parts.some;
        parts = is.parts.parts;
        dots = is.parts.dots;
        spaces = s.none;
        star = is.parts.star;
        last = s.last;
        pairs = is.pairs;
        commas = is.commas;
        tag_spaces = s.tags_none;
      },
    )

pub template_is_spelled : TemplateIsSpelled
unfolding template_of parts_of
template_is_spelled text shape e =
    let words = bind_ok (words_as (placed 0 (slice_split (is_byte 32) text))) _ shape e in
    let written = words_written (slice_split (is_byte 32) text) words.0 (parts_none (is_byte 32) text) words.1 in
    text_spelled text words.0 shape (subst (λ (t : List ℕ). AreWordsOf t words.0)
    (join_with_byte-slice_split 32 text) written) (shape_written words.0 shape words.2)

-- What is read as a sample is written as one.
use Rattle.std.proofs.Common.{◌≡◌, ℕ, zero, suc, ◌+◌, ◌<◌, ◌≤◌, Bool, true, false, cond, List, [], ◌∷◌, ◌++◌, length}
use Rattle.std.proofs.Common.{get_or, take, drop, Result, Ok, refl, sym, ap, subst, ◌∙◌, arith, append_assoc}
use Rattle.std.specs.Prelude.{◌||◌, ◌==◌, not}
use Rattle.std.specs.List.{position_or_len}
use Rattle.std.specs.Char.{is_ascii_digit}
use Rattle.std.proofs.lemmas.Bool.{eqb-true, eqb-false, and_parts, or_parts}
use Rattle.std.proofs.lemmas.List.{get_or-take, length-take}
use Rattle.text_parts.specs.Chain.{◌>>=◌}
use Rattle.text_parts.specs.Part.{is_escape}
use Rattle.text_parts.specs.Grammar.{Mark, Escaped, Bare, spelled, meant, IsPart}
use Rattle.text_parts.specs.Many.{many_at, items_at}
use Rattle.text_parts.proofs.Founds.{bind_ok, chosen_ok, taken_ok, ok_pair, not_false}
use Rattle.text_parts.proofs.Stands.{Spans, joins, none_spans, byte_spans, front_spans, part_again}
use Rattle.text_parts.proofs.Spans.{position_or_len_le}
use Rattle.text_parts.proofs.Splits.{before_none}
use Rattle.metric.specs.Draft.{Tag}
use Rattle.openmetrics_text.specs.declared.fault.ExpositionKind.{ExpositionKind}
use Rattle.openmetrics_text.specs.Names.{ends_label, name_len}
use Rattle.openmetrics_text.specs.Labels.{value_part, label_len, is_opened_at, label_name_at, label_value_at, label_at}
use Rattle.openmetrics_text.specs.Labels.{some_labels_at, has_twice, names_of, closed_at, labels_at}
use Rattle.openmetrics_text.specs.Grammar.{label_text, more_labels_text, labels_text, IsName, IsLabel, AreLabels}

-- ---- names

pub found_name : (ends : ℕ → Bool) (text : List ℕ) → (name_len ends text == 0) ≡ false
    → IsName ends (take (name_len ends text) text) × (name_len ends text ≤ length text)
unfolding name_len
found_name ends text some = elim (is_ascii_digit (get_or text 0 0)) as
    (λ t. is_ascii_digit (get_or text 0 0) ≡ t → (cond t 0 (position_or_len ends text) == 0) ≡ false
    → IsName ends (take (cond t 0 (position_or_len ends text)) text)
    × (cond t 0 (position_or_len ends text) ≤ length text)) [
      | true ↦ λ digit e. absurd (never e)
      | false ↦ λ no_digit e.
          let filled : 0 < position_or_len ends text = omega (arith, eqb-false (position_or_len ends text) 0 e) in
          let within : position_or_len ends text ≤ length text = position_or_len_le ends text in (
            record {
              filled = omega (arith, length-take (position_or_len ends text) text);
              no_digit = ap is_ascii_digit (get_or-take (position_or_len ends text) text 0 0 filled) ∙ no_digit;
              clean = before_none ends text;
            },
            within,
          )
    ] refl some
  where
    never : true ≡ false → ⊥
    never e = absurd cc

-- ---- labels

-- a label's name with what stands behind it
record NameRead (line : List ℕ) (i j : ℕ) (name : List ℕ) : Type 0 where
  is : IsName ends_label name
  spans : Spans line i j (name ++ 61 ∷ 34 ∷ [])

label_name_again : (line : List ℕ) (i j : ℕ) (name : List ℕ) → i ≤ length line → label_name_at line i ≡ Ok (name, j)
    → NameRead line i j name
unfolding label_name_at
label_name_again line i j name le e =
    let ok = chosen_ok (label_len line i == 0 || not (is_opened_at line (i + label_len line i))) _ _ _ e in
    let both = or_parts (label_len line i == 0) (not (is_opened_at line (i + label_len line i))) ok.0 in
    let opened = and_parts (get_or line (i + label_len line i) 0 == 61) (get_or line (i + label_len line i + 1) 0 == 34)
    (not_false (is_opened_at line (i + label_len line i)) both.1) in
    let equals = byte_spans line (i + label_len line i) 61 (omega arith)
    (eqb-true (get_or line (i + label_len line i) 0) 61 opened.0) in
    let quote = byte_spans line (i + label_len line i + 1) 34 (omega arith)
    (eqb-true (get_or line (i + label_len line i + 1) 0) 34 opened.1) in
    let front = front_spans line i (label_len line i) (omega (arith, equals.within)) in
    let marks = joins line (i + label_len line i) (i + label_len line i + 1) (i + label_len line i + 1 + 1) (61 ∷ [])
    (34 ∷ []) equals quote in
    let whole = joins line i (i + label_len line i) (i + label_len line i + 1 + 1)
    (take (label_len line i) (drop i line)) (61 ∷ 34 ∷ []) front marks in
    let pair = ok_pair (take (label_len line i) (drop i line)) name (i + label_len line i + 2) j ok.1 in
    let offset : i + label_len line i + 1 + 1 ≡ j = omega (arith, pair.1) in
    record {
      is = subst (IsName ends_label) pair.0 (found_name ends_label (drop i line) both.0).0;
      spans = subst (λ (n : List ℕ). Spans line i j (n ++ 61 ∷ 34 ∷ [])) pair.0
          (subst (λ (m : ℕ). Spans line i m (take (label_len line i) (drop i line) ++ 61 ∷ 34 ∷ [])) offset whole);
    }

-- what follows a double quote is no matter
quote_escape : (rest : List ℕ) → is_escape value_part (34 ∷ rest) ≡ false
quote_escape [] = refl
quote_escape (c ∷ rest) = refl

same_escape : (b : ℕ) (marks : List Mark) (rest other : List ℕ)
    → is_escape value_part (b ∷ (spelled marks ++ 34 ∷ rest)) ≡ is_escape value_part (b ∷ (spelled marks ++ 34 ∷ other))
same_escape b [] rest other = refl
same_escape b (Escaped c ∷ marks) rest other = refl
same_escape b (Bare c ∷ marks) rest other = refl

part_any : (marks : List Mark) (rest other : List ℕ) → IsPart value_part marks (34 ∷ rest)
    → IsPart value_part marks (34 ∷ other)
part_any [] rest other h = (refl, quote_escape other)
part_any (Escaped c ∷ marks) rest other h = (h.0, part_any marks rest other h.1)
part_any (Bare b ∷ marks) rest other h = (h.0, same_escape b marks other rest ∙ h.1, part_any marks rest other h.2)

-- a label's value with its last double quote
record ValueRead (line : List ℕ) (i j : ℕ) (value : List ℕ) : Type 0 where
  marks : List Mark
  part : (rest : List ℕ) → IsPart value_part marks (34 ∷ rest)
  says : value ≡ meant value_part marks
  spans : Spans line i j (spelled marks ++ 34 ∷ [])

label_value_again : (line : List ℕ) (i j : ℕ) (value : List ℕ) → i ≤ length line → label_value_at line i ≡ Ok (value, j)
    → ValueRead line i j value
unfolding label_value_at
label_value_again line i j value le e =
    let part = part_again value_part line i le in
    let read = rw (part.means, part.len) at e in
    let ok = taken_ok (get_or line (i + length (spelled part.marks)) 0 == 34) _ _ _ read in
    let closed = byte_spans line (i + length (spelled part.marks)) 34 (omega arith)
    (eqb-true (get_or line (i + length (spelled part.marks)) 0) 34 ok.0) in
    let pair = ok_pair (meant value_part part.marks) value (i + length (spelled part.marks) + 1) j ok.1 in
    let here : IsPart value_part part.marks (34 ∷ drop (i + length (spelled part.marks) + 1) line) =
    subst (IsPart value_part part.marks) closed.is part.part in
    record {
      marks = part.marks;
      part = λ rest. part_any part.marks (drop (i + length (spelled part.marks) + 1) line) rest here;
      says = sym pair.0;
      spans = subst (λ (m : ℕ). Spans line i m (spelled part.marks ++ 34 ∷ [])) pair.1
          (joins line i (i + length (spelled part.marks)) (i + length (spelled part.marks) + 1) (spelled part.marks)
          (34 ∷ []) part.spans closed);
    }

record LabelRead (line : List ℕ) (i j : ℕ) (label : Tag) : Type 0 where
  written : List ℕ × List ℕ
  is : IsLabel written label
  spans : Spans line i j (label_text written)

label_again : (line : List ℕ) (i j : ℕ) (label : Tag) → i ≤ length line → label_at line i ≡ Ok (label, j)
    → LabelRead line i j label
unfolding label_at
label_again line i j label le e =
    let n = bind_ok (label_name_at line i) _ (label, j) e in
    let name = label_name_again line i n.0.1 n.0.0 le n.1 in
    let v = bind_ok (label_value_at line n.0.1) _ (label, j) n.2 in
    let value = label_value_again line n.0.1 v.0.1 v.0.0 (name.spans).within v.1 in
    let same = ok_pair (n.0.0, v.0.0) label v.0.1 j v.2 in
    let both : Spans line i v.0.1 (label_text (n.0.0, spelled value.marks)) =
    subst (Spans line i v.0.1) (append_assoc n.0.0 (61 ∷ 34 ∷ []) (spelled value.marks ++ 34 ∷ []))
    (joins line i n.0.1 v.0.1 (n.0.0 ++ 61 ∷ 34 ∷ []) (spelled value.marks ++ 34 ∷ []) name.spans value.spans) in
    subst (λ (t : Tag). LabelRead line i j t) same.0 (subst (λ (m : ℕ). LabelRead line i m (n.0.0, v.0.0)) same.1
    (record {
      written = (n.0.0, spelled value.marks);
      is = record { name = name.is; same = refl; marks = value.marks; is = refl; part = value.part; says = value.says };
      spans = both;
    }))

record LabelsRead (line : List ℕ) (i j : ℕ) (labels : List Tag) : Type 0 where
  written : List (List ℕ × List ℕ)
  are : AreLabels written labels
  spans : Spans line i j (more_labels_text written)

no_more : (line : List ℕ) (i j : ℕ) (labels : List Tag) → i ≤ length line
    → (let r : Result (List Tag × ℕ) ExpositionKind = Ok ([], i) in r) ≡ Ok (labels, j) → LabelsRead line i j labels
no_more line i j labels le e =
    let same = ok_pair {F = ExpositionKind} [] labels i j e in
    subst (λ (ls : List Tag). LabelsRead line i j ls) same.0
    (subst (λ (m : ℕ). LabelsRead line i m []) same.1 (record { written = []; are = tt; spans = none_spans line i le }))

abbrev listed : Tag → List Tag × ℕ → Result (List Tag × ℕ) ExpositionKind
listed first others = Ok (first ∷ others.0, others.1)

many_again : (line : List ℕ) (n i j : ℕ) (labels : List Tag) → i ≤ length line
    → many_at label_at 44 n line i ≡ Ok (labels, j) → LabelsRead line i j labels
unfolding many_at
many_again line zero i j labels le e = no_more line i j labels le e
many_again line (suc n) i j labels le e =
    elim (get_or line i 0 == 44) as (λ t. (get_or line i 0 == 44) ≡ t
    → cond t (label_at line (i + 1) >>= λ first. many_at label_at 44 n line first.1 >>= λ others. listed first.0 others)
    (Ok ([], i)) ≡ Ok (labels, j) → LabelsRead line i j labels) [
      | true ↦ λ test e.
          let comma = byte_spans line i 44 (omega arith) (eqb-true (get_or line i 0) 44 test) in
          let f = bind_ok (label_at line (i + 1)) _ (labels, j) e in
          let first = label_again line (i + 1) f.0.1 f.0.0 comma.within f.1 in
          let o = bind_ok (many_at label_at 44 n line f.0.1) _ (labels, j) f.2 in
          let others = many_again line n f.0.1 o.0.1 o.0.0 (first.spans).within o.1 in
          let same = ok_pair (f.0.0 ∷ o.0.0) labels o.0.1 j o.2 in
          let all = joins line i (i + 1) o.0.1 (44 ∷ []) (label_text first.written ++ more_labels_text others.written)
          comma (joins line (i + 1) f.0.1 o.0.1 (label_text first.written) (more_labels_text others.written) first.spans
          others.spans) in
          subst (λ (ls : List Tag). LabelsRead line i j ls) same.0
          (subst (λ (m : ℕ). LabelsRead line i m (f.0.0 ∷ o.0.0)) same.1
          (record { written = first.written ∷ others.written; are = (first.is, others.are); spans = all }))
      | false ↦ λ test e. no_more line i j labels le e
    ] refl e

-- labels with braces around them, but for the first brace
pub record BracedRead (line : List ℕ) (i j : ℕ) (labels : List Tag) : Type 0 where
  pub written : List (List ℕ × List ℕ)
  pub are : AreLabels written labels
  pub distinct : has_twice [] (names_of labels) ≡ false
  pub spans : Spans line i j (labels_text written ++ 125 ∷ [])

no_labels : (line : List ℕ) (i j : ℕ) (labels : List Tag) → get_or line i 0 ≡ 125
    → (let r : Result (List Tag × ℕ) ExpositionKind = Ok ([], i + 1) in r) ≡ Ok (labels, j) → BracedRead line i j labels
unfolding has_twice
no_labels line i j labels closed e =
    let same = ok_pair {F = ExpositionKind} [] labels (i + 1) j e in
    subst (λ (ls : List Tag). BracedRead line i j ls) same.0
    (subst (λ (m : ℕ). BracedRead line i m []) same.1 (record
    { written = []; are = tt; distinct = refl; spans = byte_spans line i 125 (omega arith) closed }))

some_labels : (line : List ℕ) (i j : ℕ) (labels : List Tag) → i ≤ length line
    → (some_labels_at line i >>= closed_at line) ≡ Ok (labels, j) → BracedRead line i j labels
unfolding some_labels_at
some_labels line i j labels le e =
    let s = bind_ok (some_labels_at line i) (closed_at line) (labels, j) e in
    let f = bind_ok (label_at line i) _ s.0 s.1 in
    let first = label_again line i f.0.1 f.0.0 le f.1 in
    let o = bind_ok (items_at label_at 44 line f.0.1) _ s.0 f.2 in
    let others = many_again line (length line) f.0.1 o.0.1 o.0.0 (first.spans).within o.1 in
    let made = ok_pair (f.0.0 ∷ o.0.0) s.0.0 o.0.1 s.0.1 o.2 in
    let ok = chosen_ok (not (get_or line s.0.1 0 == 125) || has_twice [] (names_of s.0.0)) _ _ _ s.2 in
    let both = or_parts (not (get_or line s.0.1 0 == 125)) (has_twice [] (names_of s.0.0)) ok.0 in
    let same = ok_pair s.0.0 labels (s.0.1 + 1) j ok.1 in
    let closed = byte_spans line s.0.1 125 (omega arith) (eqb-true (get_or line s.0.1 0) 125
    (not_false (get_or line s.0.1 0 == 125) both.0)) in
    let front : Spans line i s.0.1 (labels_text (first.written ∷ others.written)) =
    subst (λ (m : ℕ). Spans line i m (labels_text (first.written ∷ others.written))) made.1
    (joins line i f.0.1 o.0.1 (label_text first.written) (more_labels_text others.written) first.spans others.spans) in
    subst (λ (ls : List Tag). BracedRead line i j ls) same.0
    (subst (λ (m : ℕ). BracedRead line i m s.0.0) same.1 (record {
      written = first.written ∷ others.written;
      are = subst (AreLabels (first.written ∷ others.written)) made.0 (first.is, others.are);
      distinct = both.1;
      spans = joins line i s.0.1 (s.0.1 + 1) (labels_text (first.written ∷ others.written)) (125 ∷ []) front closed;
    }))

pub labels_again : (line : List ℕ) (i j : ℕ) (labels : List Tag) → i ≤ length line → labels_at line i ≡ Ok (labels, j)
    → BracedRead line i j labels
unfolding labels_at
labels_again line i j labels le e =
    elim (get_or line i 0 == 125) as (λ t. (get_or line i 0 == 125) ≡ t
    → cond t (Ok ([], i + 1)) (some_labels_at line i >>= closed_at line) ≡ Ok (labels, j)
    → BracedRead line i j labels) [
      | true ↦ λ test e. no_labels line i j labels (eqb-true (get_or line i 0) 125 test) e
      | false ↦ λ test e. some_labels line i j labels le e
    ] refl e

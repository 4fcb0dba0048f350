-- What is read as an exposition is written as one.
use Rattle.std.proofs.Common.{◌≡◌, ℕ, ℤ, ◌+◌, ◌-◌, Bool, true, false, cond, List, [], ◌∷◌, ◌++◌, length, get_or, take}
use Rattle.std.proofs.Common.{take_all, drop, map, Result, Ok, Err, Option, Some, None, refl, sym, ap, subst, ◌∙◌}
use Rattle.std.proofs.Common.{arith, append_assoc, append-nil}
use Rattle.std.specs.Prelude.{◌==◌, ◌&&◌, not, codes, nat_lt}
use Rattle.std.specs.List.{flat_map, join_with_byte, slice_split, onto_first}
use Rattle.std.specs.Str.{bytes_eq, IsUtf8, is_utf8}
use Rattle.std.proofs.lemmas.Bool.{eqb-true, ltb-false, and_parts}
use Rattle.std.proofs.lemmas.List.{take-append-drop}
use Rattle.std.proofs.lemmas.Slice.Eq.{bytes_eq-Decides}
use Rattle.std.proofs.lemmas.Str.{IsUtf8-from_is_utf8}
use Rattle.text_parts.specs.Grammar.{HasNone}
use Rattle.text_parts.specs.Split.{is_byte, first_part, behind_first, placed, parts_of, each, AllLack}
use Rattle.text_parts.proofs.Splits.{cut_is_first, split_are_joined}
use Rattle.openmetrics_text.specs.declared.exposition.Exposition.{Exposition}
use Rattle.openmetrics_text.specs.declared.fault.ExpositionKind.{ExpositionKind}
use Rattle.std.specs.Str.Lossy.{utf8_valid_len}
use Rattle.openmetrics_text.specs.declared.fault.ExpositionKind.TheVariants.{NotUtf8}
use Rattle.openmetrics_text.specs.Faults.{fault, placed_at}
use Rattle.openmetrics_text.specs.Labels.{has_twice, names_of, labels_at}
use Rattle.openmetrics_text.specs.Lines.{LineSays, Typed, Nothing, Sampled, begins_with, type_word, help_word}
use Rattle.openmetrics_text.specs.Lines.{unit_word, is_type, typed, line_of, hash_line, type_line, about_line}
use Rattle.openmetrics_text.specs.Lines.{sample_line}
use Rattle.openmetrics_text.specs.Names.{ends_name, name_len, is_name}
use Rattle.openmetrics_text.specs.Reading.{ends_with, without_end, without_newline, before_last, lines_of, line_at}
use Rattle.openmetrics_text.specs.Reading.{exposition_of, lines_reading, ended_reading, text_reading, reading}
use Rattle.openmetrics_text.specs.Sample.{Head, braced, head_of, behind_space, is_exemplar, Shape, timed, numbered}
use Rattle.openmetrics_text.specs.Sample.{shape_of, number_of, time_of, is_out_of_range, number_said, time_said, Said}
use Rattle.openmetrics_text.specs.Sample.{limited, sample_of}
use Rattle.openmetrics_text.specs.Grammar.{WrittenSample, braces_text, labels_text, time_text, exemplar_text}
use Rattle.openmetrics_text.specs.Grammar.{sample_text, WrittenLine, TypeLine, HelpLine, UnitLine, OtherLine}
use Rattle.openmetrics_text.specs.Grammar.{SampleLine, line_text, with_newline, end_text, exposition_text}
use Rattle.openmetrics_text.specs.Grammar.{IsName, AreBraced, HasNoSpace, IsSample, IsLine, AreLines, ReadIsWritten}
use Rattle.text_parts.proofs.Founds.{bind_ok, chosen_ok, taken_ok, same_ok}
use Rattle.text_parts.proofs.Stands.{Spans, joins, byte_spans, front_spans}
use Rattle.openmetrics_text.proofs.Founds.{found_name, labels_again}
use Rattle.openmetrics_text.proofs.Spells.{joined}

-- ---- the head

pub record HeadRead (line : List ℕ) (head : Head) : Type 0 where
  pub braces : Option (List (List ℕ × List ℕ))
  pub name : IsName ends_name head.name
  pub labels : AreBraced braces head.labels
  pub distinct : has_twice [] (names_of head.labels) ≡ false
  pub spans : Spans line 0 head.behind (head.name ++ braces_text braces)

pub head_again : (line : List ℕ) (head : Head) → head_of line ≡ Ok head → HeadRead line head
unfolding head_of has_twice
head_again line head e =
    let n : ℕ = name_len ends_name line in
    let ok = chosen_ok (name_len ends_name line == 0) _ _ _ e in
    let fn = found_name ends_name line ok.0 in
    let front : Spans line 0 (name_len ends_name line) (take (name_len ends_name line) line) =
    subst (λ (m : ℕ). Spans line 0 m (take (name_len ends_name line) line)) (omega arith)
    (front_spans line 0 (name_len ends_name line) (omega (arith, fn.1))) in
    elim (get_or line (name_len ends_name line) 0 == 123) as (λ t. (get_or line (name_len ends_name line) 0 == 123) ≡ t
    → cond t (braced line (name_len ends_name line)) (Ok (record
    { name = take (name_len ends_name line) line; labels = []; behind = name_len ends_name line })) ≡ Ok head
    → HeadRead line head) [
      | true ↦ λ test e.
          let l = bind_ok (labels_at line (name_len ends_name line + 1)) _ head e in
          let brace = byte_spans line (name_len ends_name line) 123 (omega arith)
          (eqb-true (get_or line (name_len ends_name line) 0) 123 test) in
          let labels = labels_again line (name_len ends_name line + 1) l.0.1 l.0.0 brace.within l.1 in
          let same = same_ok (record { name = take (name_len ends_name line) line; labels = l.0.0; behind = l.0.1 })
          head l.2 in
          subst (λ (h : Head). HeadRead line h) same (record {
            braces = Some labels.written;
            name = fn.0;
            labels = labels.are;
            distinct = labels.distinct;
            spans = joins line 0 (name_len ends_name line) l.0.1 (take (name_len ends_name line) line)
                (123 ∷ (labels_text labels.written ++ 125 ∷ [])) front
                (joins line (name_len ends_name line) (name_len ends_name line + 1) l.0.1 (123 ∷ [])
                (labels_text labels.written ++ 125 ∷ []) brace labels.spans);
          })
      | false ↦ λ test e.
          let same = same_ok (record {
            name = take (name_len ends_name line) line;
            labels = [];
            behind =
                name_len ends_name line;
          }) head e in
          subst (λ (h : Head). HeadRead line h) same (record {
            braces = None;
            name = fn.0;
            labels = refl;
            distinct = refl;
            spans = subst (λ (t : List ℕ). Spans line 0 (name_len ends_name line) t)
                (sym (append-nil (take (name_len ends_name line) line))) front;
          })
    ] refl ok.1

-- ---- the number and the time

pub record ShapeRead (text : List ℕ) (shape : Shape) : Type 0 where
  pub exemplar : Option (List ℕ)
  pub number_whole : HasNone (is_byte 32) shape.number
  pub time_whole : HasNoSpace shape.time
  pub is : text ≡ shape.number ++ (time_text shape.time ++ exemplar_text exemplar)

exemplar_again : (text : List ℕ) → is_exemplar text ≡ true → text ≡ 35 ∷ 32 ∷ drop 2 text
exemplar_again text e =
    let both = and_parts (get_or text 0 0 == 35) (get_or text 1 0 == 32) e in
    let first = byte_spans text 0 35 (omega arith) (eqb-true (get_or text 0 0) 35 both.0) in
    let second = byte_spans text 1 32 (omega arith) (eqb-true (get_or text 1 0) 32 both.1) in
    first.is ∙ ap (λ (t : List ℕ). 35 ∷ t) second.is

record TimedRead (number time : List ℕ) (behind : Option (List ℕ)) (shape : Shape) : Type 0 where
  exemplar : Option (List ℕ)
  same : record { number = number; time = Some time } ≡ shape
  rest : behind_first 32 behind ≡ exemplar_text exemplar

timed_again : (number time : List ℕ) (behind : Option (List ℕ)) (shape : Shape) → timed number time behind ≡ Ok shape
    → TimedRead number time behind shape
timed_again number time None shape e = record {
  exemplar = None;
  same = same_ok (record { number = number; time = Some time }) shape e;
  rest = refl;
}
timed_again number time (Some rest) shape e =
    let ok = taken_ok (is_exemplar rest) _ _ _ e in
    record {
      exemplar = Some (drop 2 rest);
      same = same_ok (record { number = number; time = Some time }) shape ok.1;
      rest = ap (λ (t : List ℕ). 32 ∷ t) (exemplar_again rest ok.0);
    }

numbered_again : (text number : List ℕ) (behind : Option (List ℕ)) (shape : Shape) → HasNone (is_byte 32) number
    → text ≡ number ++ behind_first 32 behind → numbered number behind ≡ Ok shape → ShapeRead text shape
numbered_again text number None shape whole is e =
    let same = same_ok (record { number = number; time = None }) shape e in
    subst (λ (s : Shape). ShapeRead text s) same (record {
      exemplar = None;
      number_whole = whole;
      time_whole = tt;
      is = is;
    })
numbered_again text number (Some rest) shape whole is e =
    elim (is_exemplar rest) as (λ t. is_exemplar rest ≡ t → cond t (Ok (record { number = number; time = None }))
    (timed number (first_part 32 rest).0 (first_part 32 rest).1) ≡ Ok shape → ShapeRead text shape) [
      | true ↦ λ test e.
          let same = same_ok (record { number = number; time = None }) shape e in
          subst (λ (s : Shape). ShapeRead text s) same (record {
            exemplar = Some (drop 2 rest);
            number_whole = whole;
            time_whole = tt;
            is = is
                ∙ ap (λ (t : List ℕ). number ++ 32 ∷ t) (exemplar_again rest test);
          })
      | false ↦ λ test e.
          let cut = cut_is_first 32 rest in
          let t = timed_again number (first_part 32 rest).0 (first_part 32 rest).1 shape e in
          subst (λ (s : Shape). ShapeRead text s) t.same (record {
            exemplar = t.exemplar;
            number_whole = whole;
            time_whole = cut.1;
            is = is
                ∙ ap (λ (l : List ℕ). number ++ 32 ∷ l) (cut.0
                ∙ ap (λ (l : List ℕ). (first_part 32 rest).0 ++ l) t.rest);
          })
    ] refl e

pub shape_again : (text : List ℕ) (shape : Shape) → shape_of text ≡ Ok shape → ShapeRead text shape
unfolding shape_of
shape_again text shape e = let cut = cut_is_first 32 text in
    numbered_again text (first_part 32 text).0 (first_part 32 text).1 shape cut.1 cut.0 e

-- ---- a sample

record SampleRead (passing : Bool) (line : List ℕ) (said : Said) : Type 0 where
  written : WrittenSample
  text : sample_text written ≡ line
  is : IsSample passing written said

-- what isn't passed over is in range
within_range : (passing out : Bool) → (out && not passing) ≡ false → passing ≡ false → out ≡ false
within_range passing false e p = refl
within_range true true e p = absurd cc
within_range false true e p = absurd cc

sample_again : (passing : Bool) (line : List ℕ) (said : Said) → sample_of passing line ≡ Ok said
    → SampleRead passing line said
unfolding sample_of limited behind_space
sample_again passing line said e =
    let h = bind_ok (head_of line) _ said e in
    let head = head_again line h.0 h.1 in
    let s = bind_ok (behind_space line (h.0).behind) _ said h.2 in
    let space = taken_ok (get_or line (h.0).behind 0 == 32) _ _ _ s.1 in
    let rest = same_ok (drop ((h.0).behind + 1) line) s.0 space.1 in
    let byte = byte_spans line (h.0).behind 32 (omega arith) (eqb-true (get_or line (h.0).behind 0) 32 space.0) in
    let sh = bind_ok (shape_of s.0) _ said s.2 in
    let shape = shape_again s.0 sh.0 sh.1 in
    let nu = bind_ok (number_of (sh.0).number) _ said sh.2 in
    let ti = bind_ok (time_of (sh.0).time) _ said nu.2 in
    let range = chosen_ok (is_out_of_range (number_said nu.0 ti.0) && not passing) _ _ _ ti.2 in
    let few = chosen_ok (nat_lt 64 (length (h.0).labels)) _ _ _ range.1 in
    let same = same_ok (record {
      name = (h.0).name;
      labels = (h.0).labels;
      number = number_said nu.0 ti.0;
      time =
          time_said ti.0;
    }) said few.1 in
    let behind : drop (h.0).behind line ≡ 32 ∷ ((sh.0).number
    ++ (time_text (sh.0).time ++ exemplar_text shape.exemplar)) = byte.is
    ∙ ap (λ (t : List ℕ). 32 ∷ t) (rest ∙ shape.is) in
    let whole : line ≡ (h.0).name ++ (braces_text head.braces
    ++ 32 ∷ ((sh.0).number ++ (time_text (sh.0).time ++ exemplar_text shape.exemplar))) =
    (head.spans).is ∙ ap (λ (t : List ℕ). ((h.0).name ++ braces_text head.braces) ++ t) behind
    ∙ append_assoc (h.0).name (braces_text head.braces) (32 ∷
    ((sh.0).number ++ (time_text (sh.0).time ++ exemplar_text shape.exemplar))) in
    subst (λ (x : Said). SampleRead passing line x) same (record {
      written = record {
        name = (h.0).name;
        labels = head.braces;
        number = (sh.0).number;
        time = (sh.0).time;
        exemplar = shape.exemplar;
      };
      text = sym whole;
      is = record {
        name = head.name;
        same = refl;
        labels = head.labels;
        distinct = head.distinct;
        few = ltb-false 64 (length (h.0).labels) few.0;
        number_whole = shape.number_whole;
        time_whole = shape.time_whole;
        number = nu.0;
        is_number = nu.1;
        time = ti.0;
        is_time = ti.1;
        in_range = within_range passing (is_out_of_range (number_said nu.0 ti.0)) range.0;
        number_is = refl;
        time_is = refl;
      };
    })

-- ---- a line

record LineRead (passing : Bool) (text : List ℕ) (says : LineSays) : Type 0 where
  written : WrittenLine
  same : line_text written ≡ text
  is : IsLine passing written says

name_again : (name : List ℕ) → is_name name ≡ true → IsName ends_name name
name_again name e =
    let both = and_parts (name_len ends_name name == length name) (not (length name == 0)) e in
    let len = eqb-true (name_len ends_name name) (length name) both.0 in
    let some : (name_len ends_name name == 0) ≡ false = ap (λ (n : ℕ). n == 0) len
    ∙ not_true (length name == 0) both.1 in
    subst (IsName ends_name) (take_all (name_len ends_name name) name (omega (arith, len)))
    (found_name ends_name name some).0
  where
    not_true : (t : Bool) → not t ≡ true → t ≡ false
    not_true true e = absurd cc
    not_true false e = refl

word_again : (word text : List ℕ) → begins_with word text ≡ true → word ++ drop (length word) text ≡ text
word_again word text e = ap (λ (t : List ℕ). t ++ drop (length word) text)
    (sym ((bytes_eq-Decides (take (length word) text) word).0 e)) ∙ take-append-drop (length word) text

record TypeRead (text : List ℕ) (says : LineSays) : Type 0 where
  name : List ℕ
  kind : List ℕ
  same : name ++ 32 ∷ kind ≡ text
  named : IsName ends_name name
  is : is_type kind ≡ true
  said : says ≡ Typed name kind

type_again : (text : List ℕ) (says : LineSays) → type_line text ≡ Ok says → TypeRead text says
unfolding type_line
type_again text says e =
    let cut = cut_is_first 32 text in
    let ok = taken_ok (is_name (first_part 32 text).0) _ _ _ e in
    go (first_part 32 text).0 (first_part 32 text).1 cut.0 (name_again (first_part 32 text).0 ok.0) ok.1
  where
    go : (name : List ℕ) (kind : Option (List ℕ)) → text ≡ name ++ behind_first 32 kind → IsName ends_name name
        → typed name kind ≡ Ok says → TypeRead text says
    go name None is named e = absurd (never e)
      where
        never : (let r : Result LineSays ExpositionKind = typed name None in r) ≡ Ok says → ⊥
        never e = absurd cc
    go name (Some kind) is named e =
        let ok = taken_ok (is_type kind) _ _ _ e in
        record {
          name = name;
          kind = kind;
          same = sym is;
          named = named;
          is = ok.0;
          said = sym (same_ok (Typed name kind) says ok.1);
        }

record AboutRead (text : List ℕ) (says : LineSays) : Type 0 where
  name : List ℕ
  rest : Option (List ℕ)
  same : name ++ time_text rest ≡ text
  named : IsName ends_name name
  said : says ≡ Nothing

about_again : (text : List ℕ) (says : LineSays) → about_line text ≡ Ok says → AboutRead text says
unfolding about_line
about_again text says e =
    let cut = cut_is_first 32 text in
    let ok = taken_ok (is_name (first_part 32 text).0) _ _ _ e in
    go (first_part 32 text).0 (first_part 32 text).1 cut.0 (name_again (first_part 32 text).0 ok.0)
    (sym (same_ok Nothing says ok.1))
  where
    go : (name : List ℕ) (rest : Option (List ℕ)) → text ≡ name ++ behind_first 32 rest → IsName ends_name name
        → says ≡ Nothing → AboutRead text says
    go name None is named said = record { name = name; rest = None; same = sym is; named = named; said = said }
    go name (Some rest) is named said = record {
      name = name;
      rest = Some rest;
      same = sym is;
      named = named;
      said = said;
    }

-- the line that begins with a word of these
about_read : (passing : Bool) (word : List ℕ) (line : List ℕ → Option (List ℕ) → WrittenLine) (text : List ℕ)
    (says : LineSays)
    → ((name : List ℕ) (rest : Option (List ℕ)) → line_text (line name rest) ≡ word ++ (name ++ time_text rest))
    → ((name : List ℕ) (rest : Option (List ℕ)) → IsName ends_name name → says ≡ Nothing
    → IsLine passing (line name rest) says)
    → word ++ drop 7 text ≡ text → about_line (drop 7 text) ≡ Ok says → LineRead passing text says
about_read passing word line text says written is whole e =
    let r = about_again (drop 7 text) says e in
    record {
      written = line r.name r.rest;
      same = written r.name r.rest ∙ ap (λ (t : List ℕ). word ++ t) r.same ∙ whole;
      is = is r.name r.rest r.named r.said;
    }

hash_again : (passing : Bool) (text : List ℕ) (says : LineSays) → get_or text 0 0 ≡ 35 → hash_line text ≡ Ok says
    → LineRead passing text says
unfolding hash_line
hash_again passing text says first e =
    let whole : text ≡ 35 ∷ drop 1 text = (byte_spans text 0 35 (omega arith) first).is in
    elim (begins_with type_word text) as (λ t. begins_with type_word text ≡ t
    → cond t (type_line (drop 7 text)) (cond (begins_with help_word text) (about_line (drop 7 text))
    (cond (begins_with unit_word text) (about_line (drop 7 text)) (Ok Nothing))) ≡ Ok says
    → LineRead passing text says) [
      | true ↦ λ word e.
          let r = type_again (drop 7 text) says e in
          record {
            written = TypeLine r.name r.kind;
            same = ap (λ (t : List ℕ). type_word ++ t) r.same
                ∙ word_again type_word text word;
            is = (r.named, r.is, r.said);
          }
      | false ↦ λ no_type e. elim (begins_with help_word text) as
          (λ t. begins_with help_word text ≡ t → cond t (about_line (drop 7 text))
          (cond (begins_with unit_word text) (about_line (drop 7 text)) (Ok Nothing)) ≡ Ok says
          → LineRead passing text says) [
            | true ↦ λ word e. about_read passing help_word HelpLine text says (λ name rest. refl)
                (λ name rest named said. (named, said)) (word_again help_word text word) e
            | false ↦ λ no_help e. elim (begins_with unit_word text) as
                (λ t. begins_with unit_word text ≡ t → cond t (about_line (drop 7 text)) (Ok Nothing) ≡ Ok says
                → LineRead passing text says) [
                  | true ↦ λ word e. about_read passing unit_word UnitLine text says (λ name rest. refl)
                      (λ name rest named said. (named, said)) (word_again unit_word text word) e
                  | false ↦ λ no_unit e. record {
                    written = OtherLine (drop 1 text);
                    same = sym whole;
                    is = (
                      record {
                        no_type = other type_word no_type;
                        no_help = other help_word no_help;
                        no_unit = other unit_word no_unit;
                      },
                      sym (same_ok Nothing says e),
                    );
                  }
                ] refl e
          ] refl e
    ] refl e
  where
    other : (word : List ℕ) → begins_with word text ≡ false → begins_with word (35 ∷ drop 1 text) ≡ false
    other word h = ap (begins_with word) (sym (byte_spans text 0 35 (omega arith) first).is) ∙ h

line_again : (passing : Bool) (text : List ℕ) (says : LineSays) → line_of passing text ≡ Ok says
    → LineRead passing text says
unfolding line_of sample_line
line_again passing text says e =
    elim (get_or text 0 0 == 35) as (λ t. (get_or text 0 0 == 35) ≡ t
    → cond t (hash_line text) (sample_line passing text) ≡ Ok says → LineRead passing text says) [
      | true ↦ λ test e. hash_again passing text says (eqb-true (get_or text 0 0) 35 test) e
      | false ↦ λ test e.
          let s = bind_ok (sample_of passing text) _ says e in
          let r = sample_again passing text s.0 s.1 in
          record {
            written = SampleLine r.written;
            same = r.text;
            is = (s.0, r.is, sym (same_ok (Sampled s.0) says s.2));
          }
    ] refl e

-- ---- the lines

placed_ok : {A : Type 0} (offset : ℕ) (r : Result A ExpositionKind) (x : A) → placed_at offset r ≡ Ok x → r ≡ Ok x
placed_ok offset (Ok y) x e = let same : y ≡ x = cc in ap (λ z. Ok z) same
placed_ok offset (Err kind) x e = absurd cc

record LinesRead (passing : Bool) (texts : List (List ℕ)) (says : List LineSays) : Type 0 where
  lines : List WrittenLine
  same : map line_text lines ≡ texts
  are : AreLines passing lines says

each_again : (passing : Bool) (offset : ℕ) (texts : List (List ℕ)) (says : List LineSays) → AllLack 10 texts
    → each (line_at passing) (placed offset texts) ≡ Ok says → LinesRead passing texts says
unfolding each line_at
each_again passing offset [] says lack e = subst (λ (ss : List LineSays). LinesRead passing [] ss) (same_ok [] says e)
    (record { lines = []; same = refl; are = tt })
each_again passing offset (text ∷ texts) says lack e =
    let f = bind_ok (placed_at offset (line_of passing text)) _ says e in
    let first = line_again passing text f.0 (placed_ok offset (line_of passing text) f.0 f.1) in
    let o = bind_ok (each (line_at passing) (placed (offset + length text + 1) texts)) _ says f.2 in
    let others = each_again passing (offset + length text + 1) texts o.0 lack.1 o.1 in
    subst (λ (ss : List LineSays). LinesRead passing (text ∷ texts) ss) (same_ok (f.0 ∷ o.0) says o.2) (record {
      lines = first.written ∷ others.lines;
      same = λ i. first.same i ∷ others.same i;
      are = (subst (HasNone (is_byte 10)) (sym first.same) lack.0, first.is, others.are);
    })

-- ---- the text

ends_again : (word text : List ℕ) → ends_with word text ≡ true → text ≡ without_end word text ++ word
ends_again word text e =
    sym (take-append-drop (length text - length word) text) ∙ ap (λ (t : List ℕ). take (length text - length word) text
    ++ t) ((bytes_eq-Decides (drop (length text - length word) text) word).0 e)

pub newline_again : (piece : List ℕ) → (ended : Bool) × (piece ≡ without_newline piece ++ end_text ended)
newline_again piece =
    elim (ends_with (10 ∷ []) piece) as (λ t. ends_with (10 ∷ []) piece ≡ t
    → (ended : Bool) × (piece ≡ cond t (without_end (10 ∷ []) piece) piece ++ end_text ended)) [
      | true ↦ λ e. (true, ends_again (10 ∷ []) piece e)
      | false ↦ λ e. (false, sym (append-nil piece))
    ] refl

-- what stands before the last line, with its newline
abbrev pub before_text : Option (List ℕ) → List ℕ
before_text None = []
before_text (Some text) = text ++ 10 ∷ []

some_ok : (a b : Option (List ℕ)) → (let l : Option (Option (List ℕ)) = Some a in l) ≡ Some b → a ≡ b
some_ok a b e = cc

pub before_again : (text : List ℕ) (front : Option (List ℕ)) → before_last text ≡ Some front
    → text ≡ before_text front ++ codes "# EOF"
before_again text front e =
    elim (bytes_eq text (codes "# EOF")) as (λ t. bytes_eq text (codes "# EOF") ≡ t
    → cond t (Some None) (cond (ends_with (10 ∷ codes "# EOF") text)
    (Some (Some (without_end (10 ∷ codes "# EOF") text))) None) ≡ Some front
    → text ≡ before_text front ++ codes "# EOF") [
      | true ↦ λ test e. (bytes_eq-Decides text (codes "# EOF")).0 test
          ∙ ap (λ (f : Option (List ℕ)). before_text f ++ codes "# EOF") (some_ok None front e)
      | false ↦ λ test e. elim (ends_with (10 ∷ codes "# EOF") text) as
          (λ t. ends_with (10 ∷ codes "# EOF") text ≡ t → cond t (Some (Some (without_end (10 ∷ codes "# EOF") text)))
          None ≡ Some front → text ≡ before_text front ++ codes "# EOF") [
            | true ↦ λ ends e.
                ends_again (10 ∷ codes "# EOF") text ends ∙ sym (append_assoc (without_end (10 ∷ codes "# EOF") text)
                (10 ∷ []) (codes "# EOF"))
                ∙ ap (λ (f : Option (List ℕ)). before_text f ++ codes "# EOF")
                (some_ok (Some (without_end (10 ∷ codes "# EOF") text)) front e)
            | false ↦ λ ends e. absurd (never front e)
          ] refl e
    ] refl e
  where
    never : (f : Option (List ℕ)) → (let l : Option (Option (List ℕ)) = None in l) ≡ Some f → ⊥
    never f e = absurd cc

-- a text has a part
split_some : (p : ℕ → Bool) (bs : List ℕ) → slice_split p bs ≡ [] → ⊥
split_some p [] e = absurd cc
split_some p (b ∷ bs) e =
    elim (p b) as (λ t. cond t ([] ∷ slice_split p bs) (onto_first b (slice_split p bs)) ≡ [] → ⊥) [
      | true ↦ λ e. nil ([]) (slice_split p bs) e
      | false ↦ λ e. onto b (slice_split p bs) e
    ] e
  where
    nil : (x : List ℕ) (xs : List (List ℕ)) → x ∷ xs ≡ [] → ⊥
    nil x xs e = absurd cc

    onto : (b : ℕ) (parts : List (List ℕ)) → onto_first b parts ≡ [] → ⊥
    onto b [] e = absurd cc
    onto b (part ∷ parts) e = absurd cc

record TextRead (passing : Bool) (front : Option (List ℕ)) (says : List LineSays) : Type 0 where
  lines : List WrittenLine
  text : flat_map with_newline lines ≡ before_text front
  are : AreLines passing lines says

text_again : (passing : Bool) (front : Option (List ℕ)) (says : List LineSays)
    → each (line_at passing) (lines_of front) ≡ Ok says → TextRead passing front says
unfolding each parts_of
text_again passing None says e = subst (λ (ss : List LineSays). TextRead passing None ss) (same_ok [] says e)
    (record { lines = []; text = refl; are = tt })
text_again passing (Some text) says e =
    let split = split_are_joined 10 text in
    let r = each_again passing 0 (slice_split (is_byte 10) text) says split.1 e in
    go r.lines r.same r.are
  where
    go : (lines : List WrittenLine) → map line_text lines ≡ slice_split (is_byte 10) text → AreLines passing lines says
        → TextRead passing (Some text) says
    go [] same are = absurd (split_some (is_byte 10) text (sym same))
    go (line ∷ lines) same are = record {
      lines = line ∷ lines;
      text = joined line lines ∙ ap (λ (ts : List (List ℕ)). join_with_byte 10 ts ++ 10 ∷ []) same
          ∙ ap (λ (t : List ℕ). t ++ 10 ∷ []) (split_are_joined 10 text).0;
      are = are;
    }

record PieceRead (piece : List ℕ) (moment : ℤ) (typed passing : Bool) (exposition : Exposition) : Type 0 where
  lines : List WrittenLine
  says : List LineSays
  ended : Bool
  text : piece ≡ exposition_text lines ended
  are : AreLines passing lines says
  same : exposition ≡ exposition_of moment typed says

piece_again : (piece : List ℕ) (moment : ℤ) (typed passing : Bool) (exposition : Exposition)
    → text_reading piece moment typed passing ≡ Ok exposition → PieceRead piece moment typed passing exposition
unfolding text_reading lines_reading
piece_again piece moment typed passing exposition e = go (before_last (without_newline piece)) refl e
  where
    go : (front : Option (Option (List ℕ))) → before_last (without_newline piece) ≡ front
        → ended_reading moment typed passing (length piece) front ≡ Ok exposition
        → PieceRead piece moment typed passing exposition
    go None is e = absurd (never e)
      where
        never : ended_reading moment typed passing (length piece) None ≡ Ok exposition → ⊥
        never e = absurd cc
    go (Some front) is e =
        let l = bind_ok (each (line_at passing) (lines_of front)) _ exposition e in
        let r = text_again passing front l.0 l.1 in
        let n = newline_again piece in
        let whole : piece ≡ flat_map with_newline r.lines ++ (codes "# EOF" ++ end_text n.0) =
        n.1 ∙ ap (λ (t : List ℕ). t ++ end_text n.0) (before_again (without_newline piece) front is
        ∙ ap (λ (t : List ℕ). t ++ codes "# EOF") (sym r.text))
        ∙ append_assoc (flat_map with_newline r.lines) (codes "# EOF") (end_text n.0) in
        record {
          lines = r.lines;
          says = l.0;
          ended = n.0;
          text = whole;
          are = r.are;
          same = sym (same_ok (exposition_of moment typed l.0) exposition l.2);
        }

pub read_is_written : ReadIsWritten
unfolding reading
read_is_written piece moment tagged passing exposition e =
    elim (is_utf8 piece) as (λ t. is_utf8 piece ≡ t → cond t (text_reading piece moment tagged passing)
    (fault NotUtf8 (utf8_valid_len piece)) ≡ Ok exposition
    → (lines : List WrittenLine) × (says : List LineSays) × (ended : Bool) × (piece ≡ exposition_text lines ended)
    × IsUtf8 piece × AreLines passing lines says × (exposition ≡ exposition_of moment tagged says)) [
      | true ↦ λ u e. let r = piece_again piece moment tagged passing exposition e in
          (r.lines, r.says, r.ended, r.text, IsUtf8-from_is_utf8 piece u, r.are, r.same)
      | false ↦ λ u e. absurd cc
    ] refl e

-- An escaped text is a part that means the text.
use Rattle.std.proofs.Common.{◌≡◌, ◌<◌, ℕ, Bool, true, false, eqb, List, [], ◌∷◌}
use Rattle.std.proofs.Common.{refl, sym, ◌∙◌, arith, inl, inr}
use Rattle.std.specs.Prelude.{◌==◌, ◌||◌, ◌⊎◌, codes}
use Rattle.std.specs.List.{list_any}
use Rattle.std.specs.Str.{IsUtf8}
use Rattle.std.proofs.lemmas.Bool.{eqb-true, eqb-false, ne_eqb, eq-eqb}
use Rattle.text_parts.specs.Part.{Kind, is_escape}
use Rattle.text_parts.specs.Grammar.{Ends}
use Rattle.line_proto.specs.Kinds.{name_part, key_part, tag_value_part, text_part}
use Rattle.line_proto.specs.LineText.{as_written, name_escapes, key_escapes, text_escapes}
use Rattle.text_parts.specs.Escaped.{escaped}
use Rattle.text_parts.specs.Escaped.{Suits, NoBackslashEnd}
use Rattle.text_parts.specs.Marks.{escapes_of, is_mark_of}
use Rattle.text_parts.proofs.Escaping.{escaped-same, written_as_it_is}
use Rattle.text_parts.proofs.EscapedUtf8.{escaped_utf8}
use Rattle.line_proto.specs.declared.write.TheConstants.{NAME_MARKS, KEY_MARKS, TEXT_MARKS}

-- a byte is one of the marks
abbrev pub is_mark : List ℕ → ℕ → Bool
is_mark marks b = list_any (λ mark. mark == b) marks

no_escape : (k : Kind) (b : ℕ) (rest : List ℕ) → (b == 92) ≡ false → is_escape k (b ∷ rest) ≡ false
no_escape k b [] e = refl
no_escape k b (c ∷ rest) e = rw e refl

-- an end that is no backslash
pub ends_before : (k : Kind) (b : ℕ) (rest : List ℕ) → k.ends b ≡ true → (b == 92) ≡ false → Ends k (b ∷ rest)
ends_before k b rest e none = (e, no_escape k b rest none)

-- ---- UTF-8

pub escaped-IsUtf8 : (marks : List ℕ) → ((b : ℕ) → is_mark marks b ≡ true → b < 128) → (text : List ℕ) → IsUtf8 text
    → IsUtf8 (escaped (as_written marks) text)
escaped-IsUtf8 marks low text u = escaped_utf8 (as_written marks) (record { marks = low; written = λ b small. small })
    text u

-- ---- the kinds of a line's parts

eqb_turned : (a b : ℕ) → eqb a b ≡ eqb b a
eqb_turned a b = elim (eqb b a) as (λ t. eqb b a ≡ t → eqb a b ≡ t) [
  | true ↦ λ e. let is : b ≡ a = eqb-true b a e in eq-eqb a b (sym is)
  | false ↦ λ e. ne_eqb a b (λ same. eqb-false b a e (sym same))
] refl

two : (x y : Bool) → (x || (y || false)) ≡ (x || y)
two true y = refl
two false true = refl
two false false = refl

three : (x y z : Bool) → (x || (y || (z || false))) ≡ ((x || y) || z)
three true y z = refl
three false true z = refl
three false false true = refl
three false false false = refl

-- the marks of a measurement, of keys and of texts, as tests
pub name_marks : (b : ℕ) → is_mark (codes ", ") b ≡ (b == 44 || b == 32)
name_marks b = rw (eqb_turned 44 b, eqb_turned 32 b) (two (b == 44) (b == 32))

pub key_marks : (b : ℕ) → is_mark (codes ",= ") b ≡ (b == 44 || b == 61 || b == 32)
key_marks b = rw (eqb_turned 44 b, eqb_turned 61 b, eqb_turned 32 b) (three (b == 44) (b == 61) (b == 32))

pub text_marks : (b : ℕ) → is_mark (codes "\"\\") b ≡ (b == 34 || b == 92)
text_marks b = rw (eqb_turned 34 b, eqb_turned 92 b) (two (b == 34) (b == 92))

-- ---- the escapes of a line's parts, as the code gives them

once_more : (x y : Bool) → ((x || y) || y) ≡ (x || y)
once_more true y = refl
once_more false true = refl
once_more false false = refl

pub name_same : (text : List ℕ) → escaped (escapes_of NAME_MARKS) text ≡ escaped name_escapes text
name_same text =
    let same : (b : ℕ) → is_mark_of NAME_MARKS b ≡ is_mark (codes ", ") b =
    λ b. once_more (b == 44) (b == 32) ∙ sym (name_marks b) in
    escaped-same (escapes_of NAME_MARKS) name_escapes same (λ b is. written_as_it_is NAME_MARKS refl b (same b ∙ is))
    text

pub key_same : (text : List ℕ) → escaped (escapes_of KEY_MARKS) text ≡ escaped key_escapes text
key_same text =
    let same : (b : ℕ) → is_mark_of KEY_MARKS b ≡ is_mark (codes ",= ") b = λ b. sym (key_marks b) in
    escaped-same (escapes_of KEY_MARKS) key_escapes same (λ b is. written_as_it_is KEY_MARKS refl b (same b ∙ is)) text

pub text_same : (text : List ℕ) → escaped (escapes_of TEXT_MARKS) text ≡ escaped text_escapes text
text_same text =
    let same : (b : ℕ) → is_mark_of TEXT_MARKS b ≡ is_mark (codes "\"\\") b =
    λ b. once_more (b == 34) (b == 92) ∙ sym (text_marks b) in
    escaped-same (escapes_of TEXT_MARKS) text_escapes same (λ b is. written_as_it_is TEXT_MARKS refl b (same b ∙ is))
    text

turned_key : (x y z : Bool) → ((y || x) || z) ≡ true → ((x || y) || z) ≡ true
turned_key true y z e = refl
turned_key false true z e = refl
turned_key false false z e = e

with_equals : (x y z : Bool) → (x || z) ≡ true → ((x || y) || z) ≡ true
with_equals true y z e = refl
with_equals false true z e = refl
with_equals false false z e = e

first_of_two : (x y : Bool) → x ≡ true → (x || y) ≡ true
first_of_two true y e = refl
first_of_two false y e = absurd cc

pub suits_name : (text : List ℕ) → NoBackslashEnd text → Suits name_part name_escapes text
suits_name text end = record {
  hides = λ b e. sym (name_marks b) ∙ e;
  means = λ b e. refl;
  ends = λ b e. inl (name_marks b ∙ e);
  closes = inr (λ b e. sym (name_marks b) ∙ e, end);
}

pub suits_key : (text : List ℕ) → NoBackslashEnd text → Suits key_part key_escapes text
suits_key text end = record {
  hides = λ b e. sym (key_marks b) ∙ e;
  means = λ b e. refl;
  ends = λ b e. inl (key_marks b ∙ turned_key (b == 44) (b == 61) (b == 32) e);
  closes = inr (λ b e. sym (key_marks b) ∙ e, end);
}

pub suits_tag_value : (text : List ℕ) → NoBackslashEnd text → Suits tag_value_part key_escapes text
suits_tag_value text end = record {
  hides = λ b e. sym (key_marks b) ∙ e;
  means = λ b e. refl;
  ends = λ b e. inl (key_marks b ∙ with_equals (b == 44) (b == 61) (b == 32) e);
  closes = inr (λ b e. sym (key_marks b) ∙ e, end);
}

pub suits_text : (text : List ℕ) → Suits text_part text_escapes text
suits_text text = record {
  hides = λ b e. sym (text_marks b) ∙ e;
  means = λ b e. refl;
  ends = λ b e. inl (text_marks b ∙ first_of_two (b == 34) (b == 92) e);
  closes = inl refl;
}

either : (x y : Bool) → (x || y) ≡ true → (x ≡ true) ⊎ (y ≡ true)
either true y e = inl refl
either false y e = inr e

low_two : (b x y : ℕ) → x < 128 → y < 128 → (b == x || b == y) ≡ true → b < 128
low_two b x y lx ly e =
    elim (either (b == x) (b == y) e) [
      | inl w ↦ omega (arith, eqb-true b x w)
      | inr w ↦ omega (arith, eqb-true b y w)
    ]

pub name_low : (b : ℕ) → is_mark (codes ", ") b ≡ true → b < 128
name_low b e = low_two b 44 32 (omega arith) (omega arith) (sym (name_marks b) ∙ e)

pub key_low : (b : ℕ) → is_mark (codes ",= ") b ≡ true → b < 128
key_low b e = elim (either (b == 44 || b == 61) (b == 32) (sym (key_marks b) ∙ e)) [
  | inl w ↦ low_two b 44 61 (omega arith) (omega arith) w
  | inr w ↦ omega (arith, eqb-true b 32 w)
]

pub text_low : (b : ℕ) → is_mark (codes "\"\\") b ≡ true → b < 128
text_low b e = low_two b 34 92 (omega arith) (omega arith) (sym (text_marks b) ∙ e)

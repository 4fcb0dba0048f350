-- What is written as an exposition is read as it.
use Rattle.std.proofs.Common.{◌≡◌, ℕ, ℤ, ◌+◌, ◌-◌, Bool, true, false, List, [], ◌∷◌, ◌++◌, length, get_or, take, drop}
use Rattle.std.proofs.Common.{map, Ok, Option, Some, None, refl, sym, ap, subst, ◌∙◌, arith, append_assoc, append-nil}
use Rattle.std.specs.Prelude.{◌&&◌, ◌==◌, not, codes, nat_lt}
use Rattle.std.specs.List.{flat_map, join_with_byte}
use Rattle.std.specs.Str.{bytes_eq}
use Rattle.std.proofs.lemmas.Bool.{ne_eqb, eq-eqb, eqb-true, le-ltb}
use Rattle.std.proofs.lemmas.List.{take_at, drop_at, length-append}
use Rattle.std.proofs.lemmas.List.Concat.{flat_map-cons}
use Rattle.std.proofs.lemmas.Slice.Eq.{bytes_eq-Decides}
use Rattle.std.proofs.lemmas.Str.{is_utf8-from_IsUtf8}
use Rattle.fixed_num.specs.Decimal.{decimal_of}
use Rattle.text_parts.specs.Grammar.{HasNone}
use Rattle.text_parts.specs.Split.{is_byte, placed, parts_of, each, AllLack}
use Rattle.text_parts.proofs.Splits.{first_is_cut, joined_are_split}
use Rattle.openmetrics_text.specs.declared.number.Number.{Number}
use Rattle.openmetrics_text.specs.declared.number.Time.{Time}
use Rattle.openmetrics_text.specs.Names.{ends_name, name_len, is_name}
use Rattle.openmetrics_text.specs.Lines.{LineSays, Nothing, line_of, hash_line, type_line, about_line, sample_line}
use Rattle.openmetrics_text.specs.Sample.{is_exemplar, shape_of, time_of, is_out_of_range, number_said, Said, limited}
use Rattle.openmetrics_text.specs.Sample.{sample_of}
use Rattle.openmetrics_text.specs.Reading.{ends_with, without_end, without_newline, before_last, line_at, exposition_of}
use Rattle.openmetrics_text.specs.Reading.{text_reading, reading}
use Rattle.openmetrics_text.specs.Grammar.{WrittenSample, braces_text, time_text, exemplar_text, sample_text}
use Rattle.openmetrics_text.specs.Grammar.{WrittenLine, TypeLine, HelpLine, UnitLine, OtherLine, SampleLine, line_text}
use Rattle.openmetrics_text.specs.Grammar.{with_newline, end_text, exposition_text}
use Rattle.openmetrics_text.specs.Grammar.{IsName, HasNoSpace, IsSample, IsLine, AreLines, WrittenIsRead}
use Rattle.openmetrics_text.proofs.Chains.{lines_are, none_read}
use Rattle.openmetrics_text.proofs.Takes.{name_first, whole_name, head_takes, behind_takes}
use Rattle.metric.proofs.GroupLemmas.{same_texts, not_same}

-- ---- the number and the time

empty_time : (time : Time) → time_of (Some []) ≡ Ok time → ⊥
unfolding time_of decimal_of
empty_time time e = absurd cc

hash_time : (time : Time) → time_of (Some (35 ∷ [])) ≡ Ok time → ⊥
unfolding time_of decimal_of
hash_time time e = absurd cc

and_false : (t : Bool) → (t && false) ≡ false
and_false true = refl
and_false false = refl

-- a time doesn't begin what is passed over
no_exemplar : (text rest : List ℕ) (time : Time) → HasNone (is_byte 32) text → time_of (Some text) ≡ Ok time
    → is_exemplar (text ++ rest) ≡ false
no_exemplar [] rest time none e = absurd (empty_time time e)
no_exemplar (b ∷ []) rest time none e =
    elim (b == 35) as (λ t. (b == 35) ≡ t → (t && (get_or rest 0 0 == 32)) ≡ false) [
      | true ↦ λ is. absurd (hash_time time (subst (λ (n : ℕ). time_of (Some (n ∷ [])) ≡ Ok time) (eqb-true b 35 is) e))
      | false ↦ λ is. refl
    ] refl
no_exemplar (b ∷ c ∷ text) rest time none e = rw (none.1.0) (and_false (b == 35))

shape_takes : (number : List ℕ) (written exemplar : Option (List ℕ)) (time : Time) → HasNone (is_byte 32) number
    → HasNoSpace written → time_of written ≡ Ok time
    → shape_of (number ++ (time_text written ++ exemplar_text exemplar)) ≡ Ok
    (record { number = number; time = written })
unfolding shape_of
shape_takes number None None time h k e = rw (append-nil, (first_is_cut 32 number [] h).0) refl
shape_takes number None (Some text) time h k e = rw ((first_is_cut 32 number (35 ∷ 32 ∷ text) h).1) refl
shape_takes number (Some written) None time h k e =
    rw ((first_is_cut 32 number (written ++ []) h).1, no_exemplar written [] time k e)
    (rw (append-nil, (first_is_cut 32 written [] k).0) refl)
shape_takes number (Some written) (Some text) time h k e =
    rw (
      (first_is_cut 32 number (written ++ 32 ∷ 35 ∷ 32 ∷ text) h).1,
      no_exemplar written (32 ∷ 35 ∷ 32 ∷ text) time k e,
    ) (rw ((first_is_cut 32 written (35 ∷ 32 ∷ text) k).1) refl)

-- what is passed over, or is in range, is read
allowed : (passing : Bool) (number : Number) → (passing ≡ false → is_out_of_range number ≡ false)
    → (is_out_of_range number && not passing) ≡ false
allowed true number h = and_false (is_out_of_range number)
allowed false number h = rw (h refl) refl

sample_takes : (passing : Bool) (w : WrittenSample) (said : Said) → IsSample passing w said
    → sample_of passing (sample_text w) ≡ Ok said
unfolding sample_of limited
sample_takes passing w said is =
    let rest : List ℕ = w.number ++ (time_text w.time ++ exemplar_text w.exemplar) in
    let head = head_takes w.name rest w.labels said.labels is.name is.labels is.distinct in
    let space = behind_takes (sample_text w) head.0 rest head.2 in
    let shape = shape_takes w.number w.time w.exemplar is.time is.number_whole is.time_whole is.is_time in
    let few : nat_lt 64 (length said.labels) ≡ false = le-ltb 64 (length said.labels) is.few in
    let range : (is_out_of_range (number_said is.number is.time) && not passing) ≡ false = allowed passing
    (number_said is.number is.time) (λ p. ap is_out_of_range (sym is.number_is) ∙ is.in_range p) in
    rw (head.1, space, shape, is.is_number, is.is_time, range, few)
    (λ j. Ok (record {
      name = sym is.same j;
      labels = said.labels;
      number = sym is.number_is j;
      time = sym is.time_is j;
    }))

-- ---- lines

name_no_space : (name : List ℕ) → HasNone ends_name name → HasNone (is_byte 32) name
name_no_space [] h = tt
name_no_space (b ∷ name) h = (
  ne_eqb b 32 (λ e. let no : true ≡ false = ap ends_name (sym e) ∙ h.0 in absurd cc),
  name_no_space name h.1,
)

name_is : (name : List ℕ) → IsName ends_name name → is_name name ≡ true
name_is name h =
    let len : (name_len ends_name name == length name) ≡ true =
    eq-eqb (name_len ends_name name) (length name) (whole_name ends_name name h) in
    let some : (length name == 0) ≡ false = ne_eqb (length name) 0 (λ e. absurd (omega (arith, h.filled))) in
    rw (len, some) refl

about_takes : (name : List ℕ) (text : Option (List ℕ)) → IsName ends_name name
    → about_line (name ++ time_text text) ≡ Ok Nothing
unfolding about_line
about_takes name None h = rw (append-nil, (first_is_cut 32 name [] (name_no_space name h.clean)).0, name_is name h) refl
about_takes name (Some text) h = rw ((first_is_cut 32 name text (name_no_space name h.clean)).1, name_is name h) refl

pub line_takes : (passing : Bool) (line : WrittenLine) (says : LineSays) → IsLine passing line says
    → line_of passing (line_text line) ≡ Ok says
unfolding line_of hash_line type_line sample_line
line_takes passing (TypeLine name kind) says h = rw
    ((first_is_cut 32 name kind (name_no_space name (h.0).clean)).1, name_is name h.0, h.1)
    (ap (λ (s : LineSays). Ok s) (sym h.2))
line_takes passing (HelpLine name text) says h = about_takes name text h.0 ∙ ap (λ (s : LineSays). Ok s) (sym h.1)
line_takes passing (UnitLine name text) says h = about_takes name text h.0 ∙ ap (λ (s : LineSays). Ok s) (sym h.1)
line_takes passing (OtherLine text) says h = rw ((h.0).no_type, (h.0).no_help, (h.0).no_unit)
    (ap (λ (s : LineSays). Ok s) (sym h.1))
line_takes passing (SampleLine w) says h =
    let first = name_first ends_name w.name
    (braces_text w.labels ++ 32 ∷ (w.number ++ (time_text w.time ++ exemplar_text w.exemplar))) 35
    (h.1).name refl in
    rw (first, sample_takes passing w h.0 h.1) (ap (λ (s : LineSays). Ok s) (sym h.2))

each_takes : (passing : Bool) (offset : ℕ) (lines : List WrittenLine) (says : List LineSays)
    → AreLines passing lines says → each (line_at passing) (placed offset (map line_text lines)) ≡ Ok says
unfolding each line_at
each_takes passing offset [] [] h = refl
each_takes passing offset [] (s ∷ says) h = absurd h
each_takes passing offset (line ∷ lines) [] h = absurd h
each_takes passing offset (line ∷ lines) (s ∷ says) h = rw
    (line_takes passing line s h.1, each_takes passing (offset + length (line_text line) + 1) lines says h.2) refl

lines_lack : (passing : Bool) (lines : List WrittenLine) (says : List LineSays) → AreLines passing lines says
    → AllLack 10 (map line_text lines)
lines_lack passing [] says h = tt
lines_lack passing (line ∷ lines) [] h = absurd h
lines_lack passing (line ∷ lines) (s ∷ says) h = (h.0, lines_lack passing lines says h.2)

-- ---- the end

ends_append : (word front : List ℕ) → ends_with word (front ++ word) ≡ true
ends_append word front =
    let n : length (front ++ word) - length word ≡ length front = omega (arith, length-append front word) in
    same_texts (drop (length (front ++ word) - length word) (front ++ word)) word
    (ap (λ (k : ℕ). drop k (front ++ word)) n ∙ drop_at front word (length front) refl)

without_append : (word front : List ℕ) → without_end word (front ++ word) ≡ front
without_append word front =
    let n : length (front ++ word) - length word ≡ length front = omega (arith, length-append front word) in
    ap (λ (k : ℕ). take k (front ++ word)) n ∙ take_at front word (length front) refl

no_newline_end : (front : List ℕ) → ends_with (10 ∷ []) (front ++ codes "# EOF") ≡ false
no_newline_end front =
    let four : List ℕ = 35 ∷ 32 ∷ 69 ∷ 79 ∷ [] in
    let n : length (front ++ codes "# EOF") - 1 ≡ length (front ++ 35 ∷ 32 ∷ 69 ∷ 79 ∷ []) =
    omega (arith, length-append front (codes "# EOF"), length-append front (35 ∷ 32 ∷ 69 ∷ 79 ∷ [])) in
    ap (λ (l : List ℕ). bytes_eq l (10 ∷ [])) (ap (λ (k : ℕ). drop k (front ++ codes "# EOF")) n
    ∙ ap (drop (length (front ++ 35 ∷ 32 ∷ 69 ∷ 79 ∷ []))) (sym (append_assoc front (35 ∷ 32 ∷ 69 ∷ 79 ∷ []) (70 ∷ [])))
    ∙ drop_at (front ++ 35 ∷ 32 ∷ 69 ∷ 79 ∷ []) (70 ∷ []) (length (front ++ 35 ∷ 32 ∷ 69 ∷ 79 ∷ [])) refl)

newline_taken : (text : List ℕ) → without_newline (text ++ 10 ∷ []) ≡ text
newline_taken text = rw (ends_append (10 ∷ []) text) (without_append (10 ∷ []) text)

pub end_taken : (front : List ℕ) (ended : Bool) → without_newline (front ++ (codes "# EOF" ++ end_text ended)) ≡ front
    ++ codes "# EOF"
end_taken front true = ap without_newline (sym (append_assoc front (codes "# EOF") (10 ∷ [])))
    ∙ newline_taken (front ++ codes "# EOF")
end_taken front false = rw (no_newline_end front) refl

pub before_some : (text : List ℕ) → before_last (text ++ 10 ∷ codes "# EOF") ≡ Some (Some text)
before_some text =
    let other : bytes_eq (text ++ 10 ∷ codes "# EOF") (codes "# EOF") ≡ false =
    not_same (bytes_eq (text ++ 10 ∷ codes "# EOF") (codes "# EOF"))
    (λ e. absurd (omega (
      arith,
      ap length ((bytes_eq-Decides (text ++ 10 ∷ codes "# EOF") (codes "# EOF")).0 e),
      length-append text (10 ∷ codes "# EOF"),
    ))) in
    rw (other, ends_append (10 ∷ codes "# EOF") text) (ap (λ (t : List ℕ). Some (Some t))
    (without_append (10 ∷ codes "# EOF") text))

pub joined : (line : WrittenLine) (lines : List WrittenLine)
    → flat_map with_newline (line ∷ lines) ≡ join_with_byte 10 (map line_text (line ∷ lines)) ++ 10 ∷ []
joined line [] = flat_map-cons with_newline line [] ∙ append-nil (with_newline line)
joined line (next ∷ lines) =
    flat_map-cons with_newline line (next ∷ lines) ∙ ap (λ (t : List ℕ). with_newline line ++ t) (joined next lines)
    ∙ append_assoc (line_text line) (10 ∷ []) (join_with_byte 10 (map line_text (next ∷ lines)) ++ 10 ∷ [])
    ∙ sym (append_assoc (line_text line) (10 ∷ join_with_byte 10 (map line_text (next ∷ lines))) (10 ∷ []))

text_takes : (lines : List WrittenLine) (says : List LineSays) (ended : Bool) (moment : ℤ) (typed passing : Bool)
    → AreLines passing lines says → text_reading (exposition_text lines ended) moment typed passing ≡ Ok
    (exposition_of moment typed says)
unfolding text_reading parts_of
text_takes [] [] ended moment typed passing h = rw (end_taken [] ended)
    (lines_are moment typed passing None [] (none_read passing))
text_takes [] (s ∷ says) ended moment typed passing h = absurd h
text_takes (line ∷ lines) says ended moment typed passing h =
    let text : List ℕ = join_with_byte 10 (map line_text (line ∷ lines)) in
    let cut : before_last (without_newline (exposition_text (line ∷ lines) ended)) ≡ Some
    (Some (join_with_byte 10 (map line_text (line ∷ lines)))) =
    ap before_last (end_taken (flat_map with_newline (line ∷ lines)) ended
    ∙ ap (λ (t : List ℕ). t ++ codes "# EOF") (joined line lines)
    ∙ append_assoc (join_with_byte 10 (map line_text (line ∷ lines))) (10 ∷ []) (codes "# EOF"))
    ∙ before_some (join_with_byte 10 (map line_text (line ∷ lines))) in
    rw cut (lines_are moment typed passing (Some text) says (split (line_text line) (map line_text lines) says
    (lines_lack passing (line ∷ lines) says h) (each_takes passing 0 (line ∷ lines) says h)))
  where
    split : (first : List ℕ) (others : List (List ℕ)) (says : List LineSays) → AllLack 10 (first ∷ others)
        → each (line_at passing) (placed 0 (first ∷ others)) ≡ Ok says
        → each (line_at passing) (parts_of 10 (0, join_with_byte 10 (first ∷ others))) ≡ Ok says
    split first others says lack e = ap (λ (ts : List (List ℕ)). each (line_at passing) (placed 0 ts))
        (joined_are_split 10 first others lack) ∙ e

pub written_is_read : WrittenIsRead
unfolding reading
written_is_read lines says ended moment typed passing h u = rw (is_utf8-from_IsUtf8 (exposition_text lines ended) u)
    (text_takes lines says ended moment typed passing h)

-- What is read where samples out of range are passed over.
use Rattle.std.proofs.Common.{◌≡◌, ℕ, ℤ, ◌+◌, ◌-◌, ◌^◌, Bool, true, false, List, [], ◌∷◌, ◌++◌, min, Ok, refl, sym, ap}
use Rattle.std.proofs.Common.{subst, ◌∙◌, append_assoc, arith}
use Rattle.std.specs.Prelude.{codes}
use Rattle.std.specs.List.{flat_map}
use Rattle.std.specs.Str.{IsUtf8}
use Rattle.std.proofs.lemmas.List.Concat.{flat_map-cons}
use Rattle.std.proofs.lemmas.Str.{IsUtf8-append}
use Rattle.text_parts.specs.Grammar.{HasNone}
use Rattle.text_parts.specs.Split.{is_byte}
use Rattle.text_parts.proofs.Utf8.{around_ascii, one_ascii}
use Rattle.metric.specs.declared.metric.Content.{Content}
use Rattle.metric.specs.Draft.{Tag}
use Rattle.openmetrics_text.specs.declared.exposition.Exposition.{Exposition}
use Rattle.openmetrics_text.specs.declared.number.Number.{Number}
use Rattle.openmetrics_text.specs.declared.number.Number.TheVariants.{Decimal, NoDecimal, OutOfRange}
use Rattle.openmetrics_text.specs.Grammar.{WrittenSample, WrittenLine, TypeLine, HelpLine, UnitLine, OtherLine}
use Rattle.openmetrics_text.specs.Grammar.{SampleLine, line_text, with_newline, end_text, exposition_text, IsSample}
use Rattle.openmetrics_text.specs.Grammar.{IsLine, AreLines}
use Rattle.openmetrics_text.specs.Lines.{LineSays, Typed, Nothing, Sampled}
use Rattle.openmetrics_text.specs.Passing.{is_beyond, count_beyond, within_range, InRangeIsSame, PassedOver}
use Rattle.openmetrics_text.specs.Reading.{contents_by, contents_of, metrics_from, counted_in, passed_by, passed_in}
use Rattle.openmetrics_text.specs.Reading.{out_by, out_in}
use Rattle.openmetrics_text.specs.Reading.{exposition_of, reading}
use Rattle.openmetrics_text.specs.Sample.{Said, is_out_of_range}
use Rattle.openmetrics_text.specs.Types.{type_of}
use Rattle.openmetrics_text.proofs.Spells.{written_is_read}
use Rattle.openmetrics_text.proofs.Wholes.{read_is_written}

-- ---- a number

none_out : (number : Number) → is_out_of_range number ≡ false → out_by number ≡ 0
none_out (Decimal number) e = refl
none_out NoDecimal e = refl
none_out OutOfRange e = absurd cc

is_out : (number : Number) → is_out_of_range number ≡ true → number ≡ OutOfRange
is_out (Decimal number) e = absurd cc
is_out NoDecimal e = absurd cc
is_out OutOfRange e = refl

-- ---- a line in range

in_range : (passing : Bool) (w : WrittenSample) (said : Said) → IsSample passing w said
    → is_out_of_range said.number ≡ false → (other : Bool) → IsSample other w said
in_range passing w said is e other = record {
  name = is.name;
  same = is.same;
  labels = is.labels;
  distinct = is.distinct;
  few = is.few;
  number_whole = is.number_whole;
  time_whole = is.time_whole;
  number = is.number;
  is_number = is.is_number;
  time = is.time;
  is_time = is.is_time;
  in_range = λ p. e;
  number_is = is.number_is;
  time_is = is.time_is;
}

line_passes : (line : WrittenLine) (says : LineSays) → IsLine false line says → IsLine true line says
line_passes (TypeLine name kind) says h = h
line_passes (HelpLine name text) says h = h
line_passes (UnitLine name text) says h = h
line_passes (OtherLine text) says h = h
line_passes (SampleLine sample) says h = (h.0, in_range false sample h.0 h.1 (h.1.in_range refl) true, h.2)

lines_pass : (lines : List WrittenLine) (says : List LineSays) → AreLines false lines says → AreLines true lines says
lines_pass [] [] h = tt
lines_pass [] (s ∷ says) h = absurd h
lines_pass (line ∷ lines) [] h = absurd h
lines_pass (line ∷ lines) (s ∷ says) h = (h.0, line_passes line s h.1, lines_pass lines says h.2)

-- none of such lines is out of range
line_in : (line : WrittenLine) (says : LineSays) (others : List LineSays) → IsLine false line says
    → out_in (says ∷ others) ≡ out_in others
unfolding counted_in
line_in (TypeLine name kind) says others h = rw (h.2) refl
line_in (HelpLine name text) says others h = rw (h.1) refl
line_in (UnitLine name text) says others h = rw (h.1) refl
line_in (OtherLine text) says others h = rw (h.1) refl
line_in (SampleLine sample) says others h = rw (h.2)
    (ap (λ (n : ℕ). n + out_in others) (none_out (h.0).number (h.1.in_range refl)) ∙ omega arith)

lines_in : (lines : List WrittenLine) (says : List LineSays) → AreLines false lines says → out_in says ≡ 0
unfolding counted_in
lines_in [] [] h = refl
lines_in [] (s ∷ says) h = absurd h
lines_in (line ∷ lines) [] h = absurd h
lines_in (line ∷ lines) (s ∷ says) h = line_in line s says h.1 ∙ lines_in lines says h.2

pub in_range_is_same : InRangeIsSame
in_range_is_same piece moment typed exposition e =
    let w = read_is_written piece moment typed false exposition e in
    let utf8 : IsUtf8 (exposition_text w.0 w.2) = subst IsUtf8 w.3 w.4 in
    let out : out_in w.1 ≡ 0 = lines_in w.0 w.1 w.5 in (
      ap (λ (text : List ℕ). reading text moment typed true) w.3
          ∙ written_is_read w.0 w.1 w.2 moment typed true (lines_pass w.0 w.1 w.5) utf8
          ∙ ap (λ (x : Exposition). Ok x) (sym w.6),
      ap (λ (x : Exposition). x.out_of_range) w.6 ∙ ap (λ (n : ℕ). min n (2 ^ 32 - 1)) out,
    )

-- ---- lines without those out of range

utf8_within : (lines : List WrittenLine) (tail : List ℕ) → IsUtf8 (flat_map with_newline lines ++ tail)
    → IsUtf8 (flat_map with_newline (within_range lines) ++ tail)
utf8_within [] tail h = h
utf8_within (line ∷ lines) tail h =
    let apart : flat_map with_newline (line ∷ lines) ++ tail ≡ line_text line ++ 10 ∷
    (flat_map with_newline lines ++ tail) =
    ap (λ (t : List ℕ). t ++ tail) (flat_map-cons with_newline line lines)
    ∙ append_assoc (with_newline line) (flat_map with_newline lines) tail
    ∙ append_assoc (line_text line) (10 ∷ []) (flat_map with_newline lines ++ tail) in
    let both = around_ascii (line_text line) (flat_map with_newline lines ++ tail) 10 (omega arith)
    (subst IsUtf8 apart h) in
    let others = utf8_within lines tail both.1 in
    elim (is_beyond line) as
    (λ t. is_beyond line ≡ t → IsUtf8 (flat_map with_newline (within_range (line ∷ lines)) ++ tail)) [
      | true ↦ λ e. rw e others
      | false ↦ λ e. rw e
          (subst IsUtf8
          (sym (ap (λ (t : List ℕ). t ++ tail) (flat_map-cons with_newline line (within_range lines))
          ∙ append_assoc (with_newline line) (flat_map with_newline (within_range lines)) tail))
          (IsUtf8-append (with_newline line) (flat_map with_newline (within_range lines) ++ tail)
          (IsUtf8-append (line_text line) (10 ∷ []) both.0 (one_ascii 10 (omega arith))) others))
    ] refl

-- ---- what the lines say without those out of range

-- a line more says the same more
metrics_more : (moment : ℤ) (typed : Bool) (types : List Tag) (s : LineSays) (says rest : List LineSays)
    → ((ts : List Tag) → metrics_from moment typed ts says ≡ metrics_from moment typed ts rest)
    → metrics_from moment typed types (s ∷ says) ≡ metrics_from moment typed types (s ∷ rest)
unfolding metrics_from
metrics_more moment typed types (Typed name kind) says rest h = h (types ++ (name, kind) ∷ [])
metrics_more moment typed types Nothing says rest h = h types
metrics_more moment typed types (Sampled said) says rest h = ap
    (λ (ms : List Content). contents_of moment typed (type_of said.name types) said ++ ms) (h types)

regroup : (a b n : ℕ) → a + (b + n) ≡ a + b + n
regroup a b n = omega arith

passed_more : (s : LineSays) (says rest : List LineSays) (n : ℕ) → passed_in says ≡ passed_in rest + n
    → passed_in (s ∷ says) ≡ passed_in (s ∷ rest) + n
unfolding counted_in
passed_more (Typed name kind) says rest n h = h
passed_more Nothing says rest n h = h
passed_more (Sampled said) says rest n h = ap (λ (m : ℕ). passed_by said.number + m) h
    ∙ regroup (passed_by said.number) (passed_in rest) n

-- a sample out of range says nothing, and counts
out_metrics : (moment : ℤ) (typed : Bool) (types : List Tag) (said : Said) (says : List LineSays)
    → said.number ≡ OutOfRange
    → metrics_from moment typed types (Sampled said ∷ says) ≡ metrics_from moment typed types says
unfolding metrics_from
out_metrics moment typed types said says e = ap
    (λ (n : Number). contents_by moment typed
    (type_of said.name types) said n ++ metrics_from moment typed types says) e

out_counted : (count : Number → ℕ) (said : Said) (says : List LineSays) → said.number ≡ OutOfRange
    → counted_in count (Sampled said ∷ says) ≡ count OutOfRange + counted_in count says
unfolding counted_in
out_counted count said says e = ap (λ (n : Number). count n + counted_in count says) e

count_in : (line : WrittenLine) (lines : List WrittenLine) → is_beyond line ≡ false
    → count_beyond (line ∷ lines) ≡ count_beyond lines
count_in line lines e = rw e refl

count_out : (line : WrittenLine) (lines : List WrittenLine) → is_beyond line ≡ true
    → count_beyond (line ∷ lines) ≡ 1 + count_beyond lines
count_out line lines e = rw e (omega arith)

kept_in : (line : WrittenLine) (lines : List WrittenLine) → is_beyond line ≡ false
    → within_range (line ∷ lines) ≡ line ∷ within_range lines
kept_in line lines e = rw e refl

kept_out : (line : WrittenLine) (lines : List WrittenLine) → is_beyond line ≡ true
    → within_range (line ∷ lines) ≡ within_range lines
kept_out line lines e = rw e refl

-- lines that are read where those out of range are passed over, and what they say without these
record Rest (moment : ℤ) (typed : Bool) (lines : List WrittenLine) (says : List LineSays) : Type 0 where
  rest : List LineSays
  are : AreLines false (within_range lines) rest
  metrics : (types : List Tag) → metrics_from moment typed types says ≡ metrics_from moment typed types rest
  passed : passed_in says ≡ passed_in rest + count_beyond lines
  out : out_in says ≡ count_beyond lines

no_rest : (moment : ℤ) (typed : Bool) → Rest moment typed [] []
unfolding counted_in
no_rest moment typed = record { rest = []; are = tt; metrics = λ types. refl; passed = refl; out = refl }

-- a line in range stays
stays : (moment : ℤ) (typed : Bool) (line : WrittenLine) (lines : List WrittenLine) (s : LineSays)
    (says : List LineSays) → is_beyond line ≡ false → HasNone (is_byte 10) (line_text line) → IsLine false line s
    → Rest moment typed lines says
    → Rest moment typed (line ∷ lines) (s ∷ says)
stays moment typed line lines s says e none is r = record {
  rest = s ∷ r.rest;
  are = subst (λ (ls : List WrittenLine). AreLines false ls (s ∷ r.rest)) (sym (kept_in line lines e))
      (none, is, r.are);
  metrics = λ types. metrics_more moment typed types s says r.rest r.metrics;
  passed = passed_more s says r.rest (count_beyond lines) r.passed
      ∙ ap (λ (n : ℕ). passed_in (s ∷ r.rest) + n) (sym (count_in line lines e));
  out = line_in line s says is ∙ r.out ∙ sym (count_in line lines e);
}

-- one out of range goes
goes : (moment : ℤ) (typed : Bool) (line : WrittenLine) (lines : List WrittenLine) (said : Said)
    (says : List LineSays) → is_beyond line ≡ true → said.number ≡ OutOfRange → Rest moment typed lines says
    → Rest moment typed (line ∷ lines) (Sampled said ∷ says)
goes moment typed line lines said says e out r = record {
  rest = r.rest;
  are = subst (λ (ls : List WrittenLine). AreLines false ls r.rest) (sym (kept_out line lines e)) r.are;
  metrics = λ types. out_metrics moment typed types said says out ∙ r.metrics types;
  passed = out_counted passed_by said says out ∙ ap (λ (n : ℕ). 1 + n) r.passed
      ∙ behind (passed_in r.rest) (count_beyond lines)
      ∙ ap (λ (n : ℕ). passed_in r.rest + n) (sym (count_out line lines e));
  out = out_counted out_by said says out ∙ ap (λ (n : ℕ). 1 + n) r.out ∙ sym (count_out line lines e);
}
  where
    behind : (b n : ℕ) → 1 + (b + n) ≡ b + (1 + n)
    behind b n = omega arith

beyond_is : (w : WrittenSample) (said : Said) → IsSample true w said
    → is_beyond (SampleLine w) ≡ is_out_of_range said.number
beyond_is w said is = rw (is.is_number, is.is_time) (ap is_out_of_range (sym is.number_is))

sample_rest : (moment : ℤ) (typed : Bool) (w : WrittenSample) (lines : List WrittenLine) (said : Said)
    (says : List LineSays) → HasNone (is_byte 10) (line_text (SampleLine w)) → IsSample true w said
    → Rest moment typed lines says
    → Rest moment typed (SampleLine w ∷ lines) (Sampled said ∷ says)
sample_rest moment typed w lines said says none is r =
    elim (is_out_of_range said.number) as
    (λ t. is_out_of_range said.number ≡ t → Rest moment typed (SampleLine w ∷ lines) (Sampled said ∷ says)) [
      | true ↦ λ e. goes moment typed (SampleLine w) lines said says (beyond_is w said is ∙ e) (is_out said.number e) r
      | false ↦ λ e. stays moment typed (SampleLine w) lines (Sampled said) says (beyond_is w said is ∙ e) none
          (said, in_range true w said is e false, refl) r
    ] refl

rest_of : (moment : ℤ) (typed : Bool) (lines : List WrittenLine) (says : List LineSays) → AreLines true lines says
    → Rest moment typed lines says
rest_of moment typed [] [] h = no_rest moment typed
rest_of moment typed [] (s ∷ says) h = absurd h
rest_of moment typed (line ∷ lines) [] h = absurd h
rest_of moment typed (TypeLine name kind ∷ lines) (s ∷ says) h = stays moment typed
    (TypeLine name kind) lines s says refl h.0 h.1 (rest_of moment typed lines says h.2)
rest_of moment typed (HelpLine name text ∷ lines) (s ∷ says) h = stays moment typed
    (HelpLine name text) lines s says refl h.0 h.1 (rest_of moment typed lines says h.2)
rest_of moment typed (UnitLine name text ∷ lines) (s ∷ says) h = stays moment typed
    (UnitLine name text) lines s says refl h.0 h.1 (rest_of moment typed lines says h.2)
rest_of moment typed (OtherLine text ∷ lines) (s ∷ says) h = stays moment typed
    (OtherLine text) lines s says refl h.0 h.1 (rest_of moment typed lines says h.2)
rest_of moment typed (SampleLine w ∷ lines) (s ∷ says) h =
    subst (λ (x : LineSays). Rest moment typed (SampleLine w ∷ lines) (x ∷ says)) (sym h.1.2)
    (sample_rest moment typed w lines h.1.0 says h.0 h.1.1 (rest_of moment typed lines says h.2))

pub passed_over : PassedOver
passed_over piece moment typed exposition e =
    let w = read_is_written piece moment typed true exposition e in
    let r = rest_of moment typed w.0 w.1 w.5 in
    let utf8 : IsUtf8 (exposition_text (within_range w.0) w.2) = utf8_within w.0 (codes "# EOF" ++ end_text w.2)
    (subst IsUtf8 w.3 w.4) in record {
      lines = w.0;
      ended = w.2;
      is = w.3;
      rest = exposition_of moment typed r.rest;
      is_rest = written_is_read (within_range w.0) r.rest w.2 moment typed false r.are utf8;
      metrics = ap (λ (x : Exposition). x.metrics) w.6 ∙ r.metrics [];
      passed = ap (λ (x : Exposition). x.passed) w.6
          ∙ counts (passed_in w.1) (passed_in r.rest) (count_beyond w.0) r.passed;
      out_of_range = ap (λ (x : Exposition). x.out_of_range) w.6 ∙ ap (λ (n : ℕ). min n (2 ^ 32 - 1)) r.out;
    }
  where
    counts : (a b n : ℕ) → a ≡ b + n → min a (2 ^ 32 - 1) ≡ min (min b (2 ^ 32 - 1) + n) (2 ^ 32 - 1)
    counts a b n e = omega arith

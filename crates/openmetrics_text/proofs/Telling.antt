-- What stands where a fault is.
use Rattle.std.proofs.Common.{◌≡◌, ◌≢◌, ℕ, ℤ, zero, suc, ◌+◌, ◌<◌, ◌≤◌, Bool, true, false, cond, List, [], ◌∷◌, ◌++◌}
use Rattle.std.proofs.Common.{length, get_or, take, drop, Option, Result, Ok, Err, Some, None, refl, sym, ap, subst}
use Rattle.std.proofs.Common.{◌∙◌, append_assoc, append-nil, arith, inl, inr}
use Rattle.std.specs.Prelude.{◌==◌, ◌&&◌, ◌||◌, ◌⊎◌, not, codes, nat_lt}
use Rattle.std.specs.List.{slice_split, join_with_byte}
use Rattle.std.specs.Str.{is_utf8}
use Rattle.std.specs.Str.Lossy.{utf8_valid_len}
use Rattle.std.proofs.lemmas.Bool.{eqb-true, eq-eqb, ltb-true, and_parts}
use Rattle.std.proofs.lemmas.List.{length-drop}
use Rattle.std.proofs.lemmas.List.Splits.{join_with_byte-slice_split}
use Rattle.std.proofs.lemmas.Str.{IsUtf8-from_is_utf8}
use Rattle.fixed_num.specs.declared.fixed.NumFault.{NumFault}
use Rattle.fixed_num.specs.declared.fixed.NumFault.TheVariants as numbers
use Rattle.fixed_num.specs.Fixed.{read_as}
use Rattle.text_parts.specs.Chain.{◌>>=◌}
use Rattle.text_parts.specs.Grammar.{HasNone}
use Rattle.text_parts.specs.Many.{many_at, items_at}
use Rattle.text_parts.specs.Part.{len_at, text_at}
use Rattle.text_parts.specs.Offsets.{word_at, is_decimal}
use Rattle.text_parts.specs.Split.{PartAt, is_byte, first_part, placed, parts_of, each}
use Rattle.text_parts.proofs.Faulty.{Faulty, same_err, not_both, none_faulty, one_faulty, next_faulty, test_faulty}
use Rattle.text_parts.proofs.Faulty.{each_faulty}
use Rattle.text_parts.proofs.Founds.{bind_ok, same_ok, taken_ok}
use Rattle.text_parts.proofs.OffsetLemmas.{byte_behind, Standing, all_stand, standing_word, IsNumeric, decimal_numeric}
use Rattle.text_parts.proofs.Splits.{first_is_cut, parts_none}
use Rattle.text_parts.proofs.Stands.{byte_spans, front_spans}
use Rattle.text_parts.proofs.Takes.{At, at_start, step, over, not_none}
use Rattle.text_parts.proofs.ValidFronts.{valid_up_to}
use Rattle.metric.specs.Draft.{Tag}
use Rattle.openmetrics_text.specs.declared.fault.ExpositionFault.{ExpositionFault}
use Rattle.openmetrics_text.specs.declared.fault.ExpositionKind.{ExpositionKind}
use Rattle.openmetrics_text.specs.declared.fault.ExpositionKind.TheVariants as kinds
use Rattle.openmetrics_text.specs.declared.number.Number.{Number}
use Rattle.openmetrics_text.specs.declared.number.Number.TheVariants.{Decimal, NoDecimal, OutOfRange}
use Rattle.openmetrics_text.specs.declared.number.Time.{Time}
use Rattle.openmetrics_text.specs.declared.number.Time.TheVariants as times
use Rattle.openmetrics_text.specs.Faults.{fault, placed_at}
use Rattle.openmetrics_text.specs.Names.{ends_name, name_len, is_name}
use Rattle.openmetrics_text.specs.Labels.{value_part, label_len, is_opened_at, label_name_at, label_value_at, label_at}
use Rattle.openmetrics_text.specs.Labels.{some_labels_at, has_twice, names_of, closed_at, labels_at}
use Rattle.openmetrics_text.specs.Sample.{Head, braced, head_of, behind_space, Shape, is_exemplar, timed, numbered}
use Rattle.openmetrics_text.specs.Sample.{shape_of, is_no_decimal, lower, number_from, number_of, time_at, time_from}
use Rattle.openmetrics_text.specs.Sample.{time_of, Said, is_out_of_range, number_said, limited, sample_of}
use Rattle.openmetrics_text.specs.Lines.{LineSays, Typed, Sampled, is_type, Nothing, typed, type_line, about_line}
use Rattle.openmetrics_text.specs.Lines.{type_word, help_word, unit_word, begins_with, hash_line, sample_line, line_of}
use Rattle.openmetrics_text.specs.Grammar.{WrittenSample, labels_text, braces_text, time_text, exemplar_text}
use Rattle.openmetrics_text.specs.Grammar.{sample_text, WrittenLine, TypeLine, HelpLine, UnitLine, OtherLine}
use Rattle.openmetrics_text.specs.Grammar.{SampleLine, line_text, end_text, IsName, HasNoSpace, IsSample, IsLine}
use Rattle.openmetrics_text.specs.Reading.{line_at, exposition_of, lines_reading, before_last, without_newline}
use Rattle.openmetrics_text.specs.Reading.{ended_reading, text_reading, reading}
use Rattle.openmetrics_text.specs.FaultLines.{IsShaped, HasLabels, HasNoShape, IsTimed, LineTells, BeginsLine}
use Rattle.openmetrics_text.specs.FaultLines.{EndsWithEof, StandsAt, Says, FaultSays}
use Rattle.openmetrics_text.proofs.Takes.{name_first, name_takes, labels_take, head_takes, behind_takes}
use Rattle.openmetrics_text.proofs.Founds.{found_name, labels_again}
use Rattle.openmetrics_text.proofs.Spells.{line_takes, end_taken, before_some}
use Rattle.openmetrics_text.proofs.Wholes.{head_again, shape_again, newline_again, before_again}

-- ---- labels

-- each fault between braces is of one kind
abbrev IsLabelFault : ExpositionKind → Type 0
IsLabelFault kind = kind ≡ kinds.BadLabel

bad_label : {A : Type 0} → Faulty {A = A} IsLabelFault (Err kinds.BadLabel)
bad_label = one_faulty IsLabelFault kinds.BadLabel refl

label_name_bad : (line : List ℕ) (i : ℕ) → Faulty IsLabelFault (label_name_at line i)
unfolding label_name_at
label_name_bad line i = test_faulty IsLabelFault (label_len line i == 0
    || not (is_opened_at line (i + label_len line i))) (Err kinds.BadLabel) _ (λ e. bad_label)
    (λ e. none_faulty IsLabelFault _)

label_value_bad : (line : List ℕ) (i : ℕ) → Faulty IsLabelFault (label_value_at line i)
unfolding label_value_at
label_value_bad line i =
    test_faulty IsLabelFault (get_or line (i + len_at value_part line i) 0 == 34)
    (Ok (text_at value_part line i, i + len_at value_part line i + 1)) (Err kinds.BadLabel)
    (λ e. none_faulty IsLabelFault _) (λ e. bad_label)

label_bad : (line : List ℕ) (i : ℕ) → Faulty IsLabelFault (label_at line i)
unfolding label_at
label_bad line i =
    next_faulty IsLabelFault (label_name_at line i) _ (label_name_bad line i)
    (λ name e. next_faulty IsLabelFault (label_value_at line name.1) _ (label_value_bad line name.1)
    (λ value f. none_faulty IsLabelFault _))

many_bad : (line : List ℕ) (n i : ℕ) → Faulty IsLabelFault (many_at label_at 44 n line i)
unfolding many_at
many_bad line zero i = none_faulty IsLabelFault ([], i)
many_bad line (suc n) i =
    test_faulty IsLabelFault (get_or line i 0 == 44) (label_at line (i + 1) >>= λ first. many_at label_at 44 n line
    first.1 >>= λ others. Ok (first.0 ∷ others.0, others.1)) (Ok ([], i))
    (λ test. next_faulty IsLabelFault (label_at line (i + 1)) _ (label_bad line (i + 1))
    (λ first e. next_faulty IsLabelFault (many_at label_at 44 n line first.1) _ (many_bad line n first.1)
    (λ others f. none_faulty IsLabelFault _)))
    (λ test. none_faulty IsLabelFault ([], i))

some_bad : (line : List ℕ) (i : ℕ) → Faulty IsLabelFault (some_labels_at line i)
unfolding some_labels_at
some_bad line i =
    next_faulty IsLabelFault (label_at line i) _ (label_bad line i)
    (λ first e. next_faulty IsLabelFault (items_at label_at 44 line first.1) _ (many_bad line (length line) first.1)
    (λ others f. none_faulty IsLabelFault _))

labels_bad : (line : List ℕ) (i : ℕ) → Faulty IsLabelFault (labels_at line i)
unfolding labels_at
labels_bad line i =
    test_faulty IsLabelFault (get_or line i 0 == 125) (Ok ([], i + 1)) (some_labels_at line i >>= closed_at line)
    (λ e. none_faulty IsLabelFault ([], i + 1))
    (λ e. next_faulty IsLabelFault (some_labels_at line i) (closed_at line) (some_bad line i)
    (λ labels f. test_faulty IsLabelFault (not (get_or line labels.1 0 == 125) || has_twice [] (names_of labels.0))
    (Err kinds.BadLabel) (Ok (labels.0, labels.1 + 1)) (λ g. bad_label) (λ g. none_faulty IsLabelFault _)))

-- where labels stand they are read
labels_stand : (line : List ℕ) (i : ℕ) (rest : List ℕ) → drop i line ≡ rest → i ≤ length line → HasLabels rest
    → (f : ExpositionKind) → labels_at line i ≡ Err f → ⊥
labels_stand line i rest is le h f e =
    let at : At line i (labels_text h.written ++ 125 ∷ h.rest) =
    record { is = is ∙ h.is; within = omega (arith, ap length (is ∙ h.is), length-drop i line) } in
    let took = labels_take line i h.written h.rest h.labels at h.are h.distinct in
    not_both (labels_at line i) (h.labels, took.0) f took.1 e

-- ---- the head

-- a fault of a line is that it has no shape, or what stands in it tells
abbrev Tells : Bool → List ℕ → ExpositionKind → Type 0
Tells passing line kind = (kind ≡ kinds.BadLine) ⊎ LineTells passing line kind

bad_line : {A : Type 0} (passing : Bool) (line : List ℕ) → Faulty {A = A} (Tells passing line) (Err kinds.BadLine)
bad_line passing line = one_faulty (Tells passing line) kinds.BadLine (inl refl)

head_faulty : (passing : Bool) (line : List ℕ) → Faulty (Tells passing line) (head_of line)
unfolding head_of
head_faulty passing line =
    test_faulty (Tells passing line) (name_len ends_name line == 0) (Err kinds.BadLine) _ (λ e. bad_line passing line)
    (λ some. test_faulty (Tells passing line) (get_or line (name_len ends_name line) 0 == 123)
    (braced line (name_len ends_name line)) _
    (λ brace. next_faulty (Tells passing line) (labels_at line (name_len ends_name line + 1)) _
    (labels_faulty some (eqb-true (get_or line (name_len ends_name line) 0) 123 brace))
    (λ labels f. none_faulty (Tells passing line) _))
    (λ other. none_faulty (Tells passing line) _))
  where
    labels_faulty : (name_len ends_name line == 0) ≡ false → get_or line (name_len ends_name line) 0 ≡ 123
        → Faulty (Tells passing line) (labels_at line (name_len ends_name line + 1))
    labels_faulty some brace =
        let name = found_name ends_name line some in
        let front = front_spans line 0 (name_len ends_name line) (omega (arith, name.1)) in
        let byte = byte_spans line (name_len ends_name line) 123 (omega arith) brace in
        let zero_more : 0 + name_len ends_name line ≡ name_len ends_name line = omega arith in
        let behind : drop (0 + name_len ends_name line) line ≡ 123 ∷ drop (name_len ends_name line + 1) line =
        ap (λ (n : ℕ). drop n line) zero_more ∙ byte.is in
        record {
          at = λ f e. subst (Tells passing line) (sym ((labels_bad line (name_len ends_name line + 1)).at f e))
              (inr (record {
                name = take (name_len ends_name line) line;
                rest = drop (name_len ends_name line + 1) line;
                is = front.is ∙ ap (λ (t : List ℕ). take (name_len ends_name line) line ++ t) behind;
                named = name.0;
                none = λ h. labels_stand line (name_len ends_name line + 1) (drop (name_len ends_name line + 1) line)
                    refl
                    byte.within h f e;
              }));
        }

-- ---- the number and the time

shape_faulty : (passing : Bool) (line text : List ℕ) → Faulty (Tells passing line) (shape_of text)
unfolding shape_of
shape_faulty passing line text = by_number (first_part 32 text).0 (first_part 32 text).1
  where
    by_time : (number time : List ℕ) (rest : Option (List ℕ)) → Faulty (Tells passing line) (timed number time rest)
    by_time number time None = none_faulty (Tells passing line) _
    by_time number time (Some rest) = test_faulty (Tells passing line) (is_exemplar rest) _ (Err kinds.BadLine)
        (λ e. none_faulty (Tells passing line) _) (λ e. bad_line passing line)

    by_number : (number : List ℕ) (rest : Option (List ℕ)) → Faulty (Tells passing line) (numbered number rest)
    by_number number None = none_faulty (Tells passing line) _
    by_number number (Some rest) =
        test_faulty (Tells passing line) (is_exemplar rest) _
        (timed number (first_part 32 rest).0 (first_part 32 rest).1) (λ e. none_faulty (Tells passing line) _)
        (λ e. by_time number (first_part 32 rest).0 (first_part 32 rest).1)

-- a number is a decimal, or in words
number_faulty : (P : ExpositionKind → Type 0) (text : List ℕ)
    → (is_decimal text ≡ false → is_no_decimal (lower text) ≡ false → P kinds.BadNumber) → Faulty P (number_of text)
unfolding number_of
number_faulty P text h = by_number (is_decimal text) (read_as text) (decimal_numeric text) h
  where
    by_number : (t : Bool) (r : Result ℤ NumFault) → IsNumeric t r
        → (t ≡ false → is_no_decimal (lower text) ≡ false → P kinds.BadNumber) → Faulty P (number_from text r)
    by_number t (Ok n) is h = none_faulty P (Decimal n)
    by_number t (Err numbers.NumberRange) is h = none_faulty P OutOfRange
    by_number t (Err numbers.NotANumber) is h = test_faulty P (is_no_decimal (lower text)) (Ok NoDecimal)
        (Err kinds.BadNumber) (λ e. none_faulty P NoDecimal) (λ e. one_faulty P kinds.BadNumber (h is e))

number_out : (text : List ℕ) → number_of text ≡ Ok OutOfRange → is_decimal text ≡ true
unfolding number_of
number_out text e = by_number (is_decimal text) (read_as text) (decimal_numeric text) e
  where
    neither : (t : Bool) → cond {A = Result Number ExpositionKind} t (Ok NoDecimal)
        (Err kinds.BadNumber) ≡ Ok OutOfRange → ⊥
    neither true e = let same : NoDecimal ≡ OutOfRange = same_ok {F = ExpositionKind} NoDecimal OutOfRange e in
        absurd cc
    neither false e = absurd cc

    by_number : (t : Bool) (r : Result ℤ NumFault) → IsNumeric t r → number_from text r ≡ Ok OutOfRange → t ≡ true
    by_number t (Ok n) is e = is
    by_number t (Err numbers.NumberRange) is e = is
    by_number t (Err numbers.NotANumber) is e = absurd (neither (is_no_decimal (lower text)) e)

time_faulty : (P : ExpositionKind → Type 0) (written : Option (List ℕ)) → (IsTimed false written → P kinds.BadTime)
    → Faulty P (time_of written)
unfolding time_of
time_faulty P None h = none_faulty P times.Unwritten
time_faulty P (Some text) h = by_number (is_decimal text) (read_as text) (decimal_numeric text) h
  where
    by_number : (t : Bool) (r : Result ℤ NumFault) → IsNumeric t r → (t ≡ false → P kinds.BadTime)
        → Faulty P (time_from r)
    by_number t (Ok n) is h = none_faulty P (time_at n)
    by_number t (Err numbers.NumberRange) is h = none_faulty P times.OutOfRange
    by_number t (Err numbers.NotANumber) is h = one_faulty P kinds.BadTime (h is)

time_out : (written : Option (List ℕ)) → time_of written ≡ Ok times.OutOfRange → IsTimed true written
unfolding time_of
time_out None e = let same : times.Unwritten ≡ times.OutOfRange =
    same_ok {F = ExpositionKind} times.Unwritten times.OutOfRange e in absurd cc
time_out (Some text) e = by_number (is_decimal text) (read_as text) (decimal_numeric text) e
  where
    by_number : (t : Bool) (r : Result ℤ NumFault) → IsNumeric t r → time_from r ≡ Ok times.OutOfRange → t ≡ true
    by_number t (Ok n) is e = is
    by_number t (Err numbers.NumberRange) is e = is
    by_number t (Err numbers.NotANumber) is e = absurd cc

out_of_range : (text : List ℕ) (written : Option (List ℕ)) (number : Number) (time : Time) → number_of text ≡ Ok number
    → time_of written ≡ Ok time → is_out_of_range (number_said number time) ≡ true
    → (is_decimal text ≡ true) ⊎ IsTimed true written
out_of_range text written number times.OutOfRange n t e = inr (time_out written t)
out_of_range text written OutOfRange times.Unwritten n t e = inl (number_out text n)
out_of_range text written OutOfRange (times.At time) n t e = inl (number_out text n)
out_of_range text written (Decimal number) times.Unwritten n t e = absurd cc
out_of_range text written (Decimal number) (times.At time) n t e = absurd cc
out_of_range text written NoDecimal times.Unwritten n t e = absurd cc
out_of_range text written NoDecimal (times.At time) n t e = absurd cc

-- what is read behind the shape of a sample
abbrev end_of : Bool → Head → Shape → Result Said ExpositionKind
end_of passing head shape = number_of shape.number >>= λ number. time_of shape.time >>= λ time. limited passing head
    number time

not_passing : (passing : Bool) → not passing ≡ true → passing ≡ false
not_passing true e = absurd cc
not_passing false e = refl

end_faulty : (P : ExpositionKind → Type 0) (passing : Bool) (head : Head) (shape : Shape)
    → (is_decimal shape.number ≡ false → is_no_decimal (lower shape.number) ≡ false → P kinds.BadNumber)
    → (IsTimed false shape.time → P kinds.BadTime)
    → (passing ≡ false → (is_decimal shape.number ≡ true) ⊎ IsTimed true shape.time → P kinds.NumberRange)
    → (64 < length head.labels → P kinds.TooMany) → Faulty P (end_of passing head shape)
unfolding limited
end_faulty P passing head shape number time range many =
    next_faulty P (number_of shape.number) _ (number_faulty P shape.number number)
    (λ n e. next_faulty P (time_of shape.time) _ (time_faulty P shape.time time)
    (λ t f. test_faulty P (is_out_of_range (number_said n t) && not passing) (Err kinds.NumberRange) _
    (λ out. let both = and_parts (is_out_of_range (number_said n t))
    (not passing) out in one_faulty P kinds.NumberRange
    (range (not_passing passing both.1) (out_of_range shape.number shape.time n t e f both.0)))
    (λ within. test_faulty P (nat_lt 64 (length head.labels)) (Err kinds.TooMany) _
    (λ more. one_faulty P kinds.TooMany (many (ltb-true 64 (length head.labels) more))) (λ few. none_faulty P _))))

-- ---- a sample

-- a line whose head and shape were read is shaped
shaped : (line : List ℕ) (head : Head) (text : List ℕ) (shape : Shape) → head_of line ≡ Ok head
    → behind_space line head.behind ≡ Ok text → shape_of text ≡ Ok shape
    → (w : WrittenSample) × IsShaped line w head.labels × (w.number ≡ shape.number) × (w.time ≡ shape.time)
unfolding behind_space
shaped line head text shape h s e =
    let r = head_again line head h in
    let space = taken_ok (get_or line head.behind 0 == 32) _ _ _ s in
    let rest = same_ok (drop (head.behind + 1) line) text space.1 in
    let byte = byte_spans line head.behind 32 (omega arith) (eqb-true (get_or line head.behind 0) 32 space.0) in
    let sh = shape_again text shape e in
    let behind : drop head.behind line ≡ 32 ∷ (shape.number ++ (time_text shape.time ++ exemplar_text sh.exemplar)) =
    byte.is ∙ ap (λ (t : List ℕ). 32 ∷ t) (rest ∙ sh.is) in
    let whole : line ≡ head.name ++ (braces_text r.braces ++ 32 ∷
    (shape.number ++ (time_text shape.time ++ exemplar_text sh.exemplar))) =
    r.spans.is ∙ ap (λ (t : List ℕ). (head.name ++ braces_text r.braces) ++ t) behind
    ∙ append_assoc head.name (braces_text r.braces) (32 ∷ (shape.number
    ++ (time_text shape.time ++ exemplar_text sh.exemplar))) in (
      record { name = head.name; labels = r.braces; number = shape.number; time = shape.time; exemplar = sh.exemplar },
      record {
        is = whole;
        name = r.name;
        are_labels = r.labels;
        distinct = r.distinct;
        number_whole = sh.number_whole;
        time_whole = sh.time_whole;
      },
      refl,
      refl,
    )

sample_faulty : (passing : Bool) (line : List ℕ) → Faulty (Tells passing line) (sample_of passing line)
unfolding sample_of behind_space
sample_faulty passing line =
    next_faulty (Tells passing line) (head_of line) _ (head_faulty passing line)
    (λ head h. next_faulty (Tells passing line) (behind_space line head.behind) _ (space_faulty head.behind)
    (λ text s. next_faulty (Tells passing line) (shape_of text) _ (shape_faulty passing line text)
    (λ shape e. let w = shaped line head text shape h s e in
    end_faulty (Tells passing line) passing head shape
    (λ no other. inr (
      w.0,
      head.labels,
      w.1,
      (
        ap is_decimal w.2 ∙ no,
        ap (λ (t : List ℕ). is_no_decimal (lower t)) w.2
            ∙ other,
      ),
    ))
    (λ time. inr (w.0, head.labels, w.1, subst (IsTimed false) (sym w.3) time))
    (λ strict out. inr (strict, (w.0, head.labels, w.1, ranged w.0 shape w.2 w.3 out)))
    (λ many. inr (w.0, head.labels, w.1, many)))))
  where
    space_faulty : (i : ℕ) → Faulty (Tells passing line) (behind_space line i)
    space_faulty i = test_faulty (Tells passing line) (get_or line i 0 == 32) (Ok (drop (i + 1) line))
        (Err kinds.BadLine) (λ e. none_faulty (Tells passing line) _) (λ e. bad_line passing line)

    ranged : (w : WrittenSample) (shape : Shape) → w.number ≡ shape.number → w.time ≡ shape.time
        → (is_decimal shape.number ≡ true) ⊎ IsTimed true shape.time
        → (is_decimal w.number ≡ true) ⊎ IsTimed true w.time
    ranged w shape n t (inl out) = inl (ap is_decimal n ∙ out)
    ranged w shape n t (inr out) = inr (subst (IsTimed true) (sym t) out)

-- a shape is read, whatever the number and the time are
shape_takes : (number : List ℕ) (written exemplar : Option (List ℕ)) → HasNone (is_byte 32) number → HasNoSpace written
    → (shape : Shape) × (shape_of (number ++ (time_text written ++ exemplar_text exemplar)) ≡ Ok shape)
unfolding shape_of
shape_takes number None None h k = (
  record { number = number; time = None },
  rw (append-nil, (first_is_cut 32 number [] h).0) refl,
)
shape_takes number None (Some text) h k = (
  record { number = number; time = None },
  rw ((first_is_cut 32 number (35 ∷ 32 ∷ text) h).1) refl,
)
shape_takes number (Some written) exemplar h k =
    let cut = (first_is_cut 32 number (written ++ exemplar_text exemplar) h).1 in
    elim (is_exemplar (written ++ exemplar_text exemplar)) as
    (λ t. is_exemplar (written ++ exemplar_text exemplar) ≡ t
    → (shape : Shape) × (shape_of (number ++ (32 ∷ (written ++ exemplar_text exemplar))) ≡ Ok shape)) [
      | true ↦ λ e. (record { number = number; time = None }, rw (cut, e) refl)
      | false ↦ λ e. let t = behind exemplar in (t.0, rw (cut, e) t.1)
    ] refl
  where
    behind : (exemplar : Option (List ℕ)) → (shape : Shape) × (timed number
        (first_part 32 (written ++ exemplar_text exemplar)).0 (first_part 32 (written ++ exemplar_text exemplar)).1 ≡ Ok
        shape)
    behind None = (
      record { number = number; time = Some written },
      rw (append-nil, (first_is_cut 32 written [] k).0) refl,
    )
    behind (Some text) = (
      record { number = number; time = Some written },
      rw ((first_is_cut 32 written (35 ∷ 32 ∷ text) k).1) refl,
    )

-- what is shaped as a sample is a line of another fault, or of none
sample_shaped : (passing : Bool) (line : List ℕ) (w : WrittenSample) (labels : List Tag) → IsShaped line w labels
    → sample_of passing line ≡ Err kinds.BadLine → ⊥
unfolding sample_of
sample_shaped passing line w labels s e =
    let rest : List ℕ = w.number ++ (time_text w.time ++ exemplar_text w.exemplar) in
    let head = head_takes w.name rest w.labels labels s.name s.are_labels s.distinct in
    let space = behind_takes (sample_text w) head.0 rest head.2 in
    let shape = shape_takes w.number w.time w.exemplar s.number_whole s.time_whole in
    let here : sample_of passing (sample_text w) ≡ Err kinds.BadLine = ap (sample_of passing) (sym s.is) ∙ e in
    let end : end_of passing
    (record { name = w.name; labels = labels; behind = head.0 }) shape.0 ≡ Err kinds.BadLine = rw
    (head.1, space, shape.1) at here in
    (end_faulty (λ (k : ExpositionKind). k ≢ kinds.BadLine) passing
    (record { name = w.name; labels = labels; behind = head.0 }) shape.0
    (λ no other g. absurd cc) (λ time g. absurd cc) (λ strict out g. absurd cc)
    (λ many g. absurd cc)).at kinds.BadLine end refl

-- ---- a line

hash_faulty : (passing : Bool) (line : List ℕ) → Faulty (Tells passing line) (hash_line line)
unfolding hash_line about_line type_line
hash_faulty passing line =
    test_faulty (Tells passing line) (begins_with type_word line) (type_line (drop 7 line)) _
    (λ e. by_type (drop 7 line))
    (λ e. test_faulty (Tells passing line) (begins_with help_word line) (about_line (drop 7 line)) _
    (λ f. about (drop 7 line))
    (λ f. test_faulty (Tells passing line) (begins_with unit_word line) (about_line (drop 7 line)) (Ok Nothing)
    (λ g. about (drop 7 line)) (λ g. none_faulty (Tells passing line) Nothing)))
  where
    about : (text : List ℕ) → Faulty (Tells passing line) (about_line text)
    about text = test_faulty (Tells passing line) (is_name (first_part 32 text).0) (Ok Nothing) (Err kinds.BadLine)
        (λ e. none_faulty (Tells passing line) Nothing) (λ e. bad_line passing line)

    kinded : (name : List ℕ) (kind : Option (List ℕ)) → Faulty (Tells passing line) (typed name kind)
    kinded name None = bad_line passing line
    kinded name (Some kind) = test_faulty (Tells passing line) (is_type kind) (Ok (Typed name kind)) (Err kinds.BadLine)
        (λ e. none_faulty (Tells passing line) _) (λ e. bad_line passing line)

    by_type : (text : List ℕ) → Faulty (Tells passing line) (type_line text)
    by_type text = test_faulty (Tells passing line) (is_name (first_part 32 text).0)
        (typed (first_part 32 text).0 (first_part 32 text).1) (Err kinds.BadLine)
        (λ e. kinded (first_part 32 text).0 (first_part 32 text).1) (λ e. bad_line passing line)

line_tells : (passing : Bool) (line : List ℕ) → Faulty (Tells passing line) (line_of passing line)
unfolding line_of sample_line
line_tells passing line =
    test_faulty (Tells passing line) (get_or line 0 0 == 35) (hash_line line)
    (sample_of passing line >>= λ said. Ok (Sampled said)) (λ hash. hash_faulty passing line)
    (λ other. next_faulty (Tells passing line) (sample_of passing line) (λ said. Ok (Sampled said))
    (sample_faulty passing line) (λ said e. none_faulty (Tells passing line) (Sampled said)))

-- a line that begins with a name is read as a sample
named_line : (passing : Bool) (line name rest : List ℕ) → line ≡ name ++ rest → IsName ends_name name
    → line_of passing line ≡ (sample_of passing line >>= λ said. Ok (Sampled said))
unfolding line_of sample_line
named_line passing line name rest is named =
    let first : (get_or line 0 0 == 35) ≡ false = ap (λ (t : List ℕ). get_or t 0 0 == 35) is
    ∙ name_first ends_name name rest 35 named refl in
    rw first refl

-- a sample that fails where its line does
sampled_bad : (r : Result Said ExpositionKind) (f : ExpositionKind) → (r >>= λ said. Ok (Sampled said)) ≡ Err f
    → r ≡ Err f
sampled_bad (Ok said) f e = absurd (not_both {A = LineSays} (Ok (Sampled said)) (Sampled said) f refl e)
sampled_bad (Err g) f e = ap (λ (k : ExpositionKind). Err k) (same_err {A = LineSays} g f e)

-- behind a name and a brace, where no labels stand, a sample has a fault of that kind
module _ (name rest : List ℕ) (named : IsName ends_name name) (none : HasLabels rest → ⊥) where
  abbrev braced_line : List ℕ
  braced_line = name ++ 123 ∷ rest

  behind_brace : At braced_line (length name + 1) rest
  behind_brace = subst (λ (n : ℕ). At braced_line (n + 1) rest) (omega arith)
      (over braced_line (0 + length name) 123 rest (step braced_line 0 name (123 ∷ rest) (at_start braced_line)))

  head_is : head_of braced_line ≡ braced braced_line (length name)
  unfolding head_of
  head_is =
      let len : name_len ends_name braced_line ≡ length name = name_takes ends_name name 123 rest named refl in
      let brace : (get_or braced_line (length name) 0 == 123) ≡ true = eq-eqb _ _ (byte_behind name rest 123) in
      rw (len, not_none name named.filled, brace) refl

  head_bad : Faulty IsLabelFault (head_of braced_line)
  head_bad =
      subst (Faulty IsLabelFault) (sym head_is) (next_faulty IsLabelFault (labels_at braced_line (length name + 1)) _
      (labels_bad braced_line (length name + 1)) (λ labels e. none_faulty IsLabelFault _))

  no_head : (head : Head) → head_of braced_line ≡ Ok head → ⊥
  no_head head e =
      let l = bind_ok (labels_at braced_line (length name + 1)) _ head (sym head_is ∙ e) in
      let b = labels_again braced_line (length name + 1) l.0.1 l.0.0 (omega (arith, behind_brace.within)) l.1 in
      none (record {
        written = b.written;
        labels = l.0.0;
        rest = drop l.0.1 braced_line;
        is = sym behind_brace.is ∙ b.spans.is ∙ append_assoc (labels_text b.written) (125 ∷ [])
            (drop l.0.1 braced_line);
        are = b.are;
        distinct = b.distinct;
      })

  unlabelled : (passing : Bool) → Faulty IsLabelFault (sample_of passing braced_line)
  unfolding sample_of
  unlabelled passing = next_faulty IsLabelFault (head_of braced_line) _ head_bad (λ head e. absurd (no_head head e))

not_bad_line : (r : Result Said ExpositionKind) → Faulty IsLabelFault r → r ≡ Err kinds.BadLine → ⊥
not_bad_line r h e = let same : kinds.BadLine ≡ kinds.BadLabel = h.at kinds.BadLine e in absurd cc

-- a sample that is written is shaped
sample_is_shaped : (passing : Bool) (w : WrittenSample) (said : Said) → IsSample passing w said
    → IsShaped (sample_text w) w said.labels
sample_is_shaped passing w said is = record {
  is = refl;
  name = is.name;
  are_labels = is.labels;
  distinct = is.distinct;
  number_whole = is.number_whole;
  time_whole = is.time_whole;
}

-- what is shaped as a sample isn't read as a line without a shape
shaped_line : (passing : Bool) (line : List ℕ) (w : WrittenSample) (labels : List Tag) → IsShaped line w labels
    → line_of passing line ≡ Err kinds.BadLine → ⊥
shaped_line passing line w labels s e =
    sample_shaped passing line w labels s
    (sampled_bad (sample_of passing line) kinds.BadLine
    (sym (named_line passing line w.name
    (braces_text w.labels ++ 32 ∷ (w.number ++ (time_text w.time ++ exemplar_text w.exemplar))) s.is s.name) ∙ e))

-- a line that is written isn't read as one without a shape
written_line : (passing : Bool) (w : WrittenLine) (says : LineSays) → IsLine true w says
    → line_of passing (line_text w) ≡ Err kinds.BadLine → ⊥
written_line passing (TypeLine name kind) says is e = not_both
    (line_of passing (line_text (TypeLine name kind))) says kinds.BadLine
    (line_takes passing (TypeLine name kind) says is) e
written_line passing (HelpLine name text) says is e = not_both
    (line_of passing (line_text (HelpLine name text))) says kinds.BadLine
    (line_takes passing (HelpLine name text) says is) e
written_line passing (UnitLine name text) says is e = not_both
    (line_of passing (line_text (UnitLine name text))) says kinds.BadLine
    (line_takes passing (UnitLine name text) says is) e
written_line passing (OtherLine text) says is e = not_both
    (line_of passing (line_text (OtherLine text))) says kinds.BadLine (line_takes passing (OtherLine text) says is) e
written_line passing (SampleLine sample) says is e = shaped_line passing (sample_text sample) sample (is.0).labels
    (sample_is_shaped true sample is.0 is.1) e

no_shape : (passing : Bool) (line : List ℕ) → line_of passing line ≡ Err kinds.BadLine → HasNoShape line
no_shape passing line e = record {
  no_line = λ w says is same. written_line passing w says is (ap (line_of passing) same ∙ e);
  no_sample = λ w labels s. shaped_line passing line w labels s e;
  no_fault = λ h.
      let sample = sampled_bad (sample_of passing line) kinds.BadLine
      (sym (named_line passing line h.name (123 ∷ h.rest) h.is h.named) ∙ e) in
      not_bad_line (sample_of passing (h.name ++ 123 ∷ h.rest)) (unlabelled h.name h.rest h.named h.none passing)
      (ap (sample_of passing) (sym h.is) ∙ sample);
}

line_faulty : (passing : Bool) (line : List ℕ) → Faulty (LineTells passing line) (line_of passing line)
line_faulty passing line = record {
  at = λ f e. elim ((line_tells passing line).at f e) [
    | inl bad ↦ subst (LineTells passing line) (sym bad) (no_shape passing line
        (e ∙ ap (λ (k : ExpositionKind). Err k) bad))
    | inr tells ↦ tells
  ];
}

-- ---- the lines

-- a line that has a fault has it where it stands in the piece
module _ (passing : Bool) (piece : List ℕ) (offset : ℕ) (line : List ℕ) (begins : BeginsLine piece offset)
    (word : word_at (is_byte 10) piece offset ≡ line) where
  there : (kind : ExpositionKind) → LineTells passing line kind
      → BeginsLine piece offset × LineTells passing (word_at (is_byte 10) piece offset) kind
  there kind tells = (begins, subst (λ (l : List ℕ). LineTells passing l kind) (sym word) tells)

  -- the kinds of faults that lines have
  line_stands : (kind : ExpositionKind) → LineTells passing line kind → StandsAt passing piece offset kind
  line_stands kinds.OutOfMemory tells = absurd tells
  line_stands kinds.NoEof tells = absurd tells
  line_stands kinds.BadLine tells = there kinds.BadLine tells
  line_stands kinds.BadLabel tells = there kinds.BadLabel tells
  line_stands kinds.BadNumber tells = there kinds.BadNumber tells
  line_stands kinds.BadTime tells = there kinds.BadTime tells
  line_stands kinds.NumberRange tells = there kinds.NumberRange tells
  line_stands kinds.NotUtf8 tells = absurd tells
  line_stands kinds.TooMany tells = there kinds.TooMany tells

abbrev Stands : Bool → List ℕ → ExpositionFault → Type 0
Stands passing piece f = StandsAt passing piece f.offset f.kind

placed_faulty : {A : Type 0} (P : ExpositionFault → Type 0) (offset : ℕ) (r : Result A ExpositionKind)
    → ((kind : ExpositionKind) → r ≡ Err kind → P (record { kind = kind; offset = offset }))
    → Faulty P (placed_at offset r)
placed_faulty P offset (Ok x) h = none_faulty P x
placed_faulty P offset (Err kind) h = one_faulty P (record { kind = kind; offset = offset }) (h kind refl)

-- a line of a text with a newline behind it
line_at_faulty : (passing : Bool) (piece tail : List ℕ) (part : PartAt)
    → BeginsLine piece part.0 × Standing piece 10 (10 ∷ tail) part
    → Faulty (Stands passing piece) (line_at passing part)
unfolding line_at
line_at_faulty passing piece tail part s =
    placed_faulty (Stands passing piece) part.0 (line_of passing part.1)
    (λ kind e. line_stands passing piece part.0 part.1 s.0 (standing_word 10 piece (10 ∷ tail) part refl s.1) kind
    ((line_faulty passing part.1).at kind e))

lines_faulty : (passing : Bool) (piece text tail : List ℕ) → piece ≡ text ++ 10 ∷ tail
    → Faulty (Stands passing piece) (each (line_at passing) (parts_of 10 (0, text)))
unfolding parts_of
lines_faulty passing piece text tail is =
    let whole : piece ≡ join_with_byte 10 (slice_split (is_byte 10) text) ++ 10 ∷ tail =
    is ∙ ap (λ (t : List ℕ). t ++ 10 ∷ tail) (sym (join_with_byte-slice_split 10 text)) in
    let start : At piece 0 (join_with_byte 10 (slice_split (is_byte 10) text) ++ 10 ∷ tail) =
    subst (At piece 0) whole (at_start piece) in
    each_faulty (Stands passing piece) (λ (part : PartAt). BeginsLine piece part.0 × Standing piece 10 (10 ∷ tail) part)
    (line_at passing) (line_at_faulty passing piece tail) (placed 0 (slice_split (is_byte 10) text))
    (all_stand piece 10 (10 ∷ tail) (BeginsLine piece) (λ i f. inr f) 0 (slice_split (is_byte 10) text) (inl refl) start
    (parts_none (is_byte 10) text))

-- ---- the piece

-- where the last line is `# EOF`, it is found
eof_found : (piece : List ℕ) → EndsWithEof piece → before_last (without_newline piece) ≡ None → ⊥
eof_found piece h e = by_front h.begins (sym (ap before_last (ap without_newline h.is ∙ end_taken h.front h.ended)) ∙ e)
  where
    never : (a : Option (List ℕ)) → (let l : Option (Option (List ℕ)) = Some a in l) ≡ None → ⊥
    never a e = absurd cc

    by_front : (h.front ≡ []) ⊎ ((text : List ℕ) × (h.front ≡ text ++ 10 ∷ []))
        → before_last (h.front ++ codes "# EOF") ≡ None → ⊥
    by_front (inl none) e = never None (ap (λ (t : List ℕ). before_last (t ++ codes "# EOF")) (sym none) ∙ e)
    by_front (inr some) e =
        let split : h.front ++ codes "# EOF" ≡ some.0 ++ 10 ∷ codes "# EOF" =
        ap (λ (t : List ℕ). t ++ codes "# EOF") some.1 ∙ append_assoc some.0 (10 ∷ []) (codes "# EOF") in
        never (Some some.0) (sym (before_some some.0) ∙ ap before_last (sym split) ∙ e)

text_faulty : (piece : List ℕ) (moment : ℤ) (tagged passing : Bool)
    → Faulty (Stands passing piece) (text_reading piece moment tagged passing)
unfolding text_reading lines_reading each
text_faulty piece moment tagged passing = by_last (before_last (without_newline piece)) refl
  where
    split : (text : List ℕ) → before_last (without_newline piece) ≡ Some (Some text)
        → (tail : List ℕ) × (piece ≡ text ++ 10 ∷ tail)
    split text e =
        let n = newline_again piece in
        let end : List ℕ = codes "# EOF" ++ end_text n.0 in (
          codes "# EOF" ++ end_text n.0,
          n.1 ∙ ap (λ (t : List ℕ). t ++ end_text n.0) (before_again (without_newline piece) (Some text) e
              ∙ append_assoc text (10 ∷ []) (codes "# EOF")) ∙ append_assoc text (10 ∷ codes "# EOF") (end_text n.0),
        )

    by_last : (last : Option (Option (List ℕ))) → before_last (without_newline piece) ≡ last
        → Faulty (Stands passing piece) (ended_reading moment tagged passing (length piece) last)
    by_last None e = one_faulty (Stands passing piece) (record { kind = kinds.NoEof; offset = length piece })
        (refl, λ h. eof_found piece h e)
    by_last (Some None) e = next_faulty (Stands passing piece) (each (line_at passing) [])
        (λ lines. Ok (exposition_of moment tagged lines)) (none_faulty (Stands passing piece) [])
        (λ lines f. none_faulty (Stands passing piece) (exposition_of moment tagged lines))
    by_last (Some (Some text)) e =
        let s = split text e in
        next_faulty (Stands passing piece) (each (line_at passing) (parts_of 10 (0, text)))
        (λ lines. Ok (exposition_of moment tagged lines)) (lines_faulty passing piece text s.0 s.1)
        (λ lines f. none_faulty (Stands passing piece) (exposition_of moment tagged lines))

pub fault_says : FaultSays
unfolding reading
fault_says piece moment tagged passing f e =
    (test_faulty (Says passing piece) (is_utf8 piece) (text_reading piece moment tagged passing)
    (fault kinds.NotUtf8 (utf8_valid_len piece))
    (λ u. record {
      at = λ g is. record {
        utf8 = inr (IsUtf8-from_is_utf8 piece u);
        stands = (text_faulty piece moment tagged passing).at g is;
      };
    })
    (λ no. one_faulty (Says passing piece) (record { kind = kinds.NotUtf8; offset = utf8_valid_len piece })
    (record { utf8 = inl refl; stands = valid_up_to piece no }))).at f e

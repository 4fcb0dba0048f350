-- Where a fault is, and what stands there.
use Rattle.std.proofs.Common.{◌≡◌, ◌≢◌, ℕ, ℤ, zero, suc, ◌+◌, ◌≤◌, Bool, true, false, cond, ltb, List, [], ◌∷◌, ◌++◌}
use Rattle.std.proofs.Common.{length, Result, Ok, Err, Option, Some, None, refl, sym, ap, subst, ◌∙◌, arith, inl, inr}
use Rattle.std.specs.Str.{is_utf8}
use Rattle.std.specs.Str.Lossy.{utf8_valid_len}
use Rattle.std.proofs.lemmas.List.{length-append}
use Rattle.std.proofs.lemmas.Str.{IsUtf8-from_is_utf8, utf8_valid_len_le}
use Rattle.text_parts.specs.Chain.{◌>>=◌}
use Rattle.text_parts.specs.Offsets.{is_decimal}
use Rattle.text_parts.specs.Split.{PartAt}
use Rattle.text_parts.specs.Words.{words_of, spaces, Spaced, spaced_text, spaced_at, AreWords}
use Rattle.text_parts.proofs.Founds.{bind_ok, same_ok}
use Rattle.text_parts.proofs.Faulty.{Faulty, not_both, none_faulty, one_faulty, next_faulty, test_faulty}
use Rattle.text_parts.proofs.OffsetLemmas.{IsNumeric, decimal_numeric}
use Rattle.text_parts.proofs.ValidFronts.{valid_up_to}
use Rattle.text_parts.proofs.WordTexts.{spaced_are_words, words_are_spaced}
use Rattle.fixed_num.specs.declared.fixed.NumFault.{NumFault}
use Rattle.fixed_num.specs.declared.fixed.NumFault.TheVariants as numbers
use Rattle.fixed_num.specs.Fixed.{read_as}
use Rattle.metric.specs.Pairs.{in_key_order}
use Rattle.format_words.specs.declared.fault.ShapeFault.{ShapeFault}
use Rattle.format_words.specs.declared.fault.ShapeFault.TheVariants.{Malformed}
use Rattle.format_words.specs.Template.{Shape}
use Rattle.graphite_text.specs.declared.fault.GraphiteFault.{GraphiteFault}
use Rattle.graphite_text.specs.declared.fault.GraphiteKind.{GraphiteKind}
use Rattle.graphite_text.specs.declared.fault.GraphiteKind.TheVariants as kinds
use Rattle.graphite_text.specs.Path.{Path, path_of}
use Rattle.graphite_text.specs.Applied.{used}
use Rattle.graphite_text.specs.Reading.{fault, Line, last_word, words_behind, line_of, or_bad_path, number_at}
use Rattle.graphite_text.specs.Reading.{is_moment, is_minus_one, moment_of, time_of, Said, content_of, limited, said_of}
use Rattle.graphite_text.specs.Reading.{metric_reading, line_reading, text_reading, reading}
use Rattle.graphite_text.specs.Grammar.{time_words, IsTime, has_too_many}
use Rattle.graphite_text.specs.Faults.{HasWords, IsPath, StandsAt, Says, FaultIsWithin, FaultSays}
use Rattle.graphite_text.proofs.Spelling.{path_read, path_written}
use Rattle.graphite_text.proofs.Writtens.{number_ok, path_ok, moment_ok}

-- ---- the offset

abbrev Within : List ℕ → GraphiteFault → Type 0
Within piece f = f.offset ≤ length piece

number_within : (piece : List ℕ) (kind : GraphiteKind) (offset : ℕ) (r : Result ℤ NumFault) → offset ≤ length piece
    → Faulty (Within piece) (number_at kind offset r)
number_within piece kind offset (Ok n) le = none_faulty (Within piece) n
number_within piece kind offset (Err numbers.NotANumber) le =
    one_faulty (Within piece) (record { kind = kind; offset = offset }) le
number_within piece kind offset (Err numbers.NumberRange) le =
    one_faulty (Within piece) (record { kind = kinds.NumberRange; offset = offset }) le

moment_within : (piece : List ℕ) (offset : ℕ) (moment n : ℤ) → offset ≤ length piece
    → Faulty (Within piece) (moment_of offset moment n)
moment_within piece offset moment n le =
    test_faulty (Within piece) (is_minus_one n) (Ok moment) (cond (is_moment n) (Ok n) (fault kinds.NumberRange offset))
    (λ e. none_faulty (Within piece) moment)
    (λ e. test_faulty (Within piece) (is_moment n) (Ok n) (fault kinds.NumberRange offset)
    (λ g. none_faulty (Within piece) n)
    (λ g. one_faulty (Within piece) (record { kind = kinds.NumberRange; offset = offset }) le))

-- where the words of a line stand
record Stand (piece : List ℕ) (line : Line) : Type 0 where
  value : line.value.0 ≤ length piece
  time : (part : PartAt) → line.time ≡ Some part → part.0 ≤ length piece

time_within : (piece : List ℕ) (moment : ℤ) (time : Option PartAt)
    → ((part : PartAt) → time ≡ Some part → part.0 ≤ length piece) → Faulty (Within piece) (time_of moment time)
unfolding time_of
time_within piece moment None h = none_faulty (Within piece) moment
time_within piece moment (Some part) h =
    next_faulty (Within piece) (number_at kinds.BadTime part.0 (read_as part.1)) (moment_of part.0 moment)
    (number_within piece kinds.BadTime part.0 (read_as part.1) (h part refl))
    (λ n e. moment_within piece part.0 moment n (h part refl))

path_within : (piece : List ℕ) (r : Result Path ShapeFault) → Faulty (Within piece) (or_bad_path r)
path_within piece (Ok path) = none_faulty (Within piece) path
path_within piece (Err Malformed) = one_faulty (Within piece) (record { kind = kinds.BadPath; offset = 0 })
    (omega arith)

limited_within : (piece : List ℕ) (said : Said) → Faulty (Within piece) (limited said)
limited_within piece said =
    test_faulty (Within piece) (ltb 64 (length (in_key_order said.tags))) (fault kinds.TooMany 0)
    (Ok (Some (content_of said)))
    (λ e. one_faulty (Within piece) (record { kind = kinds.TooMany; offset = 0 }) (omega arith))
    (λ e. none_faulty (Within piece) (Some (content_of said)))

metric_within : (templates : List Shape) (separator piece : List ℕ) (line : Line) (moment : ℤ) → Stand piece line
    → Faulty (Within piece) (metric_reading templates separator line moment)
unfolding metric_reading
metric_within templates separator piece line moment stand =
    next_faulty (Within piece) (or_bad_path (path_of line.path.1)) _ (path_within piece (path_of line.path.1))
    (λ path e. next_faulty (Within piece) (number_at kinds.BadValue line.value.0 (read_as line.value.1)) _
    (number_within piece kinds.BadValue line.value.0 (read_as line.value.1) stand.value)
    (λ value f. next_faulty (Within piece) (time_of moment line.time) _ (time_within piece moment line.time stand.time)
    (λ time g. limited_within piece (said_of separator (used templates path.segments) path value time))))

-- ---- what stands there

-- a time at its offset
abbrev timed : ℕ → Option Spaced → Option PartAt
timed offset None = None
timed offset (Some word) = Some (offset, word.0)

time_found : (offset : ℕ) (moment : ℤ) (word : Option Spaced) (time : ℤ) → time_of moment (timed offset word) ≡ Ok time
    → IsTime moment word time
unfolding time_of
time_found offset moment None time e = sym (same_ok {F = GraphiteFault} moment time e)
time_found offset moment (Some word) time e =
    let n = bind_ok (number_at kinds.BadTime offset (read_as word.0)) _ time e in
    (n.0, number_ok kinds.BadTime offset (read_as word.0) n.0 n.1, moment_ok offset moment n.0 time n.2)

abbrev Stands : List Shape → List ℕ → List ℕ → ℤ → GraphiteFault → Type 0
Stands templates separator piece moment f = StandsAt templates separator piece moment f.offset f.kind

-- a number of the value's or the time's, or none
number_stands : (P : GraphiteFault → Type 0) (kind : GraphiteKind) (offset : ℕ) (text : List ℕ)
    → (is_decimal text ≡ false → P (record { kind = kind; offset = offset }))
    → (is_decimal text ≡ true → P (record { kind = kinds.NumberRange; offset = offset }))
    → Faulty P (number_at kind offset (read_as text))
number_stands P kind offset text bad out = by_number (is_decimal text) (read_as text) (decimal_numeric text) bad out
  where
    by_number : (t : Bool) (r : Result ℤ NumFault) → IsNumeric t r
        → (t ≡ false → P (record { kind = kind; offset = offset }))
        → (t ≡ true → P (record { kind = kinds.NumberRange; offset = offset }))
        → Faulty P (number_at kind offset r)
    by_number t (Ok n) is bad out = none_faulty P n
    by_number t (Err numbers.NotANumber) is bad out = one_faulty P (record { kind = kind; offset = offset }) (bad is)
    by_number t (Err numbers.NumberRange) is bad out = one_faulty P
        (record { kind = kinds.NumberRange; offset = offset }) (out is)

-- a number of seconds that was read was a decimal
decimal_read : (kind : GraphiteKind) (offset : ℕ) (text : List ℕ) (n : ℤ) → number_at kind offset (read_as text) ≡ Ok n
    → is_decimal text ≡ true
decimal_read kind offset text n e = by_number (is_decimal text) (read_as text) (decimal_numeric text) e
  where
    by_number : (t : Bool) (r : Result ℤ NumFault) → IsNumeric t r → number_at kind offset r ≡ Ok n → t ≡ true
    by_number t (Ok m) is e = is
    by_number t (Err numbers.NotANumber) is e = absurd cc
    by_number t (Err numbers.NumberRange) is e = is

moment_stands : (P : GraphiteFault → Type 0) (offset : ℕ) (moment n : ℤ)
    → P (record { kind = kinds.NumberRange; offset = offset }) → Faulty P (moment_of offset moment n)
moment_stands P offset moment n h =
    test_faulty P (is_minus_one n) (Ok moment) (cond (is_moment n) (Ok n) (fault kinds.NumberRange offset))
    (λ e. none_faulty P moment)
    (λ e. test_faulty P (is_moment n) (Ok n) (fault kinds.NumberRange offset) (λ g. none_faulty P n)
    (λ g. one_faulty P (record { kind = kinds.NumberRange; offset = offset }) h))

time_stands : (P : GraphiteFault → Type 0) (offset : ℕ) (moment : ℤ) (time : Option Spaced)
    → ((word : Spaced) → time ≡ Some word → is_decimal word.0 ≡ false
    → P (record { kind = kinds.BadTime; offset = offset }))
    → ((word : Spaced) → time ≡ Some word → is_decimal word.0 ≡ true
    → P (record { kind = kinds.NumberRange; offset = offset }))
    → Faulty P (time_of moment (timed offset time))
unfolding time_of
time_stands P offset moment None bad out = none_faulty P moment
time_stands P offset moment (Some word) bad out =
    next_faulty P (number_at kinds.BadTime offset (read_as word.0)) (moment_of offset moment)
    (number_stands P kinds.BadTime offset word.0 (bad word refl) (out word refl))
    (λ n e. moment_stands P offset moment n (out word refl (decimal_read kinds.BadTime offset word.0 n e)))

path_stands : (P : GraphiteFault → Type 0) (r : Result Path ShapeFault)
    → ((f : ShapeFault) → r ≡ Err f → P (record { kind = kinds.BadPath; offset = 0 })) → Faulty P (or_bad_path r)
path_stands P (Ok path) h = none_faulty P path
path_stands P (Err Malformed) h = one_faulty P (record { kind = kinds.BadPath; offset = 0 }) (h Malformed refl)

-- no path is refused
no_path : (text : List ℕ) (f : ShapeFault) → path_of text ≡ Err f → IsPath text → ⊥
no_path text f e is = not_both (path_of text) is.0 f (ap path_of is.2 ∙ path_read is.0 is.1) e

-- the words of a line, each at its offset
module _ (templates : List Shape) (separator piece : List ℕ) (moment : ℤ) (before : ℕ) (path value : Spaced)
    (time : Option Spaced)
    (is : piece ≡ spaces before ++ spaced_text (path ∷ value ∷ time_words time))
    (are : AreWords (path ∷ value ∷ time_words time)) where
  abbrev P : GraphiteFault → Type 0
  P f = Stands templates separator piece moment f

  abbrev next : ℕ
  next = 0 + before + length path.0 + path.1

  abbrev last : ℕ
  last = 0 + before + length path.0 + path.1 + length value.0 + value.1

  abbrev line : Line
  line = record { path = (0 + before, path.0); value = (next, value.0); time = timed last time }

  words : words_of (0, piece) ≡ (0 + before, path.0) ∷ (next, value.0) ∷ spaced_at last (time_words time)
  words = ap (λ (text : List ℕ). words_of (0, text)) is ∙ spaced_are_words 0 before (path ∷ value ∷ time_words time) are

  few : length (spaced_at last (time_words time)) ≤ 1
  few = at_most time
    where
      at_most : (t : Option Spaced) → length (spaced_at last (time_words t)) ≤ 1
      at_most None = omega arith
      at_most (Some word) = omega arith

  has : HasWords piece (0 + before, path.0) (next, value.0) (spaced_at last (time_words time))
  has = record { are = words; few = few }

  third : (word : Spaced) → time ≡ Some word → HasWords piece (0 + before, path.0) (next, value.0) ((last, word.0) ∷ [])
  third word e = subst (λ (t : Option Spaced). HasWords piece (0 + before, path.0) (next, value.0)
      (spaced_at last (time_words t))) e has

  too_many : (p : Path) (v t : ℤ) → or_bad_path (path_of path.0) ≡ Ok p
      → number_at kinds.BadValue next (read_as value.0) ≡ Ok v → time_of moment (timed last time) ≡ Ok t
      → has_too_many (said_of separator (used templates p.segments) p v t) ≡ true
      → P (record { kind = kinds.TooMany; offset = 0 })
  too_many p v t a b c many =
      let found = path_written path.0 p (path_ok (path_of path.0) p a) in record {
        written = record {
          before = before;
          path = p;
          path_spaces = path.1;
          value = value.0;
          value_spaces = value.1;
          time = time;
        };
        value = v;
        time = t;
        is = is ∙ ap (λ (text : List ℕ). spaces before ++ spaced_text ((text, path.1) ∷ value ∷ time_words time))
            found.0;
        line = record {
          words = subst (λ (text : List ℕ). AreWords ((text, path.1) ∷ value ∷ time_words time)) found.0 are;
          path = found.1;
          is_value = number_ok kinds.BadValue next (read_as value.0) v b;
          is_time = time_found last moment time t c;
        };
        many = many;
      }

  metric_stands : Faulty P (metric_reading templates separator line moment)
  unfolding metric_reading
  metric_stands =
      next_faulty P (or_bad_path (path_of path.0)) _
      (path_stands P (path_of path.0) (λ f e. record {
        path = (0 + before, path.0);
        value = (next, value.0);
        others = spaced_at last (time_words time);
        words = has;
        none = no_path path.0 f e;
      }))
      (λ p a. next_faulty P (number_at kinds.BadValue next (read_as value.0)) _
      (number_stands P kinds.BadValue next value.0
      (λ no. record {
        path = (0 + before, path.0);
        value = (next, value.0);
        others = spaced_at last (time_words time);
        words = has;
        stands = refl;
        is = no;
      })
      (λ yes. inl (record {
        path = (0 + before, path.0);
        value = (next, value.0);
        others = spaced_at last (time_words time);
        words = has;
        stands = refl;
        is = yes;
      })))
      (λ v b. next_faulty P (time_of moment (timed last time)) _
      (time_stands P last moment time
      (λ word e no. record {
        path = (0 + before, path.0);
        value = (next, value.0);
        time = (last, word.0);
        words = third word e;
        stands = refl;
        is = no;
      })
      (λ word e yes. inr (record {
        path = (0 + before, path.0);
        value = (next, value.0);
        time = (last, word.0);
        words = third word e;
        stands = refl;
        is = yes;
      })))
      (λ t c. test_faulty P (ltb 64 (length (in_key_order (said_of separator (used templates p.segments) p v t).tags)))
      (fault kinds.TooMany 0) (Ok (Some (content_of (said_of separator (used templates p.segments) p v t))))
      (λ many. one_faulty P (record { kind = kinds.TooMany; offset = 0 }) (too_many p v t a b c many))
      (λ few. none_faulty P _))))

-- ---- the words of a piece

spaces_len : (n : ℕ) → length (spaces n) ≡ n
spaces_len zero = refl
spaces_len (suc n) = let rest = spaces_len n in omega arith

word_len : (word : Spaced) (words : List Spaced) → length (spaced_text (word ∷ words)) ≡ length word.0 + word.1 + length
    (spaced_text words)
word_len word words = omega (
  arith,
  length-append word.0 (spaces word.1 ++ spaced_text words),
  length-append (spaces word.1) (spaced_text words),
  spaces_len word.1,
)

-- the second word and the third begin within the piece
second_within : (piece : List ℕ) (before : ℕ) (path : Spaced) (words : List Spaced)
    → piece ≡ spaces before ++ spaced_text (path ∷ words) → 0 + before + length path.0 + path.1 ≤ length piece
second_within piece before path words is =
    omega (
      arith,
      ap length is,
      length-append (spaces before) (spaced_text (path ∷ words)),
      spaces_len before,
      word_len path words,
    )

third_within : (piece : List ℕ) (before : ℕ) (path value : Spaced) (words : List Spaced)
    → piece ≡ spaces before ++ spaced_text (path ∷ value ∷ words)
    → 0 + before + length path.0 + path.1 + length value.0 + value.1 ≤ length piece
third_within piece before path value words is =
    omega (
      arith,
      ap length is,
      length-append (spaces before) (spaced_text (path ∷ value ∷ words)),
      spaces_len before,
      word_len path (value ∷ words),
      word_len value words,
    )

-- what is so of a number of words and of the line that two of them or three are
words_faulty : (P : GraphiteFault → Type 0) (templates : List Shape) (separator : List ℕ) (moment : ℤ) (offset : ℕ)
    (words : List Spaced)
    → (length (spaced_at offset words) ≢ 2 → length (spaced_at offset words) ≢ 3
    → P (record { kind = kinds.FieldCount; offset = 0 }))
    → ((path value : Spaced) (time : Option Spaced) → words ≡ path ∷ value ∷ time_words time
    → Faulty P (metric_reading templates separator (record {
      path = (offset, path.0);
      value = (offset + length path.0 + path.1, value.0);
      time = timed (offset + length path.0 + path.1 + length value.0 + value.1) time;
    }) moment))
    → Faulty P (line_of (spaced_at offset words) >>= line_reading templates separator moment)
unfolding line_of words_behind last_word
words_faulty P templates separator moment offset [] count line = none_faulty P None
words_faulty P templates separator moment offset (path ∷ []) count line =
    one_faulty P (record { kind = kinds.FieldCount; offset = 0 })
    (count (λ e. absurd (omega (arith, e))) (λ e. absurd (omega (arith, e))))
words_faulty P templates separator moment offset (path ∷ value ∷ []) count line = line path value None refl
words_faulty P templates separator moment offset (path ∷ value ∷ time ∷ []) count line =
    line path value (Some time) refl
words_faulty P templates separator moment offset (path ∷ value ∷ time ∷ word ∷ words) count line =
    one_faulty P (record { kind = kinds.FieldCount; offset = 0 })
    (count (λ e. absurd (omega (arith, e))) (λ e. absurd (omega (arith, e))))

-- the words of a piece, as they are spaced
text_faulty : (P : GraphiteFault → Type 0) (templates : List Shape) (separator piece : List ℕ) (moment : ℤ)
    → (length (words_of (0, piece)) ≢ 2 → length (words_of (0, piece)) ≢ 3
    → P (record { kind = kinds.FieldCount; offset = 0 }))
    → ((before : ℕ) (path value : Spaced) (time : Option Spaced)
    → piece ≡ spaces before ++ spaced_text (path ∷ value ∷ time_words time) → AreWords (path ∷ value ∷ time_words time)
    → Faulty P (metric_reading templates separator (record {
      path = (0 + before, path.0);
      value = (0 + before + length path.0 + path.1, value.0);
      time = timed (0 + before + length path.0 + path.1 + length value.0 + value.1) time;
    }) moment))
    → Faulty P (text_reading templates separator piece moment)
unfolding text_reading
text_faulty P templates separator piece moment count line =
    let spaced = words_are_spaced piece in
    let words : words_of (0, piece) ≡ spaced_at (0 + spaced.0) spaced.1 =
    ap (λ (text : List ℕ). words_of (0, text)) spaced.2 ∙ spaced_are_words 0 spaced.0 spaced.1 spaced.3 in
    subst (λ (ws : List PartAt). Faulty P (line_of ws >>= line_reading templates separator moment)) (sym words)
    (words_faulty P templates separator moment (0 + spaced.0) spaced.1
    (λ two three. count (λ e. two (sym (ap length words) ∙ e)) (λ e. three (sym (ap length words) ∙ e)))
    (λ path value time e. line spaced.0 path value time (spaced.2
    ∙ ap (λ (ws : List Spaced). spaces spaced.0 ++ spaced_text ws) e) (subst AreWords e spaced.3)))

stand : (piece : List ℕ) (before : ℕ) (path value : Spaced) (time : Option Spaced)
    → piece ≡ spaces before ++ spaced_text (path ∷ value ∷ time_words time)
    → Stand piece (record {
      path = (0 + before, path.0);
      value = (0 + before + length path.0 + path.1, value.0);
      time = timed (0 + before + length path.0 + path.1 + length value.0 + value.1) time;
    })
stand piece before path value None is = record {
  value = second_within piece before path (value ∷ []) is;
  time = λ part e. absurd cc;
}
stand piece before path value (Some time) is = record {
  value = second_within piece before path (value ∷ time ∷ []) is;
  time = λ part e. let same : (0 + before + length path.0 + path.1 + length value.0 + value.1, time.0) ≡ part = cc in
      omega (arith, third_within piece before path value (time ∷ []) is, ap (λ (p : PartAt). p.0) same);
}

pub fault_is_within : FaultIsWithin
unfolding reading
fault_is_within templates separator piece moment f e =
    (test_faulty (Within piece) (is_utf8 piece) (text_reading templates separator piece moment)
    (fault kinds.NotUtf8 (utf8_valid_len piece))
    (λ u. text_faulty (Within piece) templates separator piece moment (λ two three. omega arith)
    (λ before path value time is are. metric_within templates separator piece _ moment
    (stand piece before path value time is)))
    (λ no. one_faulty (Within piece) (record { kind = kinds.NotUtf8; offset = utf8_valid_len piece })
    (utf8_valid_len_le piece))).at f e

pub fault_says : FaultSays
unfolding reading
fault_says templates separator piece moment f e =
    (test_faulty (Says templates separator piece moment) (is_utf8 piece) (text_reading templates separator piece moment)
    (fault kinds.NotUtf8 (utf8_valid_len piece))
    (λ u. record {
      at = λ g is. record {
        utf8 = inr (IsUtf8-from_is_utf8 piece u);
        stands = (text_faulty (Stands templates separator piece moment) templates separator piece moment
            (λ two three. (two, three)) (metric_stands templates separator piece moment)).at g is;
      };
    })
    (λ no. one_faulty (Says templates separator piece moment)
    (record { kind = kinds.NotUtf8; offset = utf8_valid_len piece })
    (record { utf8 = inl refl; stands = valid_up_to piece no }))).at f e

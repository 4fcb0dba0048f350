-- Lines as they are written.
use Rattle.std.proofs.Common.{◌≡◌, ℕ, ℤ, ◌+◌, Bool, true, false, cond, ltb, List, [], ◌∷◌, ◌++◌, length, Result, Ok}
use Rattle.std.proofs.Common.{Err, Option, Some, None, refl, sym, ap, subst, ◌∙◌, inl, inr}
use Rattle.std.specs.Str.{IsUtf8, is_utf8}
use Rattle.std.specs.Str.Lossy.{utf8_valid_len}
use Rattle.std.proofs.lemmas.Str.{IsUtf8-from_is_utf8, is_utf8-from_IsUtf8}
use Rattle.text_parts.specs.Chain.{◌>>=◌}
use Rattle.text_parts.specs.Split.{PartAt}
use Rattle.text_parts.specs.Words.{words_of, spaces, Spaced, spaced_text, spaced_at, AreWords}
use Rattle.text_parts.proofs.WordTexts.{spaced_are_words, words_are_spaced}
use Rattle.fixed_num.specs.declared.fixed.NumFault.{NumFault}
use Rattle.fixed_num.specs.declared.fixed.NumFault.TheVariants as numbers
use Rattle.fixed_num.specs.Fixed.{read_as}
use Rattle.metric.specs.declared.metric.Content.{Content}
use Rattle.metric.specs.Pairs.{in_key_order}
use Rattle.format_words.specs.declared.fault.ShapeFault.{ShapeFault}
use Rattle.format_words.specs.declared.fault.ShapeFault.TheVariants.{Malformed}
use Rattle.graphite_text.specs.declared.fault.GraphiteFault.{GraphiteFault}
use Rattle.graphite_text.specs.declared.fault.GraphiteKind.{GraphiteKind}
use Rattle.graphite_text.specs.declared.fault.GraphiteKind.TheVariants as kinds
use Rattle.graphite_text.specs.Path.{Path, path_of}
use Rattle.format_words.specs.Template.{Shape}
use Rattle.graphite_text.specs.Applied.{used}
use Rattle.graphite_text.specs.Reading.{Line, last_word, words_behind, line_of, or_bad_path, number_at, is_moment}
use Rattle.graphite_text.specs.Reading.{is_minus_one, moment_of, time_of, Said, content_of, limited, said_of}
use Rattle.graphite_text.specs.Reading.{metric_reading, line_reading, text_reading, reading}
use Rattle.graphite_text.specs.Grammar.{path_spelling, Written, time_words, line_words, line_spelling, IsMoment, IsTime}
use Rattle.graphite_text.specs.Grammar.{IsLine, said_in, has_too_many, WrittenIsRead, ReadIsWritten}
use Rattle.text_parts.proofs.Founds.{bind_ok, same_ok}
use Rattle.graphite_text.proofs.Spelling.{path_read, path_written}

-- ---- what is written is read

moment_read : (offset : ℕ) (moment n time : ℤ) → IsMoment moment n time → moment_of offset moment n ≡ Ok time
moment_read offset moment n time (inl h) = rw (h.0, h.1) refl
moment_read offset moment n time (inr h) = rw (h.0, h.1, h.2) refl

part_of : ℕ → Option Spaced → Option PartAt
part_of offset None = None
part_of offset (Some word) = Some (offset, word.0)

time_read : (offset : ℕ) (moment : ℤ) (word : Option Spaced) (time : ℤ) → IsTime moment word time
    → time_of moment (part_of offset word) ≡ Ok time
unfolding time_of part_of
time_read offset moment None time is = rw is refl
time_read offset moment (Some word) time is = rw (is.1) (moment_read offset moment is.0 time is.2)

metric_read : (templates : List Shape) (separator : List ℕ) (line : Line) (moment : ℤ) (path : Path) (value time : ℤ)
    → path_of line.path.1 ≡ Ok path → read_as line.value.1 ≡ Ok value → time_of moment line.time ≡ Ok time
    → has_too_many (said_of separator (used templates path.segments) path value time) ≡ false
    → metric_reading templates separator line moment ≡ Ok (Some
    (content_of (said_of separator (used templates path.segments) path value time)))
unfolding metric_reading
metric_read templates separator line moment path value time p v t few = rw (p, v, t, few) refl

line_is : (offset : ℕ) (path value : Spaced) (time : Option Spaced)
    → line_of (spaced_at offset (path ∷ value ∷ time_words time))
    ≡ Ok (Some (record {
      path = (offset, path.0);
      value = (offset + length path.0 + path.1, value.0);
      time = part_of (offset + length path.0 + path.1 + length value.0 + value.1) time;
    }))
unfolding line_of words_behind last_word part_of
line_is offset path value None = refl
line_is offset path value (Some time) = refl

text_read : (templates : List Shape) (separator : List ℕ) (w : Written) (moment value time : ℤ)
    → IsLine w moment value time → has_too_many (said_in templates separator w value time) ≡ false
    → text_reading templates separator (line_spelling w) moment ≡ Ok
    (Some (content_of (said_in templates separator w value time)))
unfolding text_reading
text_read templates separator w moment value time is few =
    let path : Spaced = (path_spelling w.path, w.path_spaces) in
    let words = spaced_are_words 0 w.before (line_words w) is.words in
    let line = ap line_of words ∙ line_is (0 + w.before) path (w.value, w.value_spaces) w.time in
    rw line
    (metric_read templates separator (record {
      path = (0 + w.before, path_spelling w.path);
      value = (0 + w.before + length (path_spelling w.path) + w.path_spaces, w.value);
      time = part_of (0 + w.before + length (path_spelling w.path) + w.path_spaces + length w.value + w.value_spaces)
          w.time;
    }) moment w.path value time (path_read w.path is.path) is.is_value (time_read _ moment w.time time is.is_time) few)

pub written_is_read : WrittenIsRead
unfolding reading
written_is_read templates separator w moment value time is u few =
    rw (is_utf8-from_IsUtf8 (line_spelling w) u) (text_read templates separator w moment value time is few)

-- ---- what is read is written

pub path_ok : (r : Result Path ShapeFault) (path : Path) → or_bad_path r ≡ Ok path → r ≡ Ok path
path_ok (Ok p) path e = ap (λ (x : Path). Ok x) (same_ok {F = GraphiteFault} p path e)
path_ok (Err Malformed) path e = absurd cc

pub number_ok : (kind : GraphiteKind) (offset : ℕ) (r : Result ℤ NumFault) (n : ℤ) → number_at kind offset r ≡ Ok n
    → r ≡ Ok n
number_ok kind offset (Ok m) n e = ap (λ (x : ℤ). Ok x) (same_ok {F = GraphiteFault} m n e)
number_ok kind offset (Err numbers.NotANumber) n e = absurd cc
number_ok kind offset (Err numbers.NumberRange) n e = absurd cc

fits_ok : (offset : ℕ) (moment n time : ℤ) (t : Bool) → is_minus_one n ≡ false → is_moment n ≡ t
    → cond {A = Result ℤ GraphiteFault} t (Ok n) (Err (record { kind = kinds.NumberRange; offset = offset })) ≡ Ok time
    → IsMoment moment n time
fits_ok offset moment n time true is fits e = inr (is, fits, sym (same_ok {F = GraphiteFault} n time e))
fits_ok offset moment n time false is fits e = absurd cc

moment_as : (offset : ℕ) (moment n time : ℤ) (t : Bool) → is_minus_one n ≡ t
    → cond {A = Result ℤ GraphiteFault} t (Ok moment) (cond (is_moment n) (Ok n)
    (Err (record { kind = kinds.NumberRange; offset = offset }))) ≡ Ok time → IsMoment moment n time
moment_as offset moment n time true is e = inl (is, sym (same_ok {F = GraphiteFault} moment time e))
moment_as offset moment n time false is e = fits_ok offset moment n time (is_moment n) is refl e

pub moment_ok : (offset : ℕ) (moment n time : ℤ) → moment_of offset moment n ≡ Ok time → IsMoment moment n time
moment_ok offset moment n time e = moment_as offset moment n time (is_minus_one n) refl e

time_ok : (offset : ℕ) (moment : ℤ) (word : Option Spaced) (time : ℤ) → time_of moment (part_of offset word) ≡ Ok time
    → IsTime moment word time
unfolding time_of part_of
time_ok offset moment None time e = sym (same_ok {F = GraphiteFault} moment time e)
time_ok offset moment (Some word) time e =
    let n = bind_ok (number_at kinds.BadTime offset (read_as word.0)) _ time e in
    (n.0, number_ok kinds.BadTime offset (read_as word.0) n.0 n.1, moment_ok offset moment n.0 time n.2)

some_or : Content → Result (Option Content) GraphiteFault → Content
some_or other (Ok (Some metric)) = metric
some_or other (Ok None) = other
some_or other (Err f) = other

limited_ok : (said : Said) (metric : Content) → limited said ≡ Ok (Some metric)
    → (has_too_many said ≡ false) × (metric ≡ content_of said)
unfolding some_or
limited_ok said metric e = elim (ltb 64 (length (in_key_order said.tags))) as
    (λ t. cond {A = Result (Option Content) GraphiteFault} t (Err (record { kind = kinds.TooMany; offset = 0 }))
    (Ok (Some (content_of said))) ≡ Ok (Some metric)
    → (t ≡ false) × (metric ≡ content_of said)) [
      | true ↦ λ e. absurd cc
      | false ↦ λ e. (refl, sym (ap (some_or metric) e))
    ] e

-- the line that was read
abbrev Found : List Shape → List ℕ → List ℕ → ℤ → Content → Type 0
Found templates separator piece moment metric = (w : Written) × (value : ℤ) × (time : ℤ) × (piece ≡ line_spelling w)
    × IsLine w moment value time
    × (has_too_many (said_in templates separator w value time) ≡ false)
    × (metric ≡ content_of (said_in templates separator w value time))

metric_ok : (templates : List Shape) (separator piece : List ℕ) (moment : ℤ) (metric : Content)
    (before offset next last : ℕ) (path value : Spaced) (time : Option Spaced)
    → piece ≡ spaces before ++ spaced_text (path ∷ value ∷ time_words time) → AreWords (path ∷ value ∷ time_words time)
    → metric_reading templates separator (record {
      path = (offset, path.0);
      value = (next, value.0);
      time = part_of last time;
    }) moment ≡ Ok (Some metric)
    → Found templates separator piece moment metric
unfolding metric_reading
metric_ok templates separator piece moment metric before offset next last path value time is are e =
    let p = bind_ok (or_bad_path (path_of path.0)) _ (Some metric) e in
    let v = bind_ok (number_at kinds.BadValue next (read_as value.0)) _ (Some metric) p.2 in
    let t = bind_ok (time_of moment (part_of last time)) _ (Some metric) v.2 in
    let written = path_written path.0 p.0 (path_ok (path_of path.0) p.0 p.1) in
    let done = limited_ok (said_of separator (used templates p.0.segments) p.0 v.0 t.0) metric t.2 in
    let w : Written = record {
      before = before;
      path = p.0;
      path_spaces = path.1;
      value = value.0;
      value_spaces =
          value.1;
      time = time;
    } in (
      w,
      v.0,
      t.0,
      is ∙ ap (λ (text : List ℕ). spaces before ++ spaced_text ((text, path.1) ∷ value ∷ time_words time)) written.0,
      record {
        words = subst (λ (text : List ℕ). AreWords ((text, path.1) ∷ value ∷ time_words time)) written.0 are;
        path = written.1;
        is_value = number_ok kinds.BadValue next (read_as value.0) v.0 v.1;
        is_time = time_ok last moment time t.0 t.1;
      },
      done.0,
      done.1,
    )

found_words : (templates : List Shape) (separator piece : List ℕ) (moment : ℤ) (metric : Content) (before : ℕ)
    (words : List Spaced) → piece ≡ spaces before ++ spaced_text words → AreWords words
    → (line_of (spaced_at (0 + before) words) >>= line_reading templates separator moment) ≡ Ok (Some metric)
    → Found templates separator piece moment metric
unfolding line_of words_behind last_word part_of
found_words templates separator piece moment metric before [] is are e = absurd cc
found_words templates separator piece moment metric before (path ∷ []) is are e = absurd cc
found_words templates separator piece moment metric before (path ∷ value ∷ []) is are e =
    metric_ok templates separator piece moment metric before _ _ 0 path value None is are e
found_words templates separator piece moment metric before (path ∷ value ∷ time ∷ []) is are e =
    metric_ok templates separator piece moment metric before _ _ _ path value (Some time) is are e
found_words templates separator piece moment metric before (path ∷ value ∷ time ∷ word ∷ words) is are e = absurd cc

found_text : (templates : List Shape) (separator piece : List ℕ) (moment : ℤ) (metric : Content)
    → text_reading templates separator piece moment ≡ Ok (Some metric) → Found templates separator piece moment metric
unfolding text_reading
found_text templates separator piece moment metric e =
    let spaced = words_are_spaced piece in
    let words : words_of (0, piece) ≡ spaced_at (0 + spaced.0) spaced.1 =
    ap (λ (text : List ℕ). words_of (0, text)) spaced.2 ∙ spaced_are_words 0 spaced.0 spaced.1 spaced.3 in
    found_words templates separator piece moment metric spaced.0 spaced.1 spaced.2 spaced.3
    (ap (λ (ws : List PartAt). line_of ws >>= line_reading templates separator moment) (sym words) ∙ e)

pub read_is_written : ReadIsWritten
unfolding reading
read_is_written templates separator piece moment metric e = elim (is_utf8 piece) as (λ t. is_utf8 piece ≡ t
    → cond {A = Result (Option Content) GraphiteFault} t (text_reading templates separator piece moment)
    (Err (record { kind = kinds.NotUtf8; offset = utf8_valid_len piece })) ≡ Ok (Some metric)
    → (w : Written) × (value : ℤ) × (time : ℤ) × (piece ≡ line_spelling w) × IsUtf8 piece × IsLine w moment value time
    × (has_too_many (said_in templates separator w value time) ≡ false)
    × (metric ≡ content_of (said_in templates separator w value time))) [
      | true ↦ λ u e.
          let found = found_text templates separator piece moment metric e in
          (found.0, found.1, found.2, found.3, IsUtf8-from_is_utf8 piece u, found.4, found.5, found.6)
      | false ↦ λ u e. absurd cc
    ] refl e

-- Samples whose texts are put among others.
use Rattle.std.proofs.Common.{◌≡◌, ◌<◌, ◌≤◌, ◌+◌, ℕ, ℤ, true, false, List, [], ◌∷◌, ◌++◌, length, get_or, take, drop}
use Rattle.std.proofs.Common.{map, refl, sym, ap, subst, ◌∙◌, arith, append_assoc, append-nil, length-append}
use Rattle.std.specs.List.{AllByRecursion, AllZip, All, flat_map}
use Rattle.std.specs.Prelude.{codes}
use Rattle.std.proofs.lemmas.Grind.{flat_map-append}
use Rattle.std.proofs.lemmas.List.{take_more, take_all, take-append-le, take_at, drop_at}
use Rattle.std.proofs.lemmas.List.Elements.{All-from_recursion}
use Rattle.std.proofs.lemmas.Slice.{between_is, between_to_end}
use Rattle.fixed_num.specs.Canonical.{canonical_text}
use Rattle.metric.specs.declared.metric.Content.{Content}
use Rattle.metric.specs.Draft.{Field}
use Rattle.metric.specs.Numbers.{is_text, number_text}
use Rattle.openmetrics_text.specs.Groups.{written_of, series_key}
use Rattle.openmetrics_text.specs.Texts.{text_in, written_in, IsExtentIn, IsWithin, IsAt, IsIn, AreIn, Puts}
use Rattle.openmetrics_text.specs.Writing.{Point, labels_of, written_labels, point_of, point_text, points_of_field}
use Rattle.openmetrics_text.specs.Writing.{points_of_metric, points_of}
use Rattle.openmetrics_text.specs.declared.texts.Extent.{Extent}
use Rattle.openmetrics_text.specs.declared.texts.Row.{Row}
use Rattle.openmetrics_text.specs.declared.texts.Texts.{Texts}

-- the line of a sample
pub assembled : (family labels number time : List ℕ) → ((family ++ labels ++ codes " ") ++ (number ++ codes " " ++ time)
    ++ codes "\n") ≡ family ++ (labels ++ 32 ∷ (number ++ 32 ∷ (time ++ 10 ∷ [])))
assembled family labels number time =
    append_assoc ((family ++ labels) ++ 32 ∷ []) ((number ++ 32 ∷ []) ++ time) (10 ∷ [])
    ∙ append_assoc (family ++ labels) (32 ∷ []) (((number ++ 32 ∷ []) ++ time) ++ 10 ∷ [])
    ∙ append_assoc family labels (32 ∷ (((number ++ 32 ∷ []) ++ time) ++ 10 ∷ []))
    ∙ ap (λ (text : List ℕ). family ++ (labels ++ 32 ∷ text)) (append_assoc (number ++ 32 ∷ []) time (10 ∷ [])
    ∙ append_assoc number (32 ∷ []) (time ++ 10 ∷ []))

pub line_is : (m : Content) (field : Field) (family labels : List ℕ) (time : ℤ) → family ≡ (point_of m field).family
    → labels ≡ written_labels (labels_of m.tags) → time ≡ m.time
    → ((family ++ labels ++ codes " ") ++ (number_text field.1 ++ codes " " ++ canonical_text time) ++ codes "\n")
    ≡ point_text (point_of m field)
unfolding point_text
line_is m field family labels time f l t =
    assembled family labels (number_text field.1) (canonical_text time)
    ∙ (λ j. f j ++ (l j ++ 32 ∷ (number_text field.1 ++ 32 ∷ (canonical_text (t j) ++ 10 ∷ []))))

-- ---- texts behind others

module _ (bytes more : List ℕ) where
  text_stays : (extent : Extent) → IsExtentIn bytes extent → text_in (bytes ++ more) extent ≡ text_in bytes extent
  text_stays extent h =
      between_is (bytes ++ more) extent.from extent.to ∙ ap (drop extent.from)
      (take-append-le extent.to bytes more h.within) ∙ sym (between_is bytes extent.from extent.to)

  extent_stays : (extent : Extent) → IsExtentIn bytes extent → IsExtentIn (bytes ++ more) extent
  extent_stays extent h = record { ordered = h.ordered; within = omega (arith, h.within, length-append bytes more) }

  at_stays : (extent : Extent) (text : List ℕ) → IsAt bytes extent text → IsAt (bytes ++ more) extent text
  at_stays extent text h = record {
    extent_in = extent_stays extent h.extent_in;
    is = text_stays extent h.extent_in
        ∙ h.is;
  }

  row_stays : (row : Row) (point : Point) → IsIn bytes row point → IsIn (bytes ++ more) row point
  row_stays row point h =
      let line = text_stays row.line h.within.line in
      let series = text_stays row.series h.within.series in
      let same : written_in (bytes ++ more) row ≡ written_in bytes row =
      λ j. record { family = take row.family (line j); series = series j; time = row.time; text = line j } in record {
        within = record {
          line = extent_stays row.line h.within.line;
          series = extent_stays row.series h.within.series;
          family = h.within.family;
        };
        is = same ∙ h.is;
      }

  rows_stay : (rows : List Row) (points : List Point) → AllZip (IsIn bytes) rows points
      → AllZip (IsIn (bytes ++ more)) rows points
  rows_stay [] [] h = tt
  rows_stay [] (point ∷ points) h = absurd h
  rows_stay (row ∷ rows) [] h = absurd h
  rows_stay (row ∷ rows) (point ∷ points) h = (row_stays row point h.0, rows_stay rows points h.1)

  -- the new text stands at the end
  text_behind : (from to : ℕ) → from ≡ length bytes → to ≡ length (bytes ++ more)
      → text_in (bytes ++ more) (record { from = from; to = to }) ≡ more
  text_behind from to f t =
      between_to_end (bytes ++ more) from to (omega (arith, t)) ∙ drop_at bytes more from (sym f)

  extent_behind : (from to : ℕ) → from ≡ length bytes → to ≡ length (bytes ++ more)
      → IsExtentIn (bytes ++ more) (record { from = from; to = to })
  extent_behind from to f t = record {
    ordered = omega (arith, f, t, length-append bytes more);
    within = omega (arith, t);
  }

  pub at_behind : (from to : ℕ) → from ≡ length bytes → to ≡ length (bytes ++ more)
      → IsAt (bytes ++ more) (record { from = from; to = to }) more
  at_behind from to f t = record { extent_in = extent_behind from to f t; is = text_behind from to f t }

-- one more row
rows-push : (bytes : List ℕ) (rows : List Row) (points : List Point) (row : Row) (point : Point)
    → AllZip (IsIn bytes) rows points → IsIn bytes row point
    → AllZip (IsIn bytes) (rows ++ row ∷ []) (points ++ point ∷ [])
rows-push bytes [] [] row point h is = (is, tt)
rows-push bytes [] (p ∷ points) row point h is = absurd h
rows-push bytes (r ∷ rows) [] row point h is = absurd h
rows-push bytes (r ∷ rows) (p ∷ points) row point h is = (h.0, rows-push bytes rows points row point h.1 is)

-- ---- what was put

pub puts_none : (texts : Texts) → Puts texts texts []
puts_none texts = record {
  more = [];
  grown = sym (append-nil texts.bytes.items);
  put = λ before h. subst (AreIn texts) (sym (append-nil before)) h;
}

pub puts_more : (old mid new : Texts) (first others : List Point) → Puts old mid first → Puts mid new others
    → Puts old new (first ++ others)
puts_more old mid new first others p q = record {
  more = p.more ++ q.more;
  grown = q.grown ∙ ap (λ (text : List ℕ). text ++ q.more) p.grown ∙ append_assoc old.bytes.items p.more q.more;
  put = λ before h. subst (AreIn new) (append_assoc before first others) (q.put (before ++ first) (p.put before h));
}

pub puts_at : (old new : Texts) (points : List Point) (extent : Extent) (text : List ℕ) → Puts old new points
    → IsAt old.bytes.items extent text → IsAt new.bytes.items extent text
puts_at old new points extent text p h = subst (λ (bytes : List ℕ). IsAt bytes extent text) (sym p.grown)
    (at_stays old.bytes.items p.more extent text h)

-- a text alone
pub puts_text : (old new : Texts) (text : List ℕ) → new.bytes.items ≡ old.bytes.items ++ text
    → new.rows.items ≡ old.rows.items → Puts old new []
puts_text old new text grown same = record {
  more = text;
  grown = grown;
  put = λ before h.
      subst (AreIn new) (sym (append-nil before))
      (subst (λ (bytes : List ℕ). AllZip (IsIn bytes) new.rows.items before) (sym grown)
      (subst (λ (rows : List Row). AllZip (IsIn (old.bytes.items ++ text)) rows before) (sym same)
      (rows_stay old.bytes.items text old.rows.items before h)));
}

-- a sample: its line, behind the others, begins with its family
pub puts_line : (old new : Texts) (point : Point) (extent : Extent) (family rest line : List ℕ) (from to : ℕ) (time : ℤ)
    → new.bytes.items ≡ old.bytes.items ++ line → new.rows.items ≡ old.rows.items
    ++ record { family = length family; series = extent; time = time; line = record { from = from; to = to } } ∷ []
    → from ≡ length old.bytes.items → to ≡ length new.bytes.items → line ≡ family ++ rest → line ≡ point_text point
    → family ≡ point.family → time ≡ point.time
    → IsAt old.bytes.items extent (series_key point.labels) → Puts old new (point ∷ [])
puts_line old new point extent family rest line from to time grown pushed f t front is named at series = record {
  more = line;
  grown = grown;
  put = λ before h.
      subst (λ (rows : List Row). AllZip (IsIn new.bytes.items) rows (before ++ point ∷ [])) (sym pushed)
      (rows-push new.bytes.items old.rows.items before row point
      (subst (λ (bytes : List ℕ). AllZip (IsIn bytes) old.rows.items before) (sym grown)
      (rows_stay old.bytes.items line old.rows.items before h))
      (subst (λ (bytes : List ℕ). IsIn bytes row point) (sym grown) in_line));
}
  where
    row : Row
    row = record { family = length family; series = extent; time = time; line = record { from = from; to = to } }

    behind : to ≡ length (old.bytes.items ++ line)
    behind = t ∙ ap length grown

    text : text_in (old.bytes.items ++ line) row.line ≡ line
    text = text_behind old.bytes.items line from to f behind

    begins : take (length family) (text_in (old.bytes.items ++ line) row.line) ≡ family
    begins = ap (take (length family)) (text ∙ front) ∙ take_at family rest (length family) refl

    key : text_in (old.bytes.items ++ line) extent ≡ series_key point.labels
    key = text_stays old.bytes.items line extent series.extent_in ∙ series.is

    in_line : IsIn (old.bytes.items ++ line) row point
    in_line = record {
      within = record {
        line = extent_behind old.bytes.items line from to f behind;
        series = extent_stays old.bytes.items line extent series.extent_in;
        family = omega (
          arith,
          f,
          behind,
          length-append old.bytes.items line,
          ap length front,
          length-append family rest,
        );
      };
      is = λ j. record { family = (begins ∙ named) j; series = key j; time = at j; text = (text ∙ is) j };
    }

-- the step of a loop that puts the samples of elements
module _ {A : Type 0} (points : A → List Point) (start : Texts) (xs : List A) where
  pub put_more : (now new : Texts) (i : ℕ) (x : A) → i < length xs → x ≡ get_or xs i x
      → Puts start now (flat_map points (take i xs)) → Puts now new (points x)
      → Puts start new (flat_map points (take (i + 1) xs))
  put_more now new i x lt is before put =
      let more : take (i + 1) xs ≡ take i xs ++ x ∷ [] = take_more xs i x lt
      ∙ ap (λ (y : A). take i xs ++ y ∷ []) (sym is) in
      let flat : flat_map points (take (i + 1) xs) ≡ flat_map points (take i xs) ++ points x =
      ap (flat_map points) more ∙ flat_map-append points (take i xs) (x ∷ [])
      ∙ ap (λ (ps : List Point). flat_map points (take i xs) ++ ps) (append-nil (points x)) in
      subst (Puts start new) (sym flat) (puts_more start now new (flat_map points (take i xs)) (points x) before put)

  pub put_all : (now : Texts) (i : ℕ) → length xs ≤ i → Puts start now (flat_map points (take i xs))
      → Puts start now (flat_map points xs)
  put_all now i le h = subst (λ (ys : List A). Puts start now (flat_map points ys)) (take_all i xs le) h

-- a text gives no sample
pub no_point : (texts : Texts) (m : Content) (field : Field) → is_text field.1 ≡ true
    → Puts texts texts (points_of_field m field)
no_point texts m field e = rw e (puts_none texts)

pub one_point : (old new : Texts) (m : Content) (field : Field) → is_text field.1 ≡ false
    → Puts old new (point_of m field ∷ []) → Puts old new (points_of_field m field)
one_point old new m field e put = rw e put

-- ---- the samples of a batch

pub none_in : (texts : Texts) → texts.rows.items ≡ [] → AreIn texts []
none_in texts e = subst (λ (rows : List Row). AllZip (IsIn texts.bytes.items) rows []) (sym e) tt

pub in_more : (batch : List Content) (now new : Texts) (i : ℕ) (m : Content) → i < length batch → m ≡ get_or batch i m
    → AreIn now (points_of (take i batch)) → Puts now new (points_of_metric m)
    → AreIn new (points_of (take (i + 1) batch))
unfolding points_of
in_more batch now new i m lt is before put =
    let more : take (i + 1) batch ≡ take i batch ++ m ∷ [] =
    take_more batch i m lt ∙ ap (λ (y : Content). take i batch ++ y ∷ []) (sym is) in
    let flat : flat_map points_of_metric (take (i + 1) batch) ≡ flat_map points_of_metric (take i batch)
    ++ points_of_metric m =
    ap (flat_map points_of_metric) more ∙ flat_map-append points_of_metric (take i batch) (m ∷ [])
    ∙ ap (λ (ps : List Point). flat_map points_of_metric (take i batch) ++ ps) (append-nil (points_of_metric m)) in
    subst (AreIn new) (sym flat) (put.put (flat_map points_of_metric (take i batch)) before)

pub in_all : (batch : List Content) (texts : Texts) (i : ℕ) → length batch ≤ i → AreIn texts (points_of (take i batch))
    → AreIn texts (points_of batch)
in_all batch texts i le h = subst (λ (ms : List Content). AreIn texts (points_of ms)) (take_all i batch le) h

-- ---- samples at extents

pub all_within : (bytes : List ℕ) (rows : List Row) (points : List Point) → AllZip (IsIn bytes) rows points
    → All (IsWithin bytes) rows
all_within bytes rows points h = All-from_recursion (IsWithin bytes) rows (each rows points h)
  where
    each : (rs : List Row) (ps : List Point) → AllZip (IsIn bytes) rs ps → AllByRecursion (IsWithin bytes) rs
    each [] [] h = tt
    each [] (p ∷ ps) h = absurd h
    each (r ∷ rs) [] h = absurd h
    each (r ∷ rs) (p ∷ ps) h = (h.0.within, each rs ps h.1)

pub rows_are : (bytes : List ℕ) (rows : List Row) (points : List Point) → AllZip (IsIn bytes) rows points
    → map (written_in bytes) rows ≡ map written_of points
rows_are bytes [] [] h = refl
rows_are bytes [] (point ∷ points) h = absurd h
rows_are bytes (row ∷ rows) [] h = absurd h
rows_are bytes (row ∷ rows) (point ∷ points) h =
    let rest = rows_are bytes rows points h.1 in
    λ j. h.0.is j ∷ rest j

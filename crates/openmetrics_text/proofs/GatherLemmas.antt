-- The text of what is gathered is the exposition.
use Rattle.std.proofs.Common.{◌≡◌, ◌<◌, ◌+◌, ℕ, ℤ, Bool, true, false, cond, not, List, [], ◌∷◌, ◌++◌, map, filter, take}
use Rattle.std.proofs.Common.{get_or, length, refl, sym, ap, ◌∙◌, append_assoc, append-nil}
use Rattle.std.specs.List.{fold, flat_map}
use Rattle.std.specs.Str.{bytes_eq}
use Rattle.std.specs.Prelude.{codes}
use Rattle.std.specs.Ordering.{int_cmp, match_ordering}
use Rattle.std.specs.declared.cmp.Ordering.TheVariants.{Less, Equal, Greater}
use Rattle.std.proofs.lemmas.Cmp.{int_ranked}
use Rattle.std.proofs.lemmas.Grind.{flat_map-append}
use Rattle.std.proofs.lemmas.List.{map_more}
use Rattle.std.proofs.lemmas.List.Folds.{flat_map-map}
use Rattle.std.proofs.lemmas.List.Sums.{fold-append}
use Rattle.metric.specs.Pairs.{first_of_each, put_in}
use Rattle.openmetrics_text.specs.Groups.{Grouped, Lines, Written, written_of, grouped, with_last, put_line}
use Rattle.openmetrics_text.specs.Groups.{by_time_on, lines_text, series_key, series_text, series_group, samples_text}
use Rattle.openmetrics_text.specs.Groups.{family_group, families_text}
use Rattle.openmetrics_text.specs.Writing.{Point, is_one_series, first_of_series, at_time, with_time, in_time_order_on}
use Rattle.openmetrics_text.specs.Writing.{in_family, series_of, point_text, type_text, family_text, families_of}
use Rattle.openmetrics_text.specs.Writing.{points_text}
use Rattle.metric.proofs.GroupLemmas.{made, put_one, put_are}
use Rattle.openmetrics_text.proofs.KeyLemmas.{one_key}

-- ---- by time

abbrev line_of : Point → ℤ × List ℕ
line_of point = (point.time, point_text point)

one_line : (points : List Point) (new : Point) → map line_of (with_time points new) ≡ put_line new.time (point_text new)
    (map line_of points)
unfolding with_time
one_line [] new = refl
one_line (point ∷ points) new =
    elim (int_cmp new.time point.time) as (λ o. o ≡ int_cmp new.time point.time
    → map line_of (at_time o new point points (with_time points new)) ≡ match_ordering o
    (line_of new ∷ line_of point ∷ map line_of points) ((point.time, point_text new) ∷ map line_of points)
    (line_of point ∷ put_line new.time (point_text new) (map line_of points))) [
      | Less ↦ λ e. refl
      | Equal ↦ λ e. ap (λ (time : ℤ). (time, point_text new) ∷ map line_of points)
          (int_ranked new.time point.time Equal e)
      | Greater ↦ λ e. ap (λ (lines : Lines). line_of point ∷ lines) (one_line points new)
    ] refl

lines_on : (kept points : List Point) → by_time_on (map line_of kept) (map written_of points) ≡ map line_of
    (in_time_order_on kept points)
unfolding in_time_order_on by_time_on
lines_on kept [] = refl
lines_on kept (point ∷ points) = ap (λ (lines : Lines). by_time_on lines (map written_of points))
    (sym (one_line kept point)) ∙ lines_on (with_time kept point) points

lines_are : (points : List Point) → series_text (map written_of points) ≡ flat_map point_text
    (in_time_order_on [] points)
unfolding lines_text series_text
lines_are points = ap (flat_map (λ (line : ℤ × List ℕ). line.1)) (lines_on [] points)
    ∙ flat_map-map (λ (line : ℤ × List ℕ). line.1) line_of (in_time_order_on [] points)

-- one more sample
pub by_time-push : (lines : Lines) (samples : List Written) (sample : Written)
    → by_time_on lines (samples ++ sample ∷ []) ≡ put_line sample.time sample.text (by_time_on lines samples)
unfolding by_time_on
by_time-push lines [] sample = refl
by_time-push lines (first ∷ samples) sample = by_time-push (put_line first.time first.text lines) samples sample

-- ---- by keys

all_last : (xs samples : List Written) → fold (λ (ys : List Written) (s : Written). ys ++ s ∷ []) xs samples ≡ xs
    ++ samples
all_last xs [] = sym (append-nil xs)
all_last xs (s ∷ samples) = all_last (xs ++ s ∷ []) samples ∙ append_assoc xs (s ∷ []) samples

module _ (key : Written → List ℕ) where
  abbrev put_by : List Grouped → Written → List Grouped
  put_by = put_one key with_last []

  grouped_is : (samples : List Written) → fold put_by [] samples ≡ grouped key samples
  unfolding grouped
  grouped_is samples =
      put_are key with_last [] samples
      ∙ ap (λ (f : List ℕ → List Written). map (λ k. (k, f k)) (first_of_each (map key samples)))
      (λ i. λ k. all_last [] (filter (λ s. bytes_eq k (key s)) samples) i)

  -- one more sample
  pub grouped-push : (samples : List Written) (sample : Written)
      → put_in (with_last sample) [] (grouped key samples) (key sample) ≡ grouped key (samples ++ sample ∷ [])
  grouped-push samples sample =
      ap (λ (gs : List Grouped). put_in (with_last sample) [] gs (key sample)) (sym (grouped_is samples))
      ∙ sym (fold-append put_by [] samples (sample ∷ []))
      ∙ grouped_is (samples ++ sample ∷ [])

  -- the step of a loop that groups what it makes of elements
  pub grouped_more : {A : Type 0} (f : A → Written) (xs : List A) (i : ℕ) (d : A) (sample : Written)
      (now new : List Grouped) → i < length xs → sample ≡ f (get_or xs i d)
      → now ≡ grouped key (map f (take i xs)) → new ≡ put_in (with_last sample) [] now (key sample)
      → new ≡ grouped key (map f (take (i + 1) xs))
  grouped_more f xs i d sample now new lt made before put =
      put
      ∙ (λ j. put_in (with_last (made j)) [] (before j) (key (made j)))
      ∙ grouped-push (map f (take i xs)) (f (get_or xs i d))
      ∙ ap (grouped key) (sym (map_more f xs i d lt))

  -- the groups of samples that are made of others, as a text
  grouped_text : (f : Grouped → List ℕ) (points : List Point) → flat_map f (grouped key (map written_of points))
      ≡ flat_map (λ k. f (k, map written_of (filter (λ point. bytes_eq k (key (written_of point))) points)))
      (first_of_each (map (λ point. key (written_of point)) points))
  unfolding grouped
  grouped_text f points =
      flat_map-map f (λ k. (k, filter (λ s. bytes_eq k (key s)) (map written_of points)))
      (first_of_each (map key (map written_of points)))
      ∙ ap (λ (keys : List (List ℕ)). flat_map (λ k. f (k, filter (λ s. bytes_eq k (key s)) (map written_of points)))
      (first_of_each keys)) (map-again points)
      ∙ ap (λ (g : List ℕ → List Written). flat_map (λ k. f (k, g k))
      (first_of_each (map (λ point. key (written_of point)) points)))
      (λ i. λ k. filter-again (λ s. bytes_eq k (key s)) points i)
    where
      map-again : (ps : List Point) → map key (map written_of ps) ≡ map (λ point. key (written_of point)) ps
      map-again [] = refl
      map-again (p ∷ ps) = ap (λ (ks : List (List ℕ)). key (written_of p) ∷ ks) (map-again ps)

      filter-again : (test : Written → Bool) (ps : List Point)
          → filter test (map written_of ps) ≡ map written_of (filter (λ point. test (written_of point)) ps)
      filter-again test [] = refl
      filter-again test (p ∷ ps) =
          elim (test (written_of p)) as (λ t. cond t (written_of p ∷ filter test (map written_of ps))
          (filter test (map written_of ps)) ≡ map written_of
          (cond t (p ∷ filter (λ point. test (written_of point)) ps) (filter (λ point. test (written_of point)) ps))) [
            | true ↦ ap (λ (rest : List Written). written_of p ∷ rest) (filter-again test ps)
            | false ↦ filter-again test ps
          ]

-- ---- by series

abbrev key_of : Point → List ℕ
key_of point = series_key point.labels

others_of : (point : Point) (points : List Point) → filter (λ k. not (bytes_eq (key_of point) k))
    (map key_of points) ≡ map key_of (filter (λ other. not (is_one_series point other)) points)
others_of point [] = refl
others_of point (other ∷ points) =
    rw (sym (one_key point.labels other.labels))
    (elim (is_one_series point other) as (λ t. cond (not t) (key_of other ∷ filter
    (λ k. not (bytes_eq (key_of point) k)) (map key_of points))
    (filter (λ k. not (bytes_eq (key_of point) k)) (map key_of points))
    ≡ map key_of (cond (not t) (other ∷ filter (λ o. not (is_one_series point o)) points)
    (filter (λ o. not (is_one_series point o)) points))) [
      | true ↦ others_of point points
      | false ↦ ap (λ (ks : List (List ℕ)). key_of other ∷ ks) (others_of point points)
    ])

first_keys : (points : List Point) → first_of_each (map key_of points) ≡ map key_of (first_of_series points)
unfolding first_of_each first_of_series
first_keys [] = refl
first_keys (point ∷ points) = ap (λ (ks : List (List ℕ)). key_of point ∷ ks)
    (ap (filter (λ k. not (bytes_eq (key_of point) k))) (first_keys points) ∙ others_of point (first_of_series points))

of_series : (point : Point) (points : List Point) → filter (λ p. bytes_eq (key_of point) (key_of p)) points ≡ filter
    (is_one_series point) points
of_series point points = ap (λ (test : Point → Bool). filter test points)
    (λ i. λ p. sym (one_key point.labels p.labels) i)

pub flat_flat : {A B C : Type 0} (g : B → List C) (f : A → List B) (xs : List A)
    → flat_map g (flat_map f xs) ≡ flat_map (λ x. flat_map g (f x)) xs
flat_flat g f [] = refl
flat_flat g f (x ∷ xs) = flat_map-append g (f x) (flat_map f xs)
    ∙ ap (λ rest. flat_map g (f x) ++ rest) (flat_flat g f xs)

pub flat_same : {A C : Type 0} (f g : A → List C) (xs : List A) → ((x : A) → f x ≡ g x) → flat_map f xs ≡ flat_map g xs
flat_same {A = A} {C = C} f g xs same = ap (λ (h : A → List C). flat_map h xs) (λ i. λ x. same x i)

series_are : (points : List Point) → samples_text (map written_of points) ≡ flat_map point_text (series_of points)
unfolding samples_text series_of
series_are points =
    grouped_text (λ sample. sample.series) series_group points
    ∙ ap (flat_map (λ k. series_text (map written_of (filter (λ point. bytes_eq k (key_of point)) points))))
    (first_keys points)
    ∙ flat_map-map (λ k. series_text (map written_of (filter (λ point. bytes_eq k (key_of point)) points))) key_of
    (first_of_series points)
    ∙ flat_same _ _ (first_of_series points) (λ first. ap (λ ps. series_text (map written_of ps))
    (of_series first points) ∙ lines_are (filter (is_one_series first) points))
    ∙ sym (flat_flat point_text (λ first. in_time_order_on [] (filter (is_one_series first) points))
    (first_of_series points))

-- ---- by family

families_are : (points : List Point) → families_text (map written_of points) ≡ flat_map
    (λ family. family_text family (in_family family points)) (families_of points)
unfolding families_text family_text
families_are points =
    grouped_text (λ sample. sample.family) family_group points
    ∙ flat_same _ _ (families_of points) (λ family. ap (λ text. type_text family ++ text)
    (series_are (in_family family points)))

pub text_is : (points : List Point) → families_text (map written_of points) ++ codes "# EOF\n" ≡ points_text points
unfolding points_text
text_is points = ap (λ text. text ++ codes "# EOF\n") (families_are points)
